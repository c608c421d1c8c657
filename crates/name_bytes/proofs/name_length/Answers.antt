use Rattle.std.proofs.Common.{sym, ◌∙◌, true, false}
use Rattle.name_bytes.proofs.Names.{clean, judged, untidy}
use Rattle.name_bytes.proofs.name_length.Goals as goal

pub returns-in_err-n : goal.returns-in_err-n
returns-in_err-n c = c.from_residual.ensures ∙ untidy _ c.in_err-n.ensures.value

pub is_name-requires : goal.is_name-requires
is_name-requires c = clean _ _ c.in_ok-n.ensures.value

pub returns-then-is_name : goal.returns-then-is_name
returns-then-is_name c = judged _ _ c.in_ok-n.ensures.value true (sym c.is_name.ensures ∙ c.if-is_name.true)

pub returns-else-is_name : goal.returns-else-is_name
returns-else-is_name c = judged _ _ c.in_ok-n.ensures.value false (sym c.is_name.ensures ∙ c.if-is_name.false)
