use mathlib.Core.Path.{sym, ◌∙◌}
use mathlib.Core.Bool.{true, false}
use Rattle.laws.proofs.Signed.{negated}
use Rattle.numerals.proofs.Values as values
use Rattle.numerals.proofs.crisp.Goals as goal

pub returns-in_err-n : goal.returns-in_err-n
returns-in_err-n c = rw c.from_residual.ensures (values.crisp_by c.args.w.now ∙ c.in_err-n.ensures)

pub returns-then-is_negative : goal.returns-then-is_negative
returns-then-is_negative c =
    let n = c.in_ok-n in
    values.crisp_is c.args.w.now n.field-0 n.ensures.0 n.ensures.1 n.ensures.2 true (sym c.is_negative.ensures ∙ c.if-is_negative.true) _
    (negated n.field-0 n.ensures.2)

pub returns-else-is_negative : goal.returns-else-is_negative
returns-else-is_negative c =
    let n = c.in_ok-n in
    values.crisp_is c.args.w.now n.field-0 n.ensures.0 n.ensures.1 n.ensures.2 false (sym c.is_negative.ensures ∙ c.if-is_negative.false) _
    (values.plus_is n.field-0 n.ensures.2)
