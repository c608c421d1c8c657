use mathlib.Core.Path.{sym, ◌∙◌}
use Rattle.tokens.proofs.is_signed.Goals as goal

pub returns-then-is_sign : goal.returns-then-is_sign
returns-then-is_sign c = simp (sym c.is_sign.ensures ∙ c.if-is_sign.true) c.digit_at.ensures

pub returns-else-is_sign : goal.returns-else-is_sign
returns-else-is_sign c = simp (c.if-is_sign.false, sym c.is_sign.ensures ∙ c.if-is_sign.false)
