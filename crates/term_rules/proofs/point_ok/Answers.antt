use mathlib.Core.Path.{sym, ◌∙◌}
use Rattle.model.specs.WellFormed.{point_ok}
use Rattle.term_rules.proofs.point_ok.Goals as goal

pub returns-then-in_bounds : goal.returns-then-in_bounds
unfolding point_ok
returns-then-in_bounds c = c.is_unit.ensures ∙ sym (simp (sym c.in_bounds.ensures ∙ c.if-in_bounds.true))

pub returns-else-in_bounds : goal.returns-else-in_bounds
unfolding point_ok
returns-else-in_bounds c = c.if-in_bounds.false ∙ sym (simp (sym c.in_bounds.ensures ∙ c.if-in_bounds.false))
