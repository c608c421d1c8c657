use mathlib.Core.Path.{◌≡◌}
use Rattle.model.specs.Tokens.{is_unit, unit_of}
use Rattle.number_tokens.proofs.Laws as laws
use Rattle.number_tokens.proofs.unit_here.Goals as goal

pub returns-then-c-ne-NUMBER-clause-checked : goal.returns-then-c-ne-NUMBER-clause-checked
returns-then-c-ne-NUMBER-clause-checked c = λ b n. laws.no_number c.args.s.now c.args.c is_unit c.if-c-ne-NUMBER.true b n

pub returns-clause-checked : goal.returns-clause-checked
returns-clause-checked c = λ b n.
    rw c.ok_or.ensures.value (laws.checked c.args.s.now c.args.c is_unit c.if-c-ne-NUMBER.false (λ w x. x.0 ≡ unit_of w) c.unit.result
    c.unit.ensures b n)

pub returns-clause-value : goal.returns-clause-value
returns-clause-value c =
    rw c.ok_or.ensures.value (laws.value c.args.s.now c.args.c is_unit c.if-c-ne-NUMBER.false (λ w x. x.0 ≡ unit_of w) c.unit.result c.unit.ensures)
