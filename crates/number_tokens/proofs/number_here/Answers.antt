use mathlib.Core.Path.{◌≡◌}
use Rattle.model.specs.Tokens.{is_rule_number, decimal}
use Rattle.number_tokens.proofs.Laws as laws
use Rattle.number_tokens.proofs.number_here.Goals as goal

pub returns-then-c-ne-NUMBER-clause-checked : goal.returns-then-c-ne-NUMBER-clause-checked
returns-then-c-ne-NUMBER-clause-checked c = λ b n. laws.no_number c.args.s.now c.args.c is_rule_number c.if-c-ne-NUMBER.true b n

pub returns-clause-checked : goal.returns-clause-checked
returns-clause-checked c = λ b n.
    rw c.ok_or.ensures.value (laws.checked c.args.s.now c.args.c is_rule_number c.if-c-ne-NUMBER.false (λ w x. x ≡ decimal w) c.rule_number.result
    c.rule_number.ensures.value b n)

pub returns-clause-value : goal.returns-clause-value
returns-clause-value c =
    rw c.ok_or.ensures.value (laws.value c.args.s.now c.args.c is_rule_number c.if-c-ne-NUMBER.false (λ w x. x ≡ decimal w) c.rule_number.result c.rule_number.ensures.value)
