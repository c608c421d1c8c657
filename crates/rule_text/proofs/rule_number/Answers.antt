use mathlib.Core.Path.{◌≡◌, sym, ◌∙◌}
use Rattle.cursor.proofs.Laws.{never_zero}
use Rattle.rule_text.proofs.Laws as laws
use Rattle.rule_text.proofs.rule_number.Goals as goal

pub returns-in-Err-clause-m_value : goal.returns-in-Err-clause-m_value
returns-in-Err-clause-m_value c =
    let s = c.args.s.now in
    let why = c.in-Err.ensures in
    λ b m w. (c.refuse_for.ensures.by_index s c.requires.0).reads b m ∙ sym (laws.number_fault s _ b m _ (why.checked b m) (never_zero c.in-Err.fault))

pub returns-in-Ok-clause-m_value : goal.returns-in-Ok-clause-m_value
returns-in-Ok-clause-m_value c =
    let s = c.args.s.now in
    let number = c.in-Ok.ensures in
    λ b m w. (c.refuse_for-in-Ok.ensures.by_index s c.requires.0).reads b m ∙ sym (laws.number_used s _ b m (number.checked b m) _ number.value.1
    (sym c.if-is_used.true ∙ c.is_used.ensures b.rules w))

pub returns-in-Ok-2-clause-m_value : goal.returns-in-Ok-2-clause-m_value
returns-in-Ok-2-clause-m_value c =
    let s = c.args.s.now in
    let number = c.in-Ok-2.ensures in
    let e : c.in-Ok.number ≡ c.in-Ok-2.number = cc in
    λ b m w. c.advance.ensures.step.reads b m ∙ sym (laws.number_free s _ b m (number.checked b m) _ number.value.1
    (sym c.if-is_used.false ∙ (rw e at (c.is_used.ensures b.rules w))))
