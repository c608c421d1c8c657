use native.Mathlib.Omega.{arith}
use Rattle.rule_text.specs.Progress.{midst}
use Rattle.cursor.proofs.Laws.{never_zero}
use Rattle.rule_text.proofs.Laws as laws
use Rattle.rule_text.proofs.weighted.Goals as goal

pub returns-then-c-ne-WITH-clause-m_value : goal.returns-then-c-ne-WITH-clause-m_value
returns-then-c-ne-WITH-clause-m_value c = λ b rs q m h. laws.weight_none _ b rs q m _ c.if-c-ne-WITH.true h

pub returns-in-Err-clause-m_value : goal.returns-in-Err-clause-m_value
returns-in-Err-clause-m_value c =
    let s = c.args.s.now in
    let a = c.advance-d.ensures.step in
    let why = c.in-Err.ensures in
    λ b rs q m h. laws.weight_fault s b rs q m _ _ c.if-c-ne-WITH.false a _ _ (why.checked (midst b rs q) m) (never_zero c.in-Err.fault)
    (c.refuse_for.ensures.by_index s a.fits) h

pub returns-in-Ok-clause-m_value : goal.returns-in-Ok-clause-m_value
returns-in-Ok-clause-m_value c =
    let a = c.advance-d.ensures.step in
    let weight = c.in-Ok.ensures in
    λ b rs q m h. laws.weight_given c.args.s.now b rs q m _ _ c.if-c-ne-WITH.false a _ _ (weight.checked (midst b rs q) m) c.advance.ensures.step
    (a.fits.halted (λ z. omega (arith, weight.value.0))) weight.value.1
