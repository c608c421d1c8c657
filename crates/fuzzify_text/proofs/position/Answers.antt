use mathlib.Core.Path.{◌≡◌, sym, ap, ◌∙◌}
use lib.IntN.{ℤ}
use Rattle.term_rules.specs.Positions.{may_stand}
use Rattle.cursor.proofs.Laws.{never_zero}
use Rattle.fuzzify_text.proofs.Laws as laws
use Rattle.fuzzify_text.proofs.position.Goals as goal

pub returns-in-Err-clause-step : goal.returns-in-Err-clause-step
returns-in-Err-clause-step c =
    let a = c.args in
    laws.position_none a.s.now a.c c.refuse_for.result a.n a.last _ c.in-Err.ensures.checked (never_zero c.in-Err.fault) (c.refuse_for.ensures.by_index _ c.requires)

pub returns-in-Ok-clause-step : goal.returns-in-Ok-clause-step
returns-in-Ok-clause-step c =
    let a = c.args in
    laws.position_good a.s.now a.c c.advance.result a.n a.last c.in-Ok.ensures.checked
    (ap (λ (x : ℤ). may_stand a.n a.last x) (sym c.in-Ok.ensures.value.1) ∙ sym c.may_stand.ensures ∙ c.if-may_stand.true) c.advance.ensures.step

pub returns-in-Ok-2-clause-step : goal.returns-in-Ok-2-clause-step
returns-in-Ok-2-clause-step c =
    let a = c.args in
    let e : c.in-Ok.value ≡ c.in-Ok-2.field-0 = cc in
    laws.position_low a.s.now a.c c.refuse_for-in-Ok-2.result a.n a.last c.in-Ok-2.ensures.checked
    (ap (λ (x : ℤ). may_stand a.n a.last x) (sym c.in-Ok-2.ensures.value.1) ∙ (rw e at (sym c.may_stand.ensures)) ∙ c.if-may_stand.false)
    (c.refuse_for-in-Ok-2.ensures.by_index _ c.requires)
