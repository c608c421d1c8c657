use native.Mathlib.Omega.{arith}
use Rattle.cursor.proofs.Laws.{never_zero}
use Rattle.fuzzify_text.proofs.Laws as laws
use Rattle.fuzzify_text.proofs.degree.Goals as goal

pub returns-in-Err : goal.returns-in-Err
returns-in-Err c =
    let a = c.args in
    λ n last. laws.degree_bad a.s.now a.c c.refuse_for.result n last a.x.0 _ c.in-Err.ensures.checked (never_zero c.in-Err.fault)
    (c.refuse_for.ensures.by_index _ c.requires) c.refuse_for.ensures.halted

pub returns-in-Ok : goal.returns-in-Ok
returns-in-Ok c =
    let a = c.args in
    let y = c.in-Ok.ensures in
    λ n last. laws.degree_good a.s.now a.c c.advance.result n last (record { at = a.x; degree = c.in-Ok.degree }) y.checked y.value.1
    (c.requires.halted (λ q. omega (arith, y.value.0))) c.advance.ensures.step
