use Rattle.cursor.proofs.Laws.{never_zero}
use Rattle.defuzzify_text.proofs.Laws as laws
use Rattle.defuzzify_text.specs.Output.{with_outputs}
use Rattle.cursor.proofs.Laws.{steps}
use Rattle.parse_state.proofs.Laws as reading
use Rattle.defuzzify_text.proofs.range_from.Goals as goal

pub returns-in-Err-clause-by_index : goal.returns-in-Err-clause-by_index
returns-in-Err-clause-by_index c =
    let a = c.args in
    let why = c.in-Err.ensures in
    λ names t g. laws.range_lost a.s.now a.p.cursor c.refuse_for.result (with_outputs names a.p t).tables a.o _ (why.checked _ 0) (never_zero c.in-Err.fault)
    g.holds c.refuse_for.ensures.halted (c.refuse_for.ensures.by_index _ g.fits)

pub returns-clause-by_index : goal.returns-clause-by_index
returns-clause-by_index c =
    let a = c.args in
    let x = c.in-Ok.ensures in
    λ names t g.
    let u = c.upper_end-r.ensures.by_index names t (record { fits = c.expect-e.ensures.step.fits; holds = g.holds }) in
    reading.also (reading.next (reading.next (reading.next
    (laws.is_crisp_lem a.s.now a.p.cursor c.advance-d.result (with_outputs names a.p t).tables a.o (x.checked _ 0) g.holds
    c.advance-d.ensures.step) (reading.step _ g.holds c.expect-e.ensures.step)) u)
    (reading.step _ u.good.holds (steps c.expect-g.ensures.step c.expect-r.ensures.step)))
    (laws.range_is a.s.now (with_outputs names a.p t) a.o _ x.value.1)
