use native.Mathlib.Omega.{arith}
use Rattle.cursor.proofs.Laws.{never_zero}
use Rattle.defuzzify_text.proofs.Laws as laws
use Rattle.defuzzify_text.specs.Output.{with_outputs}
use Rattle.defuzzify_text.proofs.defuzzify_named.Goals as goal

pub returns-in-Err-clause-collects : goal.returns-in-Err-clause-collects
returns-in-Err-clause-collects c =
    let a = c.args in
    λ t g. laws.part_none a.s.now a.p.cursor (with_outputs a.names.now a.p t).tables c.refuse_for-q.result _
    (c.in-Err.ensures.by_index _ g.fits _ 0) (never_zero c.in-Err.fault) g.holds (c.refuse_for-q.ensures.by_index _ g.fits)

pub returns-in_default-find-clause-collects : goal.returns-in_default-find-clause-collects
returns-in_default-find-clause-collects c =
    let a = c.args in
    λ t g. laws.part_unknown a.s.now a.p.cursor (with_outputs a.names.now a.p t).tables
    (c.in_default.ensures.by_index _ g.fits _ 0) _
    (laws.output_found _ _ _ _ g.holds c.in_default-find.ensures) c.refuse_for-q-in_default-find.result (omega arith) g.holds
    (c.refuse_for-q-in_default-find.ensures.by_index _ g.fits)

pub returns-then-p-o-ne0-clause-collects : goal.returns-then-p-o-ne0-clause-collects
returns-then-p-o-ne0-clause-collects c =
    let a = c.args in
    λ t g. laws.part_again a.s.now a.p.cursor (with_outputs a.names.now a.p t).tables
    (c.in_default.ensures.by_index _ g.fits _ 0) _
    (laws.output_found _ _ _ _ g.holds c.in-Some.ensures.0) c.refuse_for-q-then-p-o-ne0.result c.in-Some.ensures.1 c.if-p-o-ne0.true g.holds
    (c.refuse_for-q-then-p-o-ne0.ensures.by_index _ g.fits)

pub returns-clause-collects : goal.returns-clause-collects
returns-clause-collects c =
    let a = c.args in
    λ t g. laws.part_read a.s.now a.p.cursor (with_outputs a.names.now a.p t).tables
    (c.in_default.ensures.by_index _ g.fits _ 0) _ (laws.output_found _ _ _ _ g.holds c.in-Some.ensures.0)
    c.advance-q.result _ c.in-Some.ensures.1 c.if-p-o-ne0.false g.holds c.advance-q.ensures.step
    (c.output_part.ensures.collects t (record { fits = c.advance-q.ensures.step.fits; holds = g.holds }))
