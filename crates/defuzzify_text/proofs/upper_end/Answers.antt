use mathlib.Core.Path.{sym, ◌∙◌}
use native.Mathlib.Omega.{arith}
use Rattle.block_tables.proofs.Rows.{range_set}
use Rattle.cursor.proofs.Laws.{never_zero}
use Rattle.defuzzify_text.proofs.Laws as laws
use Rattle.defuzzify_text.specs.Output.{with_outputs}
use Rattle.defuzzify_text.proofs.upper_end.Goals as goal

pub returns-in-Err-clause-by_index : goal.returns-in-Err-clause-by_index
returns-in-Err-clause-by_index c =
    let a = c.args in
    let why = c.in-Err.ensures in
    λ names t g. laws.upper_none a.s.now a.p.cursor c.refuse_for.result (with_outputs names a.p t).tables a.o a.x.0 _
    (why.checked _ 0) (never_zero c.in-Err.fault) g.holds (c.refuse_for.ensures.by_index _ g.fits)

pub returns-in-Ok-clause-by_index : goal.returns-in-Ok-clause-by_index
returns-in-Ok-clause-by_index c =
    let a = c.args in
    let y = c.in-Ok.ensures in
    λ names t g. laws.upper_set a.s.now a.p.cursor c.advance-r.result (with_outputs names a.p t).tables a.o a.x.0 (y.checked _ 0) _
    y.value.1 _ (sym c.less.ensures ∙ c.if-less.true) g.fits (λ q. omega (arith, y.value.0))
    (range_set a.s.now (with_outputs names a.p t).tables a.o a.x _ c.requires.1 g.holds) c.advance-r.ensures.step

pub returns-in-Ok-2-clause-by_index : goal.returns-in-Ok-2-clause-by_index
returns-in-Ok-2-clause-by_index c =
    let a = c.args in
    let y = c.in-Ok.ensures in
    λ names t g. laws.upper_low a.s.now a.p.cursor c.refuse_for-in-Ok-2.result (with_outputs names a.p t).tables a.o a.x.0 (y.checked _ 0) _
    y.value.1 (sym c.less.ensures ∙ c.if-less.false) g.holds (c.refuse_for-in-Ok-2.ensures.by_index _ g.fits)
