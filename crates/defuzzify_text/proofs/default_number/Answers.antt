use native.Mathlib.Omega.{arith}
use Rattle.model.specs.Block.{with_default}
use Rattle.block_tables.proofs.Rows.{default_set}
use Rattle.cursor.proofs.Laws.{never_zero}
use Rattle.defuzzify_text.proofs.Laws as laws
use Rattle.defuzzify_text.specs.Output.{with_outputs}
use Rattle.defuzzify_text.proofs.default_number.Goals as goal

pub returns-in-Err-clause-by_index : goal.returns-in-Err-clause-by_index
returns-in-Err-clause-by_index c =
    let a = c.args in
    let why = c.in-Err.ensures in
    λ names t g. laws.figure_none a.s.now a.p.cursor c.refuse_for.result (with_outputs names a.p t).tables a.o with_default c.requires.1 _
    (why.checked _ 0) (never_zero c.in-Err.fault) g.holds (c.refuse_for.ensures.by_index _ g.fits)

pub returns-in-Ok-clause-by_index : goal.returns-in-Ok-clause-by_index
returns-in-Ok-clause-by_index c =
    let a = c.args in
    let x = c.in-Ok.ensures in
    λ names t g. laws.figure_set a.s.now a.p.cursor c.advance-r.result (with_outputs names a.p t).tables a.o with_default c.requires.1 _ _
    (x.checked _ 0) x.value.1 g.fits (λ q. omega (arith, x.value.0))
    (default_set a.s.now (with_outputs names a.p t).tables a.o _ c.requires.1 g.holds) c.advance-r.ensures.step
