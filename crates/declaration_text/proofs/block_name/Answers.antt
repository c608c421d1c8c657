use native.Mathlib.Omega.{arith}
use Rattle.block_tables.specs.Changes.{named}
use Rattle.block_tables.proofs.Inputs.{is_named}
use Rattle.cursor.proofs.Laws.{never_zero}
use Rattle.declaration_text.proofs.Laws as laws
use Rattle.declaration_text.proofs.block_name.Goals as goal

pub returns-in-Err : goal.returns-in-Err
returns-in-Err c =
    let a = c.args in
    λ t g.
    laws.name_bad a.s.now a.c (named t 0 0) c.refuse_for.result _ (c.in-Err.ensures.by_index _ g.fits _ 0)
    g.holds (never_zero c.in-Err.fault) (c.refuse_for.ensures.by_index _ g.fits)

pub returns : goal.returns
returns c =
    let a = c.args in
    let e = c.in_default.ensures in
    λ t g.
    laws.name_good a.s.now a.c (named t 0 0) c.advance.result (named t a.c.start a.c.end) (e.by_index _ g.fits _ 0)
    g.fits (λ q. omega (arith, e.kind))
    (is_named a.s.now (named t 0 0) _ _ g.holds g.fits.order g.fits.inside) c.advance.ensures.step
