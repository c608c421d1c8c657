use native.Mathlib.Omega.{arith}
use Rattle.block_text.proofs.Laws as laws
use Rattle.block_text.proofs.back.Goals as goal

pub expect-d-requires : goal.expect-d-requires
expect-d-requires c = (c.requires, omega arith)

pub returns-then-d : goal.returns-then-d
returns-then-d c =
    let x = c.expect-d.ensures.step in
    let r = c.refuse_for in
    laws.no_end _ _ _ _ x r.result r.ensures.halted c.if-d.true (r.ensures.by_index _ x.fits)

pub returns-then-not-complete : goal.returns-then-not-complete
returns-then-not-complete c =
    let x = c.expect-d.ensures.step in
    let r = c.refuse_for-then-not-complete in
    laws.part_missing _ _ _ _ x c.if-d.false r.result r.ensures.halted c.if-not-complete.true (r.ensures.by_index _ x.fits)

pub advance-e-requires : goal.advance-e-requires
advance-e-requires c = (c.expect-d.ensures.step.fits, λ z. omega (arith, c.if-d.false))

pub returns-then-e-eq-END : goal.returns-then-e-eq-END
returns-then-e-eq-END c =
    let x = c.expect-d.ensures.step in
    laws.at_end _ _ _ _ x c.if-d.false c.advance-e.result c.if-not-complete.false c.advance-e.ensures.step c.if-e-eq-END.true

pub returns : goal.returns
returns c =
    let x = c.expect-d.ensures.step in
    let r = c.refuse_for-2 in
    laws.not_at_end _ _ _ _ x c.if-d.false c.advance-e.result c.if-not-complete.false c.advance-e.ensures.step r.result
    c.if-e-eq-END.false (r.ensures.by_index _ c.advance-e.ensures.step.fits)
