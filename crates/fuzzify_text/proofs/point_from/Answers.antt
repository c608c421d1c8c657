use native.Mathlib.Omega.{arith}
use Rattle.fuzzify_text.proofs.Laws as laws
use Rattle.fuzzify_text.proofs.point_from.Goals as goal

pub returns-in_default : goal.returns-in_default
returns-in_default c =
    let y = c.position-a in
    let a = c.args in
    laws.from_lost a.s.now a.c y.result.cursor a.n a.last y.ensures.step (rw c.in_default.is at y.ensures.value)

pub expect-r-requires : goal.expect-r-requires
expect-r-requires c = ((c.degree-r.ensures 0 c.args.last).fits, omega arith)

pub returns : goal.returns
returns c =
    let e = c.expect-e in
    let y = c.position-a in
    let a = c.args in
    let r = c.degree-r in
    laws.from_good a.s.now a.c y.result.cursor a.n a.last y.ensures.step e.result r.result c.expect-r.result _
    (rw c.in-Some.is at y.ensures.value) e.ensures.step (r.ensures a.n a.last) c.expect-r.ensures.step
