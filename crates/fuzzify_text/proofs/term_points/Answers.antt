use mathlib.Core.Path.{refl}
use native.Mathlib.Omega.{arith}
use Rattle.model.specs.Declarations.{end_of_points}
use Rattle.fuzzify_text.specs.Terms.{no_points}
use Rattle.fuzzify_text.proofs.Laws as laws
use Rattle.fuzzify_text.proofs.term_points.Goals as goal

pub returns : goal.returns
returns c =
    let r = c.points-r in
    let d = c.expect in
    let a = c.args in
    laws.next {g = end_of_points} (laws.next (laws.step (no_points a.c) (omega arith) refl d.ensures.step) r.ensures)
    (laws.also {g = end_of_points} (laws.step r.result r.ensures.room.few r.ensures.room.size c.end_of_points-r.ensures)
    (laws.points_end a.s.now r.result))
