use mathlib.Core.Path.{refl}
use native.Mathlib.Omega.{arith}
use Rattle.model.specs.Declarations.{output_declaration}
use Rattle.parse_state.proofs.Laws as reading
use Rattle.cursor.proofs.Laws.{steps}
use Rattle.declaration_text.proofs.output_declaration.Goals as goal

pub returns : goal.returns
unfolding output_declaration
returns c =
    let x = c.outputs-q.ensures in
    let a = c.expect-q.ensures.step in
    let b = c.expect-q-2.ensures.step in
    let e = c.expect-q-3.ensures.step in
    record {
      collects = λ t g. let u = x.collects t g in reading.also (reading.next u (reading.step _ u.good.holds (steps (steps a b) e))) refl;
      moves = λ h. omega (arith, x.moves h, a.fewer, b.fewer, e.fewer);
    }
