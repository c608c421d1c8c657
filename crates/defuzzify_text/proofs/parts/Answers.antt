use mathlib.Core.Path.{refl, ◌∙◌}
use native.Mathlib.Omega.{arith}
use Rattle.parse_state.proofs.Beside as beside
use Rattle.defuzzify_text.proofs.parts.Goals as goal

pub loop-q-init : goal.loop-q-init
loop-q-init c =
    (beside.begins (beside.ready_after c.requires c.defuzzify_part-q.ensures.collects), refl)

pub loop-q-preserved : goal.loop-q-preserved
loop-q-preserved c =
    let e = c.defuzzify_part-q-in-loop-q.ensures in
    let i = c.loop-q.invariant in
    (beside.goes i.0 (λ t. c.loop-q-test.true) e.collects (λ t. e.moves (λ z. omega (arith, c.loop-q-test.true))), e.count ∙ i.1)

pub returns : goal.returns
returns c =
    let e = c.defuzzify_part-q.ensures in
    let i = c.loop-q.invariant in
    record {
      collects = beside.leaves i.0 e.collects (λ t. c.loop-q-test.false);
      count = i.1 ∙ e.count;
    }
