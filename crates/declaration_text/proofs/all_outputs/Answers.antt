use native.Mathlib.Omega.{arith}
use Rattle.parse_state.proofs.Beside as beside
use Rattle.declaration_text.proofs.all_outputs.Goals as goal

pub loop-q-init : goal.loop-q-init
loop-q-init c =
    beside.begins (beside.ready_after c.requires c.output_declaration-q.ensures.collects)

pub loop-q-preserved : goal.loop-q-preserved
loop-q-preserved c =
    let e = c.output_declaration-q-in-loop-q.ensures in
    beside.goes c.loop-q.invariant (λ t. c.loop-q-test.true) e.collects (λ t. e.moves (λ z. omega (arith, c.loop-q-test.true)))

pub returns : goal.returns
returns c =
    beside.leaves c.loop-q.invariant c.output_declaration-q.ensures.collects (λ t. c.loop-q-test.false)
