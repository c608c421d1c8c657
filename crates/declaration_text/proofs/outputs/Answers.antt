use native.Mathlib.Omega.{arith}
use Rattle.parse_state.proofs.Beside as beside
use Rattle.declaration_text.proofs.outputs.Goals as goal

pub loop-q-init : goal.loop-q-init
loop-q-init c =
    beside.begins (beside.ready_after c.requires c.output-q.ensures.collects)

pub loop-q-preserved : goal.loop-q-preserved
loop-q-preserved c =
    let d = c.advance-q.ensures in
    beside.list_goes c.loop-q.invariant c.advance-q.result (λ t. c.loop-q-test.true) (λ t. d.step) (λ t. d.moves.0) c.output-q-in-loop-q.ensures.collects

pub returns : goal.returns
returns c =
    let e = c.output-q.ensures in
    let i = c.loop-q.invariant in
    let r = i.from in
    record {
      collects = beside.list_leaves i e.collects (λ t. c.loop-q-test.false);
      moves = λ h. omega (arith, e.moves h, (i.going r.tables r.good).0);
    }
