use Rattle.parse_state.proofs.Laws as reading
use Rattle.block_text.specs.Block.{outputs_text}
use Rattle.block_text.proofs.outputs.Goals as goal

pub returns : goal.returns
unfolding outputs_text
returns c =
    let d = c.expect.ensures.step in
    λ t g.
    let x = c.all_outputs-r.ensures t (record { fits = d.fits; holds = g.holds }) in
    reading.next (reading.next (reading.step _ g.holds d) x) (reading.step _ x.good.holds c.expect-2.ensures.step)
