use mathlib.Core.Path.{◌≡◌}
use Rattle.model.specs.Image.{word_at, output_at}
use Rattle.held.proofs.Laws.{from}
use Rattle.held.proofs.record_ok.Given as goal

abbrev pub invariant-loop-i : goal.invariant-loop-i
invariant-loop-i l =
    let places = from (output_at (word_at l.image.stored.bytes.now)) l.image.stored.header.outputs.rows l.fn.held.figures in
    places l.i ≡ places 0
