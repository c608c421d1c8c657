use mathlib.Core.Option.{some}
use Rattle.model.specs.Image.{word_at}
use Rattle.degrees.specs.Tables.{numbers}
use Rattle.condition_words.proofs.Passes.{Left}
use Rattle.aggregation.proofs.Passes.{machine}
use Rattle.aggregation.proofs.condition_degrees.Given as goal

abbrev pub invariant-loop-i : goal.invariant-loop-i
invariant-loop-i l =
    let w = word_at l.stored.bytes.now in
    Left (machine w l.p (numbers l.ds.at)) w l.words.start l.words.rows l.i (some l.stack)
