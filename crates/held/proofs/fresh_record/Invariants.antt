use mathlib.Core.Path.{◌≡◌}
use mathlib.Core.List.{◌++◌}
use Prim.Native.Nat.{◌-◌}
use lib.IntN.{pos}
use lib.ListN.{replicate}
use Rattle.model.specs.Basic.{tab}
use Rattle.model.specs.Bounds.{output_limit}
use Rattle.model.specs.Image.{word_at, output_at}
use Rattle.model.specs.Evaluation.{start_of}
use Rattle.held.proofs.fresh_record.Given as goal

abbrev pub invariant-loop-i : goal.invariant-loop-i
invariant-loop-i l =
    l.figures ≡ tab (λ j. record { 0 = start_of (output_at (word_at l.image.stored.bytes.now) j).range }) l.i 0 ++ replicate (output_limit - l.i) (record { 0 = pos 0 })
