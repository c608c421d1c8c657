use mathlib.Core.Path.{◌≡◌}
use Prim.Native.Nat.{◌+◌, ◌*◌}
use lib.ListN.{length}
use Rattle.model.specs.Image.{point_width}
use Rattle.variable_rows.specs.Rows.{rows, onward}
use Rattle.term_rows.specs.Rows.{point_row}
use Rattle.variable_rows.proofs.Turns.{Going}
use Rattle.term_rows.proofs.some_points.Given as goal

abbrev pub invariant-loop-v : goal.invariant-loop-v
invariant-loop-v l =
    (l.p ≡ l.at + l.v-index * point_width) × (length l.out ≡ length l.initial.out)
    × Going (point_row l.points) onward (rows (point_row l.points) onward (length l.points) 0 tt) (length l.points) l.initial.out l.at l.v-index tt l.p l.out
