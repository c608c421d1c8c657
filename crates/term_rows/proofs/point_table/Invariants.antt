use mathlib.Core.Path.{◌≡◌}
use Prim.Native.Nat.{◌+◌, ◌*◌, ◌-◌}
use lib.ListN.{length, get_or}
use Rattle.model.specs.Image.{point_width}
use Rattle.layout.specs.Tables.{sums}
use Rattle.block_tables.specs.View.{no_term}
use Rattle.variable_rows.specs.Rows.{onward}
use Rattle.term_rows.specs.Rows.{term_size, held_in, points_of, point_rows}
use Rattle.variable_rows.proofs.Turns.{Going}
use Rattle.term_rows.proofs.point_table.Given as goal

abbrev pub invariant-loop-k : goal.invariant-loop-k
invariant-loop-k l =
    (l.p + sums (λ i. term_size l.terms (get_or l.slots i 0)) (length l.slots - l.k-index) l.k-index * point_width
    ≡ l.at + held_in l.terms l.slots (length l.slots) * point_width)
    × (length l.out ≡ length l.initial.out)
    × Going (λ σ i. points_of (get_or l.terms (get_or l.slots i 0) no_term)) onward (point_rows l.terms l.slots (length l.slots)) (length l.slots) l.initial.out l.at l.k-index tt l.p l.out
