use mathlib.Core.Path.{◌≡◌}
use Prim.Native.Nat.{◌+◌, ◌*◌, ◌-◌, ◌≤◌}
use lib.ListN.{length, get_or}
use Rattle.model.specs.Bounds.{point_limit}
use Rattle.layout.specs.Tables.{sums}
use Rattle.term_rows.specs.Rows.{term_size, held_in}
use Rattle.term_rows.proofs.point_count.Given as goal

abbrev pub invariant-loop-k : goal.invariant-loop-k
invariant-loop-k l =
    (l.n ≤ l.k-index * point_limit)
    × (l.n + sums (λ i. term_size l.terms (get_or l.slots i 0)) (length l.slots - l.k-index) l.k-index ≡ held_in l.terms l.slots (length l.slots))
