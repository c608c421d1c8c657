use mathlib.Core.Path.{◌≡◌}
use mathlib.Core.List.{[], ◌∷◌}
use Prim.Native.Nat.{◌+◌, ◌*◌}
use lib.ListN.{length, get_or}
use Rattle.model.specs.Bounds.{M}
use Rattle.model.specs.Image.{crisp_word, point_width}
use Rattle.block_tables.specs.View.{no_singleton}
use Rattle.variable_rows.specs.Rows.{onward}
use Rattle.term_rows.specs.Rows.{singleton_points}
use Rattle.variable_rows.proofs.Turns.{Going}
use Rattle.term_rows.proofs.singleton_points.Given as goal

abbrev pub invariant-loop-k : goal.invariant-loop-k
invariant-loop-k l =
    (l.p ≡ l.at + l.k-index * point_width) × (length l.out ≡ length l.initial.out)
    × Going (λ σ i. crisp_word (get_or l.terms (get_or l.slots i 0) no_singleton).at.0 ∷ M ∷ []) onward (singleton_points l.terms l.slots (length l.slots)) (length l.slots) l.initial.out l.at l.k-index tt l.p l.out
