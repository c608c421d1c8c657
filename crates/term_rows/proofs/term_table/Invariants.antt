use mathlib.Core.Path.{◌≡◌}
use Prim.Native.Nat.{◌+◌, ◌*◌, ◌≤◌}
use lib.ListN.{length, get_or}
use Rattle.model.specs.Bounds.{point_limit}
use Rattle.model.specs.Image.{term_width}
use Rattle.block_tables.specs.View.{no_term}
use Rattle.term_rows.specs.Rows.{term_size, term_words, term_rows}
use Rattle.variable_rows.proofs.Turns.{Going}
use Rattle.term_rows.proofs.term_table.Given as goal

abbrev pub invariant-loop-k : goal.invariant-loop-k
invariant-loop-k l =
    (l.first ≤ l.k-index * point_limit) × (l.p ≡ l.at + l.k-index * term_width) × (length l.out ≡ length l.initial.out)
    × Going (λ m i. term_words l.s (get_or l.terms (get_or l.slots i 0) no_term) m) (λ m i. m + term_size l.terms (get_or l.slots i 0)) (term_rows l.s l.terms l.slots (length l.slots)) (length l.slots) l.initial.out
    l.at l.k-index l.first l.p l.out
