use mathlib.Core.Path.{◌≡◌}
use Prim.Native.Nat.{◌+◌, ◌*◌}
use lib.ListN.{length, get_or}
use Rattle.model.specs.Image.{term_width}
use Rattle.block_tables.specs.View.{no_singleton}
use Rattle.term_rows.specs.Rows.{singleton_words, singleton_rows}
use Rattle.variable_rows.proofs.Turns.{Going}
use Rattle.term_rows.proofs.singleton_table.Given as goal

abbrev pub invariant-loop-i : goal.invariant-loop-i
invariant-loop-i l =
    (l.p ≡ l.at + l.i * term_width) × (length l.out ≡ length l.initial.out)
    × Going (λ m k. singleton_words l.s (get_or l.terms (get_or l.slots k 0) no_singleton) m) (λ m k. m + 1) (singleton_rows l.s l.terms l.slots (length l.slots) l.first) (length l.slots) l.initial.out l.at l.i (l.first + l.i) l.p l.out
