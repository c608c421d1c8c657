use mathlib.Core.Path.{◌≡◌}
use Prim.Native.Nat.{◌+◌, ◌*◌, ◌≤◌}
use lib.ListN.{length, get_or}
use Rattle.model.specs.Bounds.{term_limit}
use Rattle.model.specs.Image.{output_width}
use Rattle.block_tables.specs.View.{no_output}
use Rattle.variable_rows.specs.Rows.{output_size, output_words, output_rows}
use Rattle.variable_rows.proofs.Turns.{Going}
use Rattle.variable_rows.proofs.output_table.Given as goal

abbrev pub invariant-loop-v : goal.invariant-loop-v
invariant-loop-v l =
    (l.n ≤ l.first + l.v-index * term_limit) × (l.p ≡ l.at + l.v-index * output_width) × (length l.out ≡ length l.initial.out)
    × Going (λ m k. output_words l.s (get_or l.outputs k no_output) m) (λ m k. m + output_size l.outputs k) (output_rows l.s l.outputs (length l.outputs) l.first) (length l.outputs) l.initial.out l.at l.v-index l.n l.p
    l.out
