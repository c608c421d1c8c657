use mathlib.Core.Path.{◌≡◌}
use Prim.Native.Nat.{◌+◌, ◌*◌, ◌≤◌}
use lib.ListN.{length, get_or}
use Rattle.model.specs.Bounds.{term_limit}
use Rattle.model.specs.Image.{input_width}
use Rattle.block_tables.specs.View.{no_input}
use Rattle.variable_rows.specs.Rows.{input_size, input_words, input_rows}
use Rattle.variable_rows.proofs.Turns.{Going}
use Rattle.variable_rows.proofs.input_table.Given as goal

abbrev pub invariant-loop-v : goal.invariant-loop-v
invariant-loop-v l =
    (l.first ≤ l.v-index * term_limit) × (l.p ≡ l.at + l.v-index * input_width) × (length l.out ≡ length l.initial.out)
    × Going (λ n k. input_words l.s (get_or l.inputs k no_input) n) (λ n k. n + input_size l.inputs k) (input_rows l.s l.inputs (length l.inputs)) (length l.inputs) l.initial.out l.at l.v-index l.first l.p l.out
