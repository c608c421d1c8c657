use mathlib.Core.Path.{◌≡◌}
use mathlib.Core.List.{◌++◌}
use Prim.Native.Nat.{◌*◌, ◌-◌, ◌≤◌}
use lib.ListN.{length, take}
use Rattle.model.specs.Bounds.{term_limit, output_term_limit}
use Rattle.variable_rows.specs.Rows.{output_size, slot_row, slots_of, Listed, rows, onward}
use Rattle.variable_rows.proofs.output_slots.Given as goal

abbrev pub invariant-loop-o : goal.invariant-loop-o
invariant-loop-o l = (l.n ≤ l.o * term_limit) × Listed output_term_limit l.list
    × (take l.n l.list ++ rows (slot_row (output_size l.outputs)) onward (length l.outputs - l.o) l.o tt ≡ slots_of (output_size l.outputs) (length l.outputs))
