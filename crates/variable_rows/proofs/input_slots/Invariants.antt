use mathlib.Core.Path.{◌≡◌}
use mathlib.Core.List.{◌++◌}
use Prim.Native.Nat.{◌*◌, ◌-◌, ◌≤◌}
use lib.ListN.{length, take}
use Rattle.model.specs.Bounds.{term_limit, input_term_limit}
use Rattle.variable_rows.specs.Rows.{input_size, slot_row, slots_of, Listed, rows, onward}
use Rattle.variable_rows.proofs.input_slots.Given as goal

abbrev pub invariant-loop-i : goal.invariant-loop-i
invariant-loop-i l = (l.n ≤ l.i * term_limit) × Listed input_term_limit l.list
    × (take l.n l.list ++ rows (slot_row (input_size l.inputs)) onward (length l.inputs - l.i) l.i tt ≡ slots_of (input_size l.inputs) (length l.inputs))
