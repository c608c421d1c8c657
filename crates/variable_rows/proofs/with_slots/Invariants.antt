use mathlib.Core.Path.{◌≡◌}
use mathlib.Core.List.{◌++◌}
use Prim.Native.Nat.{ℕ, ◌+◌, ◌*◌, ◌≤◌}
use lib.ListN.{length, take}
use Rattle.model.specs.Basic.{tab}
use Rattle.model.specs.Bounds.{term_limit, input_term_limit}
use Rattle.variable_rows.specs.Rows.{Listed}
use Rattle.variable_rows.proofs.with_slots.Given as goal

abbrev pub invariant-loop-j : goal.invariant-loop-j
invariant-loop-j l = (length l.list ≡ input_term_limit)
    × ((m : ℕ) → l.v * term_limit + l.n ≤ m → Listed m l.initial.list → Listed m l.list)
    × (take (l.count + l.j) l.list ≡ take l.count l.initial.list ++ tab (λ i. l.v * term_limit + i) l.j 0)
