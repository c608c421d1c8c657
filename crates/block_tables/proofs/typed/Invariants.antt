use Prim.Native.Nat.{◌≤◌, ◌<◌}
use Rattle.block_tables.specs.Changes.{Typed}
use Rattle.block_tables.proofs.typed.Given as goal

abbrev pub invariant-loop-i : goal.invariant-loop-i
invariant-loop-i l = record { ends : l.from < l.i → l.i ≤ l.to; so_far : Typed l.initial.r l.from l.i l.r }
