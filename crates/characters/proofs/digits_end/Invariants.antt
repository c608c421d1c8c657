use mathlib.Core.Path.{◌≡◌}
use Prim.Native.Nat.{◌+◌}
use lib.ListN.{drop}
use Rattle.model.specs.Basic.{run}
use Rattle.model.specs.Tokens.{is_digit}
use Rattle.characters.proofs.digits_end.Given as goal

abbrev pub invariant-loop-i : goal.invariant-loop-i
invariant-loop-i l = l.i + run is_digit (drop l.i l.s) ≡ l.from + run is_digit (drop l.from l.s)
