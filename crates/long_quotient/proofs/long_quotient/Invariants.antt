use mathlib.Core.Path.{◌≡◌}
use Prim.Native.Nat.{ℕ, ◌+◌, ◌*◌, ◌-◌, ◌%◌, ◌^◌, ◌<◌}
use native.Mathlib.Nat.{mul-pos}
use native.Mathlib.Omega.{arith}
use lib.Pow.{pow_pos}
use mir.Facts.{Fits-below}
use Rattle.nearest_laws.proofs.Laws.{rounded_up, rounded_down}
use Rattle.long_quotient.proofs.Shifts.{shifted, one_shifted, taken, quotient_le}
use Rattle.long_quotient.proofs.long_quotient.Given as goal

-- what is taken already, and what is left
abbrev pub invariant-loop-r : goal.invariant-loop-r
invariant-loop-r l = l.q * l.b + l.r ≡ l.a

abbrev pub decreases-loop-r : goal.decreases-loop-r
decreases-loop-r l = l.r
