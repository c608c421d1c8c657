use Rattle.std.proofs.Common.{◌-◌, ◌≤◌}
use Rattle.values_to_check.proofs.unit_of.Given as goal

abbrev pub invariant-loop-e : goal.invariant-loop-e
invariant-loop-e l = (1 ≤ l.unit) × (l.unit ≤ 4503599627370496)

abbrev pub decreases-loop-e : goal.decreases-loop-e
decreases-loop-e l = l.exponent - l.e
