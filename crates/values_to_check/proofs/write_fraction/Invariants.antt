use Rattle.std.proofs.Common.{◌-◌, ◌<◌, ◌≤◌}
use Rattle.values_to_check.proofs.write_fraction.Given as goal

abbrev pub invariant-loop-i : goal.invariant-loop-i
invariant-loop-i g l = (l.left < l.unit) × (l.i ≤ 52)

abbrev pub decreases-loop-i : goal.decreases-loop-i
decreases-loop-i g l = 52 - l.i
