use Rattle.std.proofs.Common.{◌-◌, ◌≤◌}
use Rattle.vector_cases.proofs.run_cases.Given as goal

abbrev pub invariant-loop-i : goal.invariant-loop-i
invariant-loop-i g l = l.i ≤ 100000

abbrev pub decreases-loop-i : goal.decreases-loop-i
decreases-loop-i g l = 100000 - l.i
