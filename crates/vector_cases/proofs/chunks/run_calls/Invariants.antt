use Rattle.std.proofs.Common.{length, ◌-◌, ◌≡◌, ◌≤◌}
use Rattle.vector_cases.proofs.chunks.run_calls.Given as goal

abbrev pub invariant-loop-i : goal.invariant-loop-i
invariant-loop-i g l = (l.i ≤ length l.calls) × (65536 ≡ length l.store)

abbrev pub decreases-loop-i : goal.decreases-loop-i
decreases-loop-i g l = length l.calls - l.i
