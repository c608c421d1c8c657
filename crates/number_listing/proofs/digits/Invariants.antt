use Rattle.number_listing.proofs.Numbers.{Pending}
use Rattle.number_listing.proofs.digits.Given as goal

abbrev pub invariant-loop-m : goal.invariant-loop-m
invariant-loop-m l = Pending l.n l.m l.fn.out l.out

abbrev pub decreases-loop-m : goal.decreases-loop-m
decreases-loop-m l = l.m
