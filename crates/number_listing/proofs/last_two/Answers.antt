use native.Mathlib.Omega.{arith}
use Rattle.listing_writer.proofs.Prepends.{writes_joined, writes_nothing}
use Rattle.number_listing.proofs.Numbers.{two_none, two_kept}
use Rattle.number_listing.proofs.last_two.Goals as goal

pub returns-then-n-ne0 : goal.returns-then-n-ne0
returns-then-n-ne0 c = rw (two_kept c.args.n (omega arith)) (writes_joined c.last_digit.ensures (rw c.digit.ensures at c.put.ensures))

pub returns-else-n-ne0 : goal.returns-else-n-ne0
returns-else-n-ne0 c = rw (two_none c.args.n (omega arith)) (writes_nothing _)
