use native.Mathlib.Omega.{arith}
use Rattle.listing_writer.proofs.Prepends.{writes_nothing}
use Rattle.number_listing.proofs.Numbers.{one_none, one_kept}
use Rattle.number_listing.proofs.last_digit.Goals as goal

pub returns-then-n-ne0 : goal.returns-then-n-ne0
returns-then-n-ne0 c = rw (one_kept c.args.n (omega arith)) (rw c.digit.ensures at c.put.ensures)

pub returns-else-n-ne0 : goal.returns-else-n-ne0
returns-else-n-ne0 c = rw (one_none c.args.n (omega arith)) (writes_nothing _)
