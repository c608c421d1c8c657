use native.Mathlib.Omega.{arith}
use Rattle.listing_writer.proofs.Prepends.{writes_joined, writes_nothing}
use Rattle.number_listing.proofs.Numbers.{three_none, three_kept}
use Rattle.number_listing.proofs.fraction.Goals as goal

pub returns-then-n-ne0 : goal.returns-then-n-ne0
returns-then-n-ne0 c =
    rw (three_kept c.args.n (omega arith))
    (writes_joined (writes_joined c.last_two.ensures (rw c.digit.ensures at c.put.ensures)) c.put-then-n-ne0.ensures)

pub returns-else-n-ne0 : goal.returns-else-n-ne0
returns-else-n-ne0 c = rw (three_none c.args.n (omega arith)) (writes_nothing _)
