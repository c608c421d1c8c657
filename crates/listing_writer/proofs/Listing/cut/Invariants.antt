use Rattle.std.proofs.Common.{drop}
use Rattle.listing_writer.specs.Prepends.{Writes}
use Rattle.listing_writer.proofs.Listing.cut.Given as goal

abbrev pub invariant-loop-i : goal.invariant-loop-i
invariant-loop-i l = Writes (drop l.i l.s) l.fn.self l.self
