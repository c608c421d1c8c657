use mathlib.Core.List.{map}
use lib.ListN.{length}
use Rattle.model.specs.Listing.{commaed, point_text}
use Rattle.listing_writer.specs.Prepends.{Writes}
use Rattle.listing_writer.proofs.Lists.{from}
use Rattle.fuzzify_listing.proofs.Views.{view_at}
use Rattle.fuzzify_listing.proofs.points.Given as goal

abbrev pub invariant-loop-i : goal.invariant-loop-i
invariant-loop-i l = Writes (commaed (map point_text (from (view_at l.ps) (length l.ps) l.i))) l.fn.out l.out
