use native.Mathlib.Omega.{arith}
use lib.ListN.{length}
use Rattle.model.specs.Listing.{point_text}
use Rattle.listing_writer.proofs.Lists.{commaed_all}
use Rattle.fuzzify_listing.proofs.Views.{view_at, views_all}
use Rattle.fuzzify_listing.proofs.points.Goals as goal

pub returns : goal.returns
returns c =
    let ps = c.args.ps.now in
    rw (views_all ps) (rw (commaed_all point_text (view_at ps) (length ps) c.loop-i.i (omega arith)) at c.loop-i.invariant)
