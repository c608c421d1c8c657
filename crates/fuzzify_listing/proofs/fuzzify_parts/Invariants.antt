use Rattle.model.specs.Basic.{gather}
use Rattle.model.specs.Image.{word_at, input_at, INPUTS}
use Rattle.model.specs.Listing.{fuzzify_text}
use Rattle.listing_writer.specs.Prepends.{Writes}
use Rattle.listing_writer.proofs.Lists.{from}
use Rattle.fuzzify_listing.proofs.fuzzify_parts.Given as goal

abbrev pub invariant-loop-i : goal.invariant-loop-i
invariant-loop-i l =
    let w = word_at l.image.stored.bytes.now in
    Writes (gather fuzzify_text (from (input_at w) (w INPUTS) l.i)) l.fn.out l.out
