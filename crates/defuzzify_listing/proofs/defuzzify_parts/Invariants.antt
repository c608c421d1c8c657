use Rattle.model.specs.Basic.{gather}
use Rattle.model.specs.Image.{word_at, output_at, OUTPUTS}
use Rattle.model.specs.Listing.{defuzzify_text}
use Rattle.listing_writer.specs.Prepends.{Writes}
use Rattle.listing_writer.proofs.Lists.{from}
use Rattle.defuzzify_listing.proofs.defuzzify_parts.Given as goal

abbrev pub invariant-loop-i : goal.invariant-loop-i
invariant-loop-i l =
    let w = word_at l.image.stored.bytes.now in
    Writes (gather defuzzify_text (from (output_at w) (w OUTPUTS) l.i)) l.fn.out l.out
