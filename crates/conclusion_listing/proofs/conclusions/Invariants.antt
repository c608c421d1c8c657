use mathlib.Core.List.{map}
use Prim.Native.Nat.{◌≤◌}
use Rattle.model.specs.Image.{word_at, decode, conclusion_at}
use Rattle.model.specs.Listing.{commaed, conclusion_text}
use Rattle.listing_writer.specs.Prepends.{Writes}
use Rattle.listing_writer.proofs.Lists.{from}
use Rattle.conclusion_listing.proofs.conclusions.Given as goal

abbrev pub invariant-loop-j : goal.invariant-loop-j
invariant-loop-j l =
    let w = word_at l.image.stored.bytes.now in
    (l.first ≤ l.j) × Writes (commaed (map (conclusion_text (decode w)) (from (conclusion_at w) l.end l.j))) l.fn.out l.out
