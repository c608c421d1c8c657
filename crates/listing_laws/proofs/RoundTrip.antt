-- A listing reads back to its block.
use mathlib.Core.Path.{◌≡◌}
use mathlib.Core.Bool.{true}
use native.Mathlib.Omega.{arith}
use borrow.Author.Tests.{le-ltb}
use lib.ListN.{length}
use Rattle.model.specs.Bounds.{text_limit}
use Rattle.model.specs.Outcome.{accepted}
use Rattle.model.specs.Tokens.{tokens}
use Rattle.model.specs.Block.{Block}
use Rattle.model.specs.Listing.{listing}
use Rattle.model.specs.Reader.{reads}
use Rattle.model.specs.WellFormed.{well_formed}
use Rattle.listing_laws.proofs.Lexing.{listing_lexes}
use Rattle.listing_laws.proofs.ReadListing.{items_read}
use Rattle.listing_laws.proofs.Longest.{listing_short}

pub listing_reads : (b : Block) → well_formed b ≡ true → reads (listing b) ≡ accepted b
unfolding reads
listing_reads b h =
    rw (le-ltb text_limit (length (listing b)) (omega (arith, listing_short b h))) (items_read b h (tokens (listing b)) (listing_lexes b h))
