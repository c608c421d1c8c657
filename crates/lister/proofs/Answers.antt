-- What the lister answers by the load check, and how long a listing is.
use mathlib.Core.Path.{◌≡◌}
use mathlib.Core.Bool.{true, false}
use mathlib.Core.List.{List}
use mathlib.Core.Option.{none}
use Prim.Native.Nat.{ℕ, ◌≤◌}
use lib.ListN.{length}
use Rattle.model.specs.Bounds.{listing_limit}
use Rattle.model.specs.Block.{Block}
use Rattle.model.specs.Basic.{same}
use Rattle.model.specs.Image.{word_at, image, decode, is_image_of, loads}
use Rattle.model.specs.Listing.{listing}
use Rattle.model.specs.Outcome.{refused, into}
use Rattle.model.specs.Buffers.{lists_into}
use Rattle.model.specs.WellFormed.{well_formed}
use Rattle.laws.proofs.Tests.{both}
use Rattle.listing_laws.proofs.Longest.{listing_short}

module _ (img : List ℕ) where
  abbrev pub block : Block
  block = decode (word_at img)

  pub not_listed : (room : ℕ) → is_image_of img block ≡ false → lists_into room img ≡ refused 11 none
  unfolding lists_into loads
  not_listed room h = simp h

  module _ (h : is_image_of img block ≡ true) where
    pub listed : (room : ℕ) → lists_into room img ≡ into room (listing block)
    unfolding lists_into loads
    listed room = simp h

    pub short : length (listing block) ≤ listing_limit
    unfolding is_image_of
    short = listing_short block (both (well_formed block) (same img (image block)) h).0
