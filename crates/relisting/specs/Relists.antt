-- A helper: an image listed and read again. `relisting/proofs/Again.reads_again` ties it to the reader's rules.
use Rattle.std.specs.Prelude.{List, ◌++◌, ℕ, ltb, length, drop, Result, Ok, Err, if◌then◌else◌}
use Rattle.std.proofs.Math.Option.{none, some}
use Rattle.model.specs.Block.{Block}
use Rattle.model.specs.Image.{loads}
use Rattle.model.specs.Listing.{listing}
use Rattle.model.specs.Outcome.{Outcome, accepted, refused}
use Rattle.relisting.specs.declared.NotRelisted.{NotRelisted}
use Rattle.relisting.specs.declared.NotRelisted.TheVariants.{NotAccepted, ImageTooShort, ListingTooShort}

pub data Relisting : Type 0 where
  not_accepted : Relisting
  -- with what is needed
  no_room_for_image : ℕ → Relisting
  no_room_for_listing : ℕ → Relisting
  -- the listing, and the image
  again : List ℕ → List ℕ → Relisting

-- by the room for the listing and the room for the image
abbrev pub relists_by : ℕ → ℕ → List ℕ → Outcome Block → Relisting
relists_by text room img (refused n p) = not_accepted
relists_by text room img (accepted b) =
    if ltb room (length img) then no_room_for_image (length img)
    else if ltb text (length (listing b)) then no_room_for_listing (length (listing b))
    else again (listing b) img

unfoldable pub relists : ℕ → ℕ → List ℕ → Relisting
relists text room img = relists_by text room img (loads img)

abbrev pub answer_of : Relisting → Result ℕ NotRelisted
answer_of not_accepted = Err NotAccepted
answer_of (no_room_for_image n) = Err (ImageTooShort n)
answer_of (no_room_for_listing n) = Err (ListingTooShort n)
answer_of (again s i) = Ok (length s)

-- a refusal of the lister: 11 has no place, 10 the length that is needed
abbrev pub without_listing : Outcome ℕ → Result ℕ NotRelisted
without_listing (accepted n) = Err NotAccepted
without_listing (refused n none) = Err NotAccepted
without_listing (refused n (some needed)) = Err (ListingTooShort needed)

-- bytes past the end stay, and where nothing is written all of them
abbrev pub listing_after : List ℕ → Relisting → List ℕ
listing_after old not_accepted = old
listing_after old (no_room_for_image n) = old
listing_after old (no_room_for_listing n) = old
listing_after old (again s i) = s ++ drop (length s) old

abbrev pub image_after : List ℕ → Relisting → List ℕ
image_after old not_accepted = old
image_after old (no_room_for_image n) = old
image_after old (no_room_for_listing n) = old
image_after old (again s i) = i ++ drop (length i) old
