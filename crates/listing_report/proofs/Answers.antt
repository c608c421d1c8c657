-- What is printed, from what the reader and the lister answer; that the buffers are large enough.
use mathlib.Core.Path.{◌≡◌, refl, sym, ap, ◌∙◌}
use mathlib.Core.List.{List, ◌++◌}
use mathlib.Core.Option.{Option}
use Prim.Native.Nat.{ℕ, ◌≤◌}
use native.Mathlib.Omega.{arith}
use lib.ListN.{length, take, drop, length-append}
use lib.Seq.{take-append_seam, length-take-le}
use Rattle.model.specs.Bounds.{listing_limit, image_limit}
use Rattle.model.specs.Block.{Block}
use Rattle.model.specs.Image.{image, loads}
use Rattle.model.specs.Listing.{listing}
use Rattle.model.specs.Outcome.{Outcome, accepted, refused, and_then, into, length_in, buffer_after}
use Rattle.model.specs.Reader.{reads}
use Rattle.model.specs.Buffers.{reads_into, lists_into}
use Rattle.model.specs.Printed.{refused_line, outcome_text, printed}
use Rattle.std.specs.Counts.{IsPrefixLen}
use Rattle.laws.proofs.Buffers.{fits}
use Rattle.image_laws.proofs.Loads.{loads_image, loads_iff}
use Rattle.listing_laws.proofs.Longest.{listing_short}
use Rattle.reading_laws.proofs.WellRead.{reads_well}
use Rattle.listing_report.specs.Shows.{Shows}
use Rattle.listing_report.proofs.Sizes.{image_short}

-- an accepted outcome is no refusal
different : {X A : Type 0} {a : A} {n : ℕ} {p : Option ℕ} → ◌≡◌ {A = Outcome A} (accepted a) (refused n p) → X
different e = let z : ◌≡◌ {A = ℕ} 0 1 = cc in absurd (omega arith)

-- LISTED: there is room for every listing
module _ (img : List ℕ) (b : Block) (room : ℕ) (h : loads img ≡ accepted b) (large : listing_limit ≤ room) where
  lists : lists_into room img ≡ accepted (listing b)
  unfolding lists_into
  lists =
      let short = listing_short b ((loads_iff img b).0 h).0 in
      ap (λ (o : Outcome Block). and_then o (λ c. into room (listing c))) h ∙ fits (listing b) room (omega arith)

  pub listed_shows : (n : ℕ) (old new : List ℕ) → accepted n ≡ length_in (lists_into room img) → new ≡ buffer_after old (lists_into room img)
      → Shows (listing b) n old new
  listed_shows n old new e f =
      let z = e ∙ ap length_in lists in
      let long : n ≡ length (listing b) = cc in
      record { count = long; contents = f ∙ ap (buffer_after old) lists ∙ ap (λ (k : ℕ). listing b ++ drop k old) (sym long) }

  pub listed_not : {X : Type 0} {n : ℕ} {p : Option ℕ} → refused n p ≡ length_in (lists_into room img) → X
  listed_not e = different (sym (e ∙ ap length_in lists))

-- READ: there is room for every image
-- a block was read, and its image stands in the buffer
pub record Read (s : List ℕ) (n : ℕ) (new : List ℕ) : Type 0 where
  pub block : Block
  pub was : reads s ≡ accepted block
  pub taken : take n new ≡ image block
  pub within : n ≤ length new

module _ (s : List ℕ) (room : ℕ) (large : room ≡ image_limit) where
  read_into : (b : Block) → reads s ≡ accepted b → reads_into room s ≡ accepted (image b)
  unfolding reads_into
  read_into b h =
      let short = image_short b (reads_well s b h) in
      ap (λ (o : Outcome Block). and_then o (λ c. into room (image c))) h ∙ fits (image b) room (omega arith)

  not_into : {n : ℕ} {p : Option ℕ} → reads s ≡ refused n p → reads_into room s ≡ refused n p
  unfolding reads_into
  not_into h = ap (λ (o : Outcome Block). and_then o (λ c. into room (image c))) h

  image_read : (n : ℕ) (old new : List ℕ) → accepted n ≡ length_in (reads_into room s) → new ≡ buffer_after old (reads_into room s) → Read s n new
  image_read n old new e f = go (reads s) refl
    where
      go : (o : Outcome Block) → reads s ≡ o → Read s n new
      go (accepted b) h =
          let z = e ∙ ap length_in (read_into b h) in
          let long : n ≡ length (image b) = cc in
          let rest = drop (length (image b)) old in
          let g : new ≡ image b ++ rest = f ∙ ap (buffer_after old) (read_into b h) in
          record {
            block = b;
            was = h;
            taken = (λ i. take (long i) (g i)) ∙ take-append_seam (image b) rest;
            within = omega (arith, ap length g, length-append (image b) rest);
          }
      go (refused m q) h = different (e ∙ ap length_in (not_into h))

  refusal_read : {n : ℕ} {p : Option ℕ} → refused n p ≡ length_in (reads_into room s) → printed s ≡ refused_line n p
  unfolding printed
  refusal_read {n} {p} e = go (reads s) refl
    where
      go : (o : Outcome Block) → reads s ≡ o → outcome_text (reads s) ≡ refused_line n p
      go (accepted b) h = different (sym (e ∙ ap length_in (read_into b h)))
      go (refused m q) h =
          let z = e ∙ ap length_in (not_into h) in
          let number : n ≡ m = cc in
          let place : p ≡ q = cc in
          ap outcome_text h ∙ (λ i. refused_line (sym number i) (sym place i))

pub was_read : (s : List ℕ) (room n : ℕ) (old new : List ℕ) → accepted n ≡ length_in (reads_into room s)
    → new ≡ buffer_after old (reads_into room s) → room ≡ image_limit → Read s n new
was_read s room n old new e f large = image_read s room large n old new e f

pub not_read : (s : List ℕ) (room : ℕ) {n : ℕ} {p : Option ℕ} → refused n p ≡ length_in (reads_into room s) → room ≡ image_limit
    → printed s ≡ refused_line n p
not_read s room e large = refusal_read s room large e

-- the image of a read block is accepted, and its listing is what is printed
pub read_loads : (s img : List ℕ) (b : Block) → reads s ≡ accepted b → img ≡ image b → loads img ≡ accepted b
read_loads s img b h e = ap loads e ∙ loads_image b (reads_well s b h)

pub prints : (s : List ℕ) (b : Block) → reads s ≡ accepted b → printed s ≡ listing b
unfolding printed
prints s b h = ap outcome_text h

-- a text at the front of a buffer is counted
pub shows_counts : {text old new : List ℕ} {r : ℕ} → Shows text r old new → IsPrefixLen r new
shows_counts {text} {old} {new} {r} h =
    let l : r ≤ length new = omega (arith, h.count, ap length h.contents, length-append text (drop r old)) in
    (l, sym (length-take-le r new l))
