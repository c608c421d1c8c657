-- An accepted image, listed and read again, is that image; and what the two functions' answers come to together.
use Rattle.std.specs.Prelude.{Ok, Err}
use Rattle.std.specs.Prelude.{if◌then◌else◌}
use mathlib.Core.Path.{◌≡◌, refl, sym, ap, ◌∙◌}
use mathlib.Core.Bool.{Bool, true, false}
use mathlib.Core.List.{List, ◌++◌}
use mathlib.Core.Option.{none, some}
use Prim.Native.Nat.{ℕ, ◌≤◌, ◌<◌}
use native.Mathlib.Omega.{arith}
use borrow.Author.Tests.{lt-ltb, le-ltb}
use lib.Dec.{ltb}
use lib.ListN.{length, take, drop, length-append}
use lib.Seq.{take-append_seam}
use Rattle.model.specs.Block.{Block}
use Rattle.model.specs.Image.{word_at, image, decode, is_image_of, loads}
use Rattle.model.specs.Listing.{listing}
use Rattle.model.specs.Outcome.{Outcome, accepted, refused, and_then, into, verdict_in, length_in, buffer_after}
use Rattle.model.specs.Refusals.{refusal_of}
use Rattle.model.specs.Buffers.{reads_into, lists_into}
use Rattle.model.specs.declared.Refusal.{Refusal}
use Rattle.laws.proofs.Buffers.{fits}
use Rattle.image_laws.proofs.Loads.{loads_iff}
use Rattle.listing_laws.proofs.RoundTrip.{listing_reads}
use Rattle.relisting.specs.Relists.{Relisting, not_accepted, no_room_for_listing, again, relists_by, relists, answer_of, without_listing, listing_after, image_after}
use Rattle.relisting.specs.declared.NotRelisted.TheVariants.{NotAccepted, ImageTooShort}

-- a length is no refusal
clashing : {A : Type 0} (n : ℕ) (why : Refusal) → refusal_of {A = ℕ} why ≡ accepted n → A
clashing n why e = let z : ◌≡◌ {A = ℕ} 0 1 = cc in absurd (omega arith)

module _ (img : List ℕ) (text room : ℕ) where
  -- WITHOUT ROOM for the image
  module _ (small : room < length img) where
    pub no_room : (o : Outcome Block) → accepted tt ≡ verdict_in o → Err (ImageTooShort (length img)) ≡ answer_of (relists_by text room img o)
    no_room (accepted b) e = rw (lt-ltb room (length img) small) refl
    no_room (refused n p) e = let z : ◌≡◌ {A = ℕ} 0 1 = cc in absurd (omega arith)

    pub both_stay : (o : Outcome Block) (old new : List ℕ) → (old ≡ listing_after old (relists_by text room img o)) × (new ≡ image_after new (relists_by text room img o))
    both_stay (accepted b) old new = rw (lt-ltb room (length img) small) (refl, refl)
    both_stay (refused n p) old new = (refl, refl)

  pub not_loaded : (o : Outcome Block) (why : Refusal) → refusal_of why ≡ verdict_in o → Err NotAccepted ≡ answer_of (relists_by text room img o)
  not_loaded (accepted b) why e = let z : ◌≡◌ {A = ℕ} 0 1 = cc in absurd (omega arith)
  not_loaded (refused n p) why e = refl

  abbrev b : Block
  b = decode (word_at img)

  abbrev told : Relisting
  told = relists text room img

  relists_not : is_image_of img b ≡ false → relists text room img ≡ not_accepted
  unfolding relists loads
  relists_not h = simp h

  loads_it : is_image_of img b ≡ true → loads img ≡ accepted b
  unfolding loads
  loads_it h = simp h

  -- WITH ROOM for the image
  module _ (enough : length img ≤ room) where
    relists_by_lem : (q : Bool) → is_image_of img b ≡ true → ltb text (length (listing b)) ≡ q
        → relists text room img ≡ (if q then no_room_for_listing (length (listing b)) else again (listing b) img)
    unfolding relists loads
    relists_by_lem q h s = rw (h, le-ltb room (length img) enough, s) refl

    lists_by : (q : Bool) → is_image_of img b ≡ true → ltb text (length (listing b)) ≡ q
        → lists_into text img ≡ (if q then refused 10 (some (length (listing b))) else accepted (listing b))
    unfolding lists_into loads into
    lists_by q h s = rw (h, s) refl

    lists_not : is_image_of img b ≡ false → lists_into text img ≡ refused 11 none
    unfolding lists_into loads
    lists_not h = simp h

    -- demand 2, its last sentence, over the contracts of the lister and the reader
    pub reads_again : is_image_of img b ≡ true → reads_into room (listing b) ≡ accepted img
    unfolding reads_into
    reads_again h =
        let w = (loads_iff img b).0 (loads_it h) in
        ap (λ (o : Outcome Block). and_then o (λ c. into room (image c))) (listing_reads b w.0)
        ∙ ap (into room) (sym w.1) ∙ fits img room enough

    -- the lister refused
    pub record Unlisted (why : Refusal) : Type 0 where
      pub answer : without_listing (refusal_of why) ≡ answer_of told
      pub text_stays : (old : List ℕ) → buffer_after old (lists_into text img) ≡ listing_after old told
      pub image_stays : (old : List ℕ) → old ≡ image_after old told

    pub unlisted : (why : Refusal) → refusal_of why ≡ length_in (lists_into text img) → Unlisted why
    unlisted why e = go (is_image_of img b) (ltb text (length (listing b))) refl refl
      where
        go : (p q : Bool) → is_image_of img b ≡ p → ltb text (length (listing b)) ≡ q → Unlisted why
        go false q h s =
            let l = lists_not h in
            let r = relists_not h in
            record {
              answer = ap without_listing (e ∙ ap length_in l) ∙ ap answer_of (sym r);
              text_stays = λ old. ap (buffer_after old) l ∙ ap (listing_after old) (sym r);
              image_stays = λ old. ap (image_after old) (sym r);
            }
        go true true h s =
            let l = lists_by true h s in
            let r = relists_by_lem true h s in
            record {
              answer = ap without_listing (e ∙ ap length_in l) ∙ ap answer_of (sym r);
              text_stays = λ old. ap (buffer_after old) l ∙ ap (listing_after old) (sym r);
              image_stays = λ old. ap (image_after old) (sym r);
            }
        go true false h s = clashing _ why (e ∙ ap length_in (lists_by false h s))

    -- the listing was written
    pub record Listed (n : ℕ) (old new : List ℕ) : Type 0 where
      pub front : take n new ≡ listing b
      pub within : n ≤ length new
      pub answer : Ok n ≡ answer_of told
      pub text_holds : new ≡ listing_after old told
      pub image_holds : (out : List ℕ) → buffer_after out (reads_into room (listing b)) ≡ image_after out told

    pub listed : (n : ℕ) (old new : List ℕ) → accepted n ≡ length_in (lists_into text img) → new ≡ buffer_after old (lists_into text img) → Listed n old new
    listed n old new e f = go (is_image_of img b) (ltb text (length (listing b))) refl refl
      where
        go : (p q : Bool) → is_image_of img b ≡ p → ltb text (length (listing b)) ≡ q → Listed n old new
        go false q h s = let l = ap length_in (lists_not h) in let z : ◌≡◌ {A = ℕ} 0 1 = cc in absurd (omega arith)
        go true true h s = let l = ap length_in (lists_by true h s) in let z : ◌≡◌ {A = ℕ} 0 1 = cc in absurd (omega arith)
        go true false h s =
            let l = lists_by false h s in
            let r = relists_by_lem false h s in
            let k : accepted n ≡ accepted (length (listing b)) = e ∙ ap length_in l in
            let long : n ≡ length (listing b) = cc in
            let holds : new ≡ listing b ++ drop (length (listing b)) old = f ∙ ap (buffer_after old) l in
            record {
              front = (λ i. take (long i) (holds i)) ∙ take-append_seam (listing b) (drop (length (listing b)) old);
              within = omega (arith, ap length holds, length-append (listing b) (drop (length (listing b)) old));
              answer = ap Ok long ∙ ap answer_of (sym r);
              text_holds = holds ∙ ap (listing_after old) (sym r);
              image_holds = λ out. ap (buffer_after out) (reads_again h) ∙ ap (image_after out) (sym r);
            }
