-- A stored image passes the load check exactly when some text reads to it; its listing is such a text.
use mathlib.Core.Path.{◌≡◌, refl, sym, ap, ◌∙◌}
use mathlib.Core.List.{List}
use mathlib.Core.Logic.{◌↔◌}
use Prim.Native.Nat.{ℕ}
use native.Mathlib.Omega.{arith}
use Rattle.model.specs.Outcome.{Outcome, accepted, refused, and_then, verdict_in}
use Rattle.model.specs.Block.{Block}
use Rattle.model.specs.Image.{image, loads}
use Rattle.model.specs.Listing.{listing}
use Rattle.model.specs.Buffers.{ReadsTo}
use Rattle.model.specs.Reader.{reads}
use Rattle.image_laws.proofs.Loads.{loads_iff}
use Rattle.listing_laws.proofs.Longest.{listing_bytes}
use Rattle.listing_laws.proofs.RoundTrip.{listing_reads}
use Rattle.reading_laws.proofs.WellRead.{reads_well}

-- the listing of an accepted image, read again, gives that image
pub listing_again : (img : List ℕ) (b : Block) → loads img ≡ accepted b → ReadsTo (listing b) img
listing_again img b h =
    let w = (loads_iff img b).0 h in (
      listing_bytes b w.0,
      ap (λ (o : Outcome Block). and_then o (λ c. accepted (image c))) (listing_reads b w.0) ∙ ap accepted (sym w.1),
    )

passed : (img : List ℕ) (o : Outcome Block) → loads img ≡ o → verdict_in o ≡ accepted tt → (s : List ℕ) × ReadsTo s img
passed img (accepted b) e h = (listing b, listing_again img b e)
passed img (refused n p) e h = let z : ◌≡◌ {A = ℕ} 0 1 = cc in absurd (omega arith)

read : (img s : List ℕ) (o : Outcome Block) → reads s ≡ o → and_then o (λ b. accepted (image b)) ≡ accepted img
    → verdict_in (loads img) ≡ accepted tt
read img s (accepted b) e h =
    let q : image b ≡ img = cc in
    ap verdict_in ((loads_iff img b).1 (reads_well s b e, sym q))
read img s (refused n p) e h = let z : ◌≡◌ {A = ℕ} 0 1 = cc in absurd (omega arith)

-- demand 3, its first sentence
pub passes_iff : (img : List ℕ) → verdict_in (loads img) ≡ accepted tt ↔ ((s : List ℕ) × ReadsTo s img)
passes_iff img = (passed img (loads img) refl, λ h. read img h.0 (reads h.0) refl h.1.1)
