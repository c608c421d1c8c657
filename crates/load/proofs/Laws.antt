-- What each test of the load check settles.
use mathlib.Core.Path.{◌≡◌, refl, ap, ◌∙◌}
use mathlib.Core.List.{List}
use mathlib.Core.Bool.{true, false}
use mathlib.Core.Option.{none}
use Prim.Native.Nat.{ℕ, ◌*◌, ◌<◌}
use native.Mathlib.Omega.{arith}
use borrow.Author.Tests.{eqb-true}
use lib.ListN.{length, get_or}
use Rattle.std.specs.Prelude.{Option, None, Some, MatchOption, Result, Ok, Err, IsErrAnd}
use Rattle.std.specs.Option.{ok_or}
use Rattle.model.specs.Basic.{every}
use Rattle.model.specs.Outcome.{accepted, refused, verdict_in}
use Rattle.model.specs.Image.{header_size, word_at, decode, is_image_of, loads}
use Rattle.model.specs.declared.Refusal.TheVariants.{ImageNotAccepted}
use Rattle.laws.proofs.Tests.{passed, clash, iff}
use Rattle.layout.specs.Groups.{tables_ok}
use Rattle.layout.specs.declared.CheckedImage.{CheckedImage}
use Rattle.layout.proofs.Groups.{grouped, groups}
use Rattle.layout.proofs.Within.{header_within}
use Rattle.load.specs.Judged.{Judged}

-- no image ends within its header
pub too_short : (img : List ℕ) → ((k : ℕ) → get_or img k 0 < 256) → length img < header_size * 4 → is_image_of img (decode (word_at img)) ≡ false
unfolding tables_ok
too_short img small l = groups img small ∙ iff (every (grouped img)) false whole (λ e. clash e)
  where
    whole : every (grouped img) ≡ true → false ≡ true
    whole e =
        let t = passed _ e in
        absurd (omega (arith, header_within img (eqb-true (length img) (word_at img 1 * 4) t.0) (passed _ t.1.0).0))

-- an image or none, as a result
pub judged : (img : List ℕ) (found : Option CheckedImage)
    → MatchOption found (is_image_of img (decode (word_at img)) ≡ false)
    (λ image. (is_image_of img (decode (word_at img)) ≡ true) × (image.stored.bytes.now ≡ img))
    → Judged img (ok_or found ImageNotAccepted)
unfolding Judged
judged img None h = (h, refl)
judged img (Some image) h = h

-- what `?` hands on of a refusal
pub handed_on : {T E : Type 0} {e : E} (r : Result T E) → IsErrAnd r (λ x. x ≡ e) → r ≡ Err e
handed_on (Ok x) h = absurd h
handed_on (Err x) h = ap Err h

pub verdict_yes : (img : List ℕ) → is_image_of img (decode (word_at img)) ≡ true → accepted tt ≡ verdict_in (loads img)
unfolding loads
verdict_yes img h = simp h

pub verdict_no : (img : List ℕ) → is_image_of img (decode (word_at img)) ≡ false → refused 11 none ≡ verdict_in (loads img)
unfolding loads
verdict_no img h = simp h
