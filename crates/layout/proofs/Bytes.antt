-- Bytes are the image of the block that they stand for exactly when their number and their words say so.
use mathlib.Core.Path.{◌≡◌, sym, ap, ◌∙◌, subst}
use mathlib.Core.List.{List}
use mathlib.Core.Bool.{Bool, true, ◌&&◌}
use Prim.Native.Nat.{ℕ, ◌*◌, ◌<◌}
use lib.Dec.{eqb}
use lib.ListN.{length, get_or}
use borrow.Author.Tests.{eq-eqb, eqb-true}
use Rattle.model.specs.Basic.{same}
use Rattle.model.specs.WellFormed.{well_formed}
use Rattle.model.specs.Image.{word_at, bytes_of, words, image, decode, is_image_of}
use Rattle.laws.proofs.Tests.{both, and_i, iff}
use Rattle.laws.proofs.Places.{At, same_eq, same_refl}
use Rattle.words.proofs.Bytes.{length_bytes, words_at, bytes_at, word_fits}
use Rattle.layout.proofs.Whole.{shape_in, shape_out}
use Rattle.layout.proofs.Shape.{shape_ok}

abbrev shaped : List ℕ → Bool
shaped img = eqb (length img) (word_at img 1 * 4) && shape_ok (word_at img)

pub same_image : (img : List ℕ) → ((k : ℕ) → get_or img k 0 < 256) → same img (image (decode (word_at img))) ≡ shaped img
unfolding image
same_image img f = iff (same img (bytes_of ws)) (shaped img) to from
  where
    ws : List ℕ
    ws = words (decode (word_at img))

    to : same img (bytes_of ws) ≡ true → shaped img ≡ true
    to h =
        let e : img ≡ bytes_of ws = same_eq img (bytes_of ws) h in
        let a : At (word_at img) 0 ws = subst (λ (l : List ℕ). At (word_at l) 0 ws) (sym e) (words_at ws) in
        let s = shape_in (word_at img) a in
        let l = (shape_out (word_at img) (word_fits img f) s).1 in
        let n : length img ≡ word_at img 1 * 4 = ap length e ∙ length_bytes ws ∙ ap (λ (x : ℕ). x * 4) l in
        and_i _ _ (eq-eqb _ _ n) s

    from : shaped img ≡ true → same img (bytes_of ws) ≡ true
    from h =
        let b = both (eqb (length img) (word_at img 1 * 4)) (shape_ok (word_at img)) h in
        let o = shape_out (word_at img) (word_fits img f) b.1 in
        let n : length img ≡ length ws * 4 = eqb-true _ _ b.0 ∙ ap (λ (x : ℕ). x * 4) (sym o.1) in
        let e : img ≡ bytes_of ws = bytes_at img ws f n o.0 in
        subst (λ (l : List ℕ). same l (bytes_of ws) ≡ true) (sym e) (same_refl (bytes_of ws))

-- what the load check has to test
pub image_tests : (img : List ℕ) → ((k : ℕ) → get_or img k 0 < 256) → is_image_of img (decode (word_at img)) ≡ well_formed (decode (word_at img)) && shaped img
unfolding is_image_of
image_tests img f = ap (λ (b : Bool). well_formed (decode (word_at img)) && b) (same_image img f)
