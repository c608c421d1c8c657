-- Arrays that are filled from the front, one place or one run of places a turn.
use mathlib.Core.Path.{◌≡◌, refl, sym, ap, ◌∙◌}
use mathlib.Core.List.{List, [], ◌∷◌, ◌++◌, map}
use Prim.Native.Nat.{ℕ, zero, suc, ◌+◌, ◌-◌, ◌≤◌}
use native.Mathlib.Omega.{arith}
use lib.ListN.{length, drop, get_or, set, replicate, length-replicate}
use lib.Seq.{sets, sets-eq}
use Rattle.model.specs.Basic.{tab}
use Rattle.laws.proofs.Lists.{tab_append, sets_append}
use Rattle.laws.proofs.Arrays.{replicate_at, map_set}
use Rattle.input_values.specs.Filled.{filled}

pub tab_more : {A : Type 0} (f : ℕ → A) (n s : ℕ) → tab f (n + 1) s ≡ tab f n s ++ (f (s + n) ∷ [])
unfolding tab
tab_more f n s = tab_append f n 1 s

module _ {A : Type 0} where
  drop_replicate : (n k : ℕ) (a : A) → drop k (replicate n a) ≡ replicate (n - k) a
  drop_replicate zero zero a = refl
  drop_replicate zero (suc k) a =
      let e : 0 ≡ 0 - suc k = omega arith in
      ap (λ (m : ℕ). replicate m a) e
  drop_replicate (suc n) zero a =
      let e : suc n ≡ suc n - 0 = omega arith in
      ap (λ (m : ℕ). replicate m a) e
  drop_replicate (suc n) (suc k) a =
      let e : n - k ≡ suc n - suc k = omega arith in
      drop_replicate n k a ∙ ap (λ (m : ℕ). replicate m a) e

  pub filled_sets : (n : ℕ) (a : A) (xs : List A) → length xs ≤ n → sets (replicate n a) 0 xs ≡ filled n a xs
  filled_sets n a xs h =
      let e : 0 + length xs ≡ length xs = omega arith in
      sets-eq xs (replicate n a) 0 (omega (arith, length-replicate n a))
      ∙ ap (λ (k : ℕ). xs ++ drop k (replicate n a)) e
      ∙ ap (λ (l : List A). xs ++ l) (drop_replicate n (length xs) a)

  -- one more place of an array
  pub place_more : (l l₀ : List A) (p q : ℕ) (xs : List A) (y : A) → l ≡ sets l₀ p xs → q ≡ p + length xs → set l q y ≡ sets l₀ p (xs ++ (y ∷ []))
  place_more l l₀ p q xs y h e = (λ j. set (h j) (e j) y) ∙ sym (sets_append l₀ p xs (y ∷ []))

  -- a place past xs reads as the default
  pub filled_at : (n : ℕ) (a : A) (xs : List A) (k : ℕ) → get_or (filled n a xs) k a ≡ get_or xs k a
  filled_at n a xs k = go (n - length xs) xs k
    where
      go : (m : ℕ) (l : List A) (i : ℕ) → get_or (l ++ replicate m a) i a ≡ get_or l i a
      go m [] i = replicate_at m i a
      go m (x ∷ l) zero = refl
      go m (x ∷ l) (suc i) = go m l i

module _ {A B : Type 0} (f : A → B) where
  -- one more place of an array, as its values under f
  pub one_more : (l : List A) (l₀ : List B) (p q : ℕ) (xs : List B) (v : A) (y : B)
      → map f l ≡ sets l₀ p xs → q ≡ p + length xs → f v ≡ y → map f (set l q v) ≡ sets l₀ p (xs ++ (y ∷ []))
  one_more l l₀ p q xs v y h e g = map_set f l q v ∙ (λ j. set (h j) (e j) (g j)) ∙ sym (sets_append l₀ p xs (y ∷ []))
