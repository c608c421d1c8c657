-- The first of a list that passes a test, looked for one by one; words of different lengths.
use mathlib.Core.Path.{◌≡◌, refl, sym, ap, ◌∙◌}
use mathlib.Core.List.{List, [], ◌∷◌}
use mathlib.Core.Bool.{Bool, true, false, and-false}
use Prim.Native.Nat.{ℕ, suc, ◌+◌, ◌-◌, ◌≤◌, ◌<◌}
use native.Mathlib.Omega.{arith}
use lib.Dec.{eqb}
use lib.ListN.{length}
use Rattle.model.specs.Basic.{same, index_of, tab}
use Rattle.laws.proofs.Places.{step, gone}

pub other_length : (v w : List ℕ) → (length v ≡ length w → ⊥) → same v w ≡ false
other_length [] [] h = absurd (h refl)
other_length [] (y ∷ w) h = refl
other_length (x ∷ v) [] h = refl
other_length (x ∷ v) (y ∷ w) h = rw (other_length v w (λ e. h (ap suc e))) (and-false (eqb x y))

-- the first i of n values from m on do not pass
abbrev pub Past : {A : Type 0} → (A → Bool) → (ℕ → A) → ℕ → ℕ → ℕ → Type 0
Past f g n m i = (i ≤ n) × (i + index_of f (tab g (n - i) (m + i)) ≡ index_of f (tab g n m))

module _ {A : Type 0} (f : A → Bool) (g : ℕ → A) (n m : ℕ) where
  pub past_start : Past f g n m 0
  past_start =
      let p : m + 0 ≡ m = omega arith in
      let q : n - 0 ≡ n = omega arith in
      (omega arith, rw (p, q) (omega arith))

  module _ (i : ℕ) where
    pub past_more : i < n → f (g (m + i)) ≡ false → Past f g n m i → Past f g n m (i + 1)
    unfolding tab
    past_more h q p =
        let k : m + (i + 1) ≡ suc (m + i) = omega arith in
        let z : i + index_of f (tab g (n - i) (m + i)) ≡ i + 1 + index_of f (tab g (n - (i + 1)) (m + (i + 1))) =
        rw (k, step n i h) (simp q (omega arith)) in
        (omega arith, sym z ∙ p.1)

    pub past_here : i < n → f (g (m + i)) ≡ true → Past f g n m i → i ≡ index_of f (tab g n m)
    unfolding tab
    past_here h q p =
        let z : i + index_of f (tab g (n - i) (m + i)) ≡ i = rw (step n i h) (simp q (omega arith)) in
        sym z ∙ p.1

    pub past_end : n ≤ i → Past f g n m i → i ≡ index_of f (tab g n m)
    unfolding tab
    past_end h p =
        let z : i + index_of f (tab g (n - i) (m + i)) ≡ i = rw (gone n i h) (omega arith) in
        sym z ∙ p.1
