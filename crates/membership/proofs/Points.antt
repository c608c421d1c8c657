-- The degree of a term by its points, one by one: what is left to compare after each.
use mathlib.Core.Path.{◌≡◌, refl, ap, ◌∙◌}
use mathlib.Core.Bool.{true, false}
use mathlib.Core.List.{◌∷◌}
use Prim.Native.Nat.{ℕ, zero, suc, ◌+◌, ◌-◌, ◌≤◌, ◌<◌}
use native.Mathlib.Omega.{arith}
use lib.IntN.{ℤ}
use lib.Signed.{lt_z}
use Rattle.model.specs.Basic.{tab}
use Rattle.model.specs.Block.{Point}
use Rattle.model.specs.Degrees.{on_line, degree_from, term_degree}
use Rattle.laws.proofs.Places.{step, gone}

module _ (f : ℕ → Point) (x : ℤ) where
  -- below the first point, and not below it
  pub below_first : (n s : ℕ) → 1 ≤ n → lt_z x (f s).at ≡ true → term_degree (tab f n s) x ≡ (f s).degree
  unfolding term_degree tab
  below_first zero s h t = absurd (omega arith)
  below_first (suc n) s h t = rw t refl

  pub after_first : (n s : ℕ) → 1 ≤ n → lt_z x (f s).at ≡ false → term_degree (tab f n s) x ≡ degree_from x (f s) (tab f (s + n - (s + 1)) (s + 1))
  unfolding term_degree tab
  after_first zero s h t = absurd (omega arith)
  after_first (suc n) s h t =
      let e : s + suc n - (s + 1) ≡ n = omega arith in
      let q : s + 1 ≡ suc s = omega arith in
      rw (t, e, q) refl

  -- below the next point, at or above it, and with no next
  module _ (p i e : ℕ) where
    next : i < e → tab f (e - i) i ≡ f i ∷ tab f (e - (i + 1)) (i + 1)
    unfolding tab
    next h =
        let q : suc i ≡ i + 1 = omega arith in
        ap (λ (k : ℕ). tab f k i) (step e i h) ∙ ap (λ (k : ℕ). f i ∷ tab f (e - (i + 1)) k) q

    pub below_next : i < e → lt_z x (f i).at ≡ true → degree_from x (f p) (tab f (e - i) i) ≡ on_line x (f p) (f i)
    unfolding degree_from
    below_next h t = rw (next h, t) refl

    pub after_next : i < e → lt_z x (f i).at ≡ false → degree_from x (f p) (tab f (e - i) i) ≡ degree_from x (f i) (tab f (e - (i + 1)) (i + 1))
    unfolding degree_from
    after_next h t = rw (next h, t) refl

    pub at_last : e ≤ i → degree_from x (f p) (tab f (e - i) i) ≡ (f p).degree
    unfolding degree_from tab
    at_last h = rw (gone e i h) refl
