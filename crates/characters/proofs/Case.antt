-- Two bytes but for case: alike where one is the small letter of the other.
use mathlib.Core.Path.{◌≡◌, refl, sym, ◌∙◌}
use mathlib.Core.Bool.{Bool, true, false}
use Prim.Native.Nat.{ℕ, ◌+◌, ◌-◌, ◌≤◌}
use native.Mathlib.Omega.{arith}
use borrow.Author.Tests.{eq-eqb, ne_eqb, eqb-true, leb-true, le-leb, lt-leb}
use lib.Dec.{leb, eqb}
use Rattle.model.specs.Basic.{between, capital}
use Rattle.laws.proofs.Tests.{both, and_i, iff, clash}

inside : (a b c : ℕ) → a ≤ c → c ≤ b → between a b c ≡ true
inside a b c l m = and_i (leb a c) (leb c b) (le-leb a c l) (le-leb c b m)

pub turned : (a b : ℕ) → eqb a b ≡ eqb b a
turned a b = iff (eqb a b) (eqb b a) (λ e. eq-eqb b a (sym (eqb-true a b e))) (λ e. eq-eqb a b (sym (eqb-true b a e)))

-- t is a capital
module _ (t c : ℕ) (h : between 65 90 t ≡ true) where
  ends : (65 ≤ t) × (t ≤ 90)
  ends = let e = both (leb 65 t) (leb t 90) h in (leb-true 65 t e.0, leb-true t 90 e.1)

  its_own : capital t ≡ t
  its_own = simp (lt-leb 97 t (omega (arith, ends.1)))

  of_small : c ≡ t + 32 → capital c ≡ t
  of_small e = rw (inside 97 122 c (omega (arith, ends.0)) (omega (arith, ends.1))) (omega arith)

  to_small : (c ≡ t → ⊥) → capital c ≡ t → c ≡ t + 32
  to_small n = go (between 97 122 c) refl
    where
      go : (b : Bool) → between 97 122 c ≡ b → capital c ≡ t → c ≡ t + 32
      go true f e =
          let l = leb-true 97 c (both (leb 97 c) (leb c 122) f).0 in
          let q : c - 32 ≡ t = sym (rw f) ∙ e in
          omega arith
      go false f e = absurd (n (sym (rw f) ∙ e))

  pub paired : (c ≡ t → ⊥) → eqb c (t + 32) ≡ eqb (capital c) (capital t)
  paired n =
      iff (eqb c (t + 32)) (eqb (capital c) (capital t)) (λ e. eq-eqb _ _ (of_small (eqb-true c (t + 32) e) ∙ sym its_own))
      (λ e. eq-eqb _ _ (to_small n (eqb-true (capital c) (capital t) e ∙ its_own)))

-- neither is a capital
pub unpaired : (a b : ℕ) → between 65 90 a ≡ false → between 65 90 b ≡ false → (a ≡ b → ⊥) → eqb (capital a) (capital b) ≡ false
unpaired a b ha hb n = ne_eqb (capital a) (capital b) (λ e. n (go (between 97 122 a) refl (between 97 122 b) refl e))
  where
    -- the capital of a small letter is one
    raised : (c d : ℕ) → between 97 122 c ≡ true → c - 32 ≡ d → between 65 90 d ≡ true
    raised c d f e =
        let t = both (leb 97 c) (leb c 122) f in
        let l = leb-true 97 c t.0 in
        let m = leb-true c 122 t.1 in
        inside 65 90 d (omega arith) (omega arith)

    go : (x : Bool) → between 97 122 a ≡ x → (y : Bool) → between 97 122 b ≡ y → capital a ≡ capital b → a ≡ b
    go true f true g e =
        let l = leb-true 97 a (both (leb 97 a) (leb a 122) f).0 in
        let m = leb-true 97 b (both (leb 97 b) (leb b 122) g).0 in
        let q : a - 32 ≡ b - 32 = sym (rw f) ∙ e ∙ rw g in
        omega arith
    go true f false g e = clash (sym hb ∙ raised a b f (sym (rw f) ∙ e ∙ rw g))
    go false f true g e = clash (sym ha ∙ raised b a g (sym (rw g) ∙ sym e ∙ rw f))
    go false f false g e = sym (rw f) ∙ e ∙ rw g
