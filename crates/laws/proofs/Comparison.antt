-- Tests of two whole numbers, and the order that they test: forth and back.
use mathlib.Core.Path.{◌≡◌, refl, sym, subst}
use mathlib.Core.Bool.{Bool, true, false, not}
use native.Mathlib.Omega.{arith}
use borrow.Author.Tests.{le-leb, ltb-true}
use lib.Dec.{T}
use lib.Ieee.Bits.{is_true}
use lib.IntN.{ℤ, pos, negsuc}
use lib.Signed.{lt_z, le_z, ◌≤ℤ◌, ◌<ℤ◌, le_z_yes, lt_z_yes, lt_z_no, clash_ℤ}
use Rattle.laws.proofs.Tests.{clash}

module _ (a b : ℤ) where
  pub at_most : le_z a b ≡ true → a ≤ℤ b
  at_most h = le_z_yes (subst T (sym h) tt)

  pub below : lt_z a b ≡ true → a <ℤ b
  below h = lt_z_yes (subst T (sym h) tt)

  pub not_below : lt_z a b ≡ false → b ≤ℤ a
  not_below h = lt_z_no (subst (λ (q : Bool). T (not q)) (sym h) tt)

  pub le_passes : a ≤ℤ b → le_z a b ≡ true
  le_passes h = is_true (le_z a b) h.le

  pub lt_passes : a <ℤ b → lt_z a b ≡ true
  lt_passes h = is_true (lt_z a b) h.lt

  pub lt_fails : b ≤ℤ a → lt_z a b ≡ false
  lt_fails h = go (lt_z a b) refl
    where
      go : (q : Bool) → lt_z a b ≡ q → q ≡ false
      go true e = clash_ℤ (below e) h
      go false e = refl

pub less_le : (a b : ℤ) → lt_z a b ≡ true → le_z a b ≡ true
less_le (pos m) (pos n) h = le-leb m n (omega (arith, ltb-true m n h))
less_le (pos m) (negsuc n) h = clash h
less_le (negsuc m) (pos n) h = refl
less_le (negsuc m) (negsuc n) h = le-leb n m (omega (arith, ltb-true n m h))
