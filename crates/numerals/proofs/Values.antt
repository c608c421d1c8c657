-- Which texts are crisp values, degrees and weights, and rule numbers, by their digits and their sign.
use Rattle.std.specs.Prelude.{if◌then◌else◌}
use mathlib.Core.Path.{◌≡◌, refl, sym}
use mathlib.Core.List.{List, [], ◌∷◌}
use mathlib.Core.Bool.{Bool, true, false, ◌&&◌, and-false}
use Prim.Native.Nat.{ℕ, zero, suc, ◌*◌, ◌≤◌, ◌<◌}
use native.Mathlib.Omega.{arith}
use borrow.Author.Tests.{le-leb, lt-leb}
use lib.Dec.{leb, eqb, leb-zero, leb-suc-zero, leb-suc-suc}
use lib.IntN.{ℤ, pos, neg_ℤ, nat_abs, ◌-ℤ◌}
use lib.Signed.{le_z}
use lib.ListN.{length}
use mir.Syntax.{w32}
use mir.Val.{SFits, to_z}
use mir.ValLaws.{to_z_pos}
use Rattle.model.specs.Basic.{all, run, between}
use Rattle.model.specs.Bounds.{crisp_limit, rule_number_limit}
use Rattle.model.specs.Tokens.{is_digit, starts, decimal, magnitude, value_of, digits_fit, is_crisp, is_unit, unit_of, is_rule_number}
use Rattle.laws.proofs.Signed as laws-signed
use Rattle.laws.proofs.Signed.{taken_from_zero}
use Rattle.numerals.specs.Written.{unit_limit}

abbrev signed : Bool → ℕ → ℤ
signed b m = if b then neg_ℤ (pos m) else pos m

-- -m as the code makes it
pub minus_fits : (m : ℕ) → m ≤ crisp_limit → SFits w32 (pos 0 -ℤ to_z w32 m)
minus_fits m h = rw (taken_from_zero m h) (laws-signed.minus_fits m h)

pub plus_is : (m : ℕ) → m ≤ crisp_limit → to_z w32 m ≡ signed false m
plus_is m h = to_z_pos w32 m (omega arith)

-- CRISP VALUES, DEGREES AND WEIGHTS
abs_signed : (b : Bool) (m : ℕ) → nat_abs (signed b m) ≡ m
abs_signed true zero = refl
abs_signed true (suc m) = refl
abs_signed false m = refl

unit_signed : (b : Bool) (m : ℕ) → le_z (pos 0) (signed b m) && le_z (signed b m) (pos 1000) ≡ leb m (if b then 0 else 1000)
unit_signed true zero = refl
unit_signed true (suc m) = sym (leb-suc-zero m)
unit_signed false m = rw (leb-zero m) refl

module _ (w : List ℕ) where
  pub crisp_by : is_crisp w ≡ digits_fit w && leb (magnitude w) crisp_limit
  unfolding is_crisp value_of
  crisp_by = rw (abs_signed (starts (eqb 45) w) (magnitude w)) refl

  pub unit_by : is_unit w ≡ digits_fit w && leb (magnitude w) (unit_limit w)
  unfolding is_unit value_of
  unit_by = rw (unit_signed (starts (eqb 45) w) (magnitude w)) refl

  -- t thousandths, by the digits
  module _ (t : ℕ) (f : digits_fit w ≡ true) (e : t ≡ magnitude w) where
    pub crisp_is : t ≤ crisp_limit → (b : Bool) → starts (eqb 45) w ≡ b → (z : ℤ) → z ≡ signed b t
        → (is_crisp w ≡ true) × (z ≡ value_of w)
    unfolding value_of
    crisp_is h b s z q = (rw (crisp_by, f, sym e, le-leb t crisp_limit h) refl, rw (s, sym e) q)

    pub unit_is : t ≤ unit_limit w → (is_unit w ≡ true) × (t * 1000 ≡ unit_of w)
    unfolding unit_of
    unit_is h = (rw (unit_by, f, sym e, le-leb t (unit_limit w) h) refl, rw (sym e) refl)

-- RULE NUMBERS
all_run : (f : ℕ → Bool) (w : List ℕ) → all f w ≡ leb (length w) (run f w)
unfolding all run
all_run f [] = refl
all_run f (c ∷ w) = go (f c) refl (all_run f w)
  where
    go : (b : Bool) → f c ≡ b → all f w ≡ leb (length w) (run f w) → all f (c ∷ w) ≡ leb (length (c ∷ w)) (run f (c ∷ w))
    go true e h = rw (run, e, leb-suc-suc (length w) (run f w)) h
    go false e h = rw (run, e, leb-suc-zero (length w)) refl

module _ (w : List ℕ) where
  pub rule_long : 7 < length w → is_rule_number w ≡ false
  unfolding is_rule_number
  rule_long h = rw (lt-leb (length w) 7 h) (and-false (all is_digit w))

  pub rule_other : run is_digit w < length w → is_rule_number w ≡ false
  unfolding is_rule_number
  rule_other h = rw (all_run is_digit w, lt-leb (length w) (run is_digit w) h) refl

  pub rule_by : length w ≤ run is_digit w → length w ≤ 7 → is_rule_number w ≡ between 1 rule_number_limit (decimal w)
  unfolding is_rule_number
  rule_by a l = rw (all_run is_digit w, le-leb (length w) (run is_digit w) a, le-leb (length w) 7 l) refl
