-- Words without case: their lengths and bytes in capitals, and when two are alike.
use mathlib.Core.Path.{◌≡◌, refl, sym, ap, ◌∙◌}
use mathlib.Core.Bool.{Bool, true, false}
use mathlib.Core.List.{List, [], ◌∷◌}
use Prim.Native.Nat.{ℕ, zero, suc, ◌-◌, ◌%◌, ◌≤◌}
use native.Mathlib.Omega.{arith}
use borrow.Author.Tests.{leb-true, lt-leb}
use lib.Dec.{leb}
use lib.ListN.{length, get_or, length-map}
use Rattle.model.specs.Basic.{between, capital, capitals, alike}
use Rattle.laws.proofs.Search.{other_length}
use Rattle.laws.proofs.Tests.{both}

-- A BYTE: what holds of its capital where it is a small letter, and where it is none
pub by_case : (P : ℕ → Type 0) (c : ℕ) → (97 ≤ c → c ≤ 122 → P (c - 32)) → P c → P (capital c)
by_case P c small other = go (between 97 122 c) refl
  where
    go : (b : Bool) → between 97 122 c ≡ b → P (capital c)
    go true e =
        let t = both (leb 97 c) (leb c 122) e in
        rw e (small (leb-true 97 c t.0) (leb-true c 122 t.1))
    go false e = rw e other

-- a capital is its own
pub capital_again : (c : ℕ) → capital (capital c) ≡ capital c
capital_again c = go (between 97 122 c) refl
  where
    go : (b : Bool) → between 97 122 c ≡ b → capital (capital c) ≡ capital c
    go true e =
        let m = leb-true c 122 (both (leb 97 c) (leb c 122) e).1 in
        rw e (simp (lt-leb 97 (c - 32) (omega arith)))
    go false e = rw e (rw e)

-- the five low bits
pub low_bits : (c : ℕ) → capital c % 32 ≡ c % 32
low_bits c = by_case (λ d. d % 32 ≡ c % 32) c (λ l m. omega (arith, l)) refl

pub alike_low : (a b : ℕ) → capital a ≡ capital b → a % 32 ≡ b % 32
alike_low a b e = sym (low_bits a) ∙ ap (λ (c : ℕ). c % 32) e ∙ low_bits b

-- WORDS
pub length_capitals : (w : List ℕ) → length (capitals w) ≡ length w
length_capitals w = length-map w capital

pub byte_capitals : (w : List ℕ) (k : ℕ) → get_or (capitals w) k 0 ≡ capital (get_or w k 0)
byte_capitals [] k = refl
byte_capitals (c ∷ w) zero = refl
byte_capitals (c ∷ w) (suc k) = byte_capitals w k

pub capitals_again : (w : List ℕ) → capitals (capitals w) ≡ capitals w
capitals_again [] = refl
capitals_again (c ∷ w) = λ j. capital_again c j ∷ capitals_again w j

pub other_word : (v w : List ℕ) → (length v ≡ length w → ⊥) → alike v w ≡ false
other_word v w h = other_length (capitals v) (capitals w) (λ e. h (sym (length_capitals v) ∙ e ∙ length_capitals w))
