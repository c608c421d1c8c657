-- Digits of a text, by their places: what they count to, and the parts of a number.
use mathlib.Core.Path.{◌≡◌, refl, sym, ap, ◌∙◌}
use mathlib.Core.List.{List, [], ◌∷◌}
use mathlib.Core.Bool.{Bool, true, false}
use Prim.Native.Nat.{ℕ, min, ◌+◌, ◌*◌, ◌-◌, ◌^◌, ◌≤◌, ◌<◌}
use native.Mathlib.Nat.{pow-suc, pow-le-pow_right}
use native.Mathlib.Numerals.{add-one}
use native.Mathlib.Omega.{arith}
use borrow.Author.Tests.{le-leb, leb-true, leb-false}
use lib.Dec.{leb}
use lib.ListN.{length, take, drop, get_or, drop_of_length-le}
use lib.Seq.{drop-cons}
use Rattle.model.specs.Basic.{run}
use Rattle.model.specs.Tokens.{is_digit, unsigned, whole, fraction, decimal_from, decimal, magnitude, digits_fit}
use Rattle.laws.proofs.Slices.{rest}
use Rattle.numerals.specs.Written.{thousandths_of}

-- THE VALUE OF DIGITS
module _ (w : List ℕ) (n k : ℕ) where
  pub decimal_more : k < length w → decimal_from (n * 10 + (get_or w k 0 - 48)) (drop (k + 1) w) ≡ decimal_from n (drop k w)
  unfolding decimal_from
  decimal_more h = rw (add-one, drop-cons w k 0) refl

  pub decimal_end : length w ≤ k → decimal_from n (drop k w) ≡ n
  unfolding decimal_from
  decimal_end h = rw (drop_of_length-le w {i = k} h) refl

-- any byte counts for at most 207
abbrev pub Small : (n m : ℕ) → Type 0
Small n m = n + 23 ≤ 23 * 10 ^ m

pub small_more : (n d k : ℕ) → d ≤ 207 → Small n k → Small (n * 10 + d) (k + 1)
small_more n d k g p = rw (add-one, pow-suc 10 k) (omega arith)

pub small_end : (n m : ℕ) → m ≤ 7 → Small n m → n ≤ 229999977
small_end n m g p = omega (arith, pow-le-pow_right {n = 10} (omega arith) g)

-- the digits behind a point
pub one_digit : (s : List ℕ) → length s ≡ 1 → decimal s * 100 ≡ thousandths_of s
unfolding decimal_from
one_digit [] h = absurd (omega arith)
one_digit (a ∷ []) h = omega arith
one_digit (a ∷ b ∷ s) h = absurd (omega arith)

pub two_digits : (s : List ℕ) → length s ≡ 2 → decimal s * 10 ≡ thousandths_of s
unfolding decimal_from
two_digits [] h = absurd (omega arith)
two_digits (a ∷ []) h = absurd (omega arith)
two_digits (a ∷ b ∷ []) h = omega arith
two_digits (a ∷ b ∷ c ∷ s) h = absurd (omega arith)

pub other_digits : (s : List ℕ) → length s ≤ 3 → (length s ≡ 1 → ⊥) → (length s ≡ 2 → ⊥) → decimal s ≡ thousandths_of s
unfolding decimal_from
other_digits [] h p q = refl
other_digits (a ∷ []) h p q = absurd (p refl)
other_digits (a ∷ b ∷ []) h p q = absurd (q refl)
other_digits (a ∷ b ∷ c ∷ []) h p q = refl
other_digits (a ∷ b ∷ c ∷ d ∷ s) h p q = absurd (omega arith)

-- THE PARTS OF A NUMBER: s without its sign, the point at p, and the fraction from f on
module _ (w s : List ℕ) (p f : ℕ) (hs : s ≡ unsigned w) (hp : p ≡ run is_digit s) (hf : f ≡ min (length s) (p + 1)) where
  whole_is : take p s ≡ whole w
  whole_is = rw (hp, hs) refl

  fraction_is : take (length s - f) (drop f s) ≡ fraction w
  fraction_is =
      rest s f
      ∙ by (leb (p + 1) (length s)) refl
      ∙ rw (add-one, hp, hs) refl
    where
      by : (b : Bool) → leb (p + 1) (length s) ≡ b → drop f s ≡ drop (p + 1) s
      by true h = let k = leb-true (p + 1) (length s) h in ap (λ (i : ℕ). drop i s) (omega arith)
      by false h =
          let k = leb-false (p + 1) (length s) h in
          drop_of_length-le s {i = f} (omega arith) ∙ sym (drop_of_length-le s {i = p + 1} (omega arith))

  pub parts : length (take p s) ≤ 7 → length (take (length s - f) (drop f s)) ≤ 3 → (x y : ℕ) → x ≡ decimal (take p s)
      → y ≡ thousandths_of (take (length s - f) (drop f s)) → (digits_fit w ≡ true) × (x * 1000 + y ≡ magnitude w)
  unfolding magnitude
  parts g h x y d e = (rw (sym whole_is, sym fraction_is, le-leb _ 7 g, le-leb _ 3 h) refl, rw (d, e, whole_is, fraction_is) refl)
