-- What `real_of` gives of a float, from the fields of its bits.
use Rattle.std.specs.Prelude.{Result, Ok, Err, if◌then◌else◌}
use mathlib.Core.Path.{◌≡◌, refl, sym, ap, ◌∙◌, subst}
use mathlib.Core.Bool.{Bool, true, false, not, cond}
use Prim.Native.Nat.{ℕ, zero, suc, ◌+◌, ◌*◌, ◌-◌, ◌/◌, ◌%◌, ◌^◌, ◌<◌, min}
use native.Mathlib.Nat.{mul_assoc}
use native.Mathlib.Omega.{arith}
use lib.Pow.{pow_pos}
use lib.Dec.{T, leb, eqb}
use lib.IntN.{ℤ, pos, neg_ℤ}
use lib.Ieee.{Float, nan, inf, fin, binary32, fits, is_nan, ne, odd, of_fields, of_bits, to_bits, up, down}
use lib.Ieee.Exact.{HasValue, odd_sign}
use lib.Ieee.Bits.{of_bits-to_bits}
use lib.Ieee.Compare.{differs_from_itself}
use lib.Ieee.Fits.{down_pos}
use borrow.Author.Tests.{ne_eqb}
use Rattle.model.specs.Bounds.{crisp_limit}
use Rattle.model.specs.Degrees.{nearestℤ}
use Rattle.model.specs.Readings.{clamped, real_of}
use Rattle.model.specs.declared.Crisp.{Crisp}
use Rattle.model.specs.declared.NotTaken.{NotTaken}
use Rattle.model.specs.declared.NotTaken.TheVariants.{NotFinite}
use Rattle.readings.specs.Fields.{significand_of, magnitude_of}
use Rattle.readings.proofs.Rounding.{side, side_le, signed, nearest_signed, same_fraction, clamp_signed}

abbrev rounded : Bool → ℕ → ℕ → Result Crisp NotTaken
rounded s a d = Ok (record { 0 = signed s (min (magnitude_of (side s) (1000 * a) d) crisp_limit) })

-- a float of the value a / d
by_value : (x : Float) (s : Bool) (a d : ℕ) → 0 < d → HasValue x s a d → real_of x ≡ rounded s a d
unfolding real_of
by_value nan s a d p v = absurd v
by_value (inf t) s a d p v = absurd v
by_value (fin t m e) s a d p v =
    let n = 1000 * m * up e in
    let h : n * d ≡ 1000 * a * down e =
    ap (λ (x : ℕ). x * d) (mul_assoc 1000 m (up e)) ∙ mul_assoc 1000 (m * up e) d ∙ ap (λ (x : ℕ). 1000 * x) v.1 ∙ sym (mul_assoc 1000 a (down e)) in
    ap (λ (z : ℤ). Ok (record { 0 = clamped z }))
    (exactly_is t n ∙ nearest_signed t n (down e) (down_pos e) ∙ ap (signed t) (same_fraction (side t) n (down e) (1000 * a) d (side_le t) (down_pos e) p h))
    ∙ ap (λ (z : ℤ). Ok (record { 0 = z })) (clamp_signed t (magnitude_of (side t) (1000 * a) d))
    ∙ ap (λ (b : Bool). rounded b a d) v.0
  where
    exactly_is : (t : Bool) (n : ℕ) → nearestℤ (if t then neg_ℤ (pos n) else pos n) (down e) ≡ nearestℤ (signed t n) (down e)
    exactly_is true n = refl
    exactly_is false n = refl

pub finite : (s : Bool) (e t : ℕ) → (e ≡ 255 → ⊥) → real_of (of_fields binary32 s e t) ≡ rounded s (significand_of e t * 2 ^ (e - 1)) (2 ^ 149)
unfolding of_fields
finite s zero t n255 = by_value (odd 24 s t 0 149) s (t * 2 ^ 0) (2 ^ 149) (pow_pos 149) (odd_sign 24 s t 0 149)
finite s (suc e) t n255 =
    let k : suc e - 1 ≡ e = omega arith in
    ap (λ (b : Bool). real_of (cond b (cond (eqb t 0) (inf s) nan) (odd 24 s (8388608 + t) e 149))) (ne_eqb (suc e) 255 n255)
    ∙ by_value (odd 24 s (8388608 + t) e 149) s ((8388608 + t) * 2 ^ e) (2 ^ 149) (pow_pos 149) (odd_sign 24 s (8388608 + t) e 149)
    ∙ ap (λ (j : ℕ). rounded s ((8388608 + t) * 2 ^ j) (2 ^ 149)) (sym k)

pub special : (s : Bool) (e t : ℕ) → e ≡ 255 → real_of (of_fields binary32 s e t) ≡ Err NotFinite
unfolding of_fields real_of
special s e t h = ap (λ (x : ℕ). real_of (of_fields binary32 s x t)) h ∙ go (eqb t 0)
  where
    go : (b : Bool) → real_of (cond b (inf s) nan) ≡ Err NotFinite
    go true = refl
    go false = refl

pub at_bits : (x : Float) → T (fits binary32 x) → (s : Bool) → leb 2147483648 (to_bits binary32 x) ≡ s
    → real_of x ≡ real_of (of_fields binary32 s (to_bits binary32 x % 2147483648 / 8388608) (to_bits binary32 x % 8388608))
unfolding of_bits
at_bits x h s e =
    ap real_of (sym (of_bits-to_bits binary32 x h))
    ∙ ap (λ (b : Bool). real_of (of_fields binary32 b (to_bits binary32 x % 2147483648 / 8388608) (to_bits binary32 x % 8388608))) e

pub no_nan : (x : Float) → ne x x ≡ false → T (not (is_nan x))
unfolding is_nan ne
no_nan nan h = subst T h tt
no_nan (inf s) h = tt
no_nan (fin s m e) h = tt

pub is_nan_lem : (x : Float) → ne x x ≡ true → Err NotFinite ≡ real_of x
unfolding real_of
is_nan_lem x h = ap real_of (sym (differs_from_itself x (subst T (sym h) tt)))
