-- Rounding a signed fraction by its magnitude; the result depends on the fraction alone; the clamp.
use mathlib.Core.Path.{◌≡◌, refl, sym, ap, ◌∙◌}
use mathlib.Core.Bool.{Bool, true, false}
use Prim.Native.Nat.{ℕ, zero, suc, ◌+◌, ◌*◌, ◌-◌, ◌/◌, ◌≤◌, ◌<◌, min}
use native.Mathlib.Nat.{mul_assoc, mul_comm, add-mul, div-div-eq-div-mul, div-eq_of_lt, add-div_right, mul-div-mul_right, mul-pos}
use native.Mathlib.Numerals.{add-one}
use native.Mathlib.Omega.{arith}
use native.Mathlib.Decide.{dec_le}
use lib.Arith.{digits_div}
use lib.IntN.{ℤ, pos, negsuc, neg_ℤ, nat_abs, sub_ℕ, ◌+ℤ◌, ◌*ℤ◌}
use lib.Signed.{shr_z}
use borrow.Author.Tests.{le-ltb, lt-ltb}
use Rattle.model.specs.Bounds.{crisp_limit}
use Rattle.model.specs.Degrees.{nearestℤ}
use Rattle.model.specs.Readings.{clamped}
use Rattle.nearest_laws.proofs.Difference.{same, pos_is, neg_is, by_sign, diff_add, diff_scale}
use Rattle.readings.specs.Fields.{magnitude_of}

-- the same in one division
abbrev floored : ℕ → ℕ → ℕ → ℕ
floored c a d = (2 * a + d - c) / (2 * d)

pub floored_is : (c a d : ℕ) → c ≤ 1 → 0 < d → magnitude_of c a d ≡ floored c a d
floored_is c a d hc hd = go (dec_le c (2 * a))
  where
    go : Dec (c ≤ 2 * a) → magnitude_of c a d ≡ floored c a d
    go (yes h) =
        let n = 2 * a + d - c in
        let p : 0 < 2 = omega arith in
        let e : 2 * (2 * a - c) + 2 * d ≡ n * 2 = omega arith in
        let g : 2 * (2 * d) ≡ 2 * d * 2 = omega arith in
        ap (λ (x : ℕ). x / (2 * (2 * d))) e ∙ ap (λ (x : ℕ). n * 2 / x) g ∙ mul-div-mul_right n (2 * d) p
    go (no h) =
        let e : magnitude_of c a d ≡ 0 = div-eq_of_lt (omega arith) in
        let f : floored c a d ≡ 0 = div-eq_of_lt (omega arith) in
        e ∙ sym f

-- the fraction's terms times k: (2a + d - c) k + c (k - 1), over 2 d k
floored_scale : (c a d k : ℕ) → c ≤ 1 → 0 < d → 0 < k → floored c (a * k) (d * k) ≡ floored c a d
floored_scale c a d k hc hd hk =
    let n = 2 * a + d - c in
    let f : n + c ≡ 2 * a + d = omega arith in
    let r = c * (k - 1) in
    let w : (r < k) × (r + c ≡ c * k) = whole c hc in
    let rk : r < k = w.0 in
    let e : 2 * (a * k) + d * k - c ≡ n * k + r = omega (arith, add-mul n c k, ap (λ (x : ℕ). x * k) f, add-mul (2 * a) d k, mul_assoc 2 a k, w.1) in
    let g : 2 * (d * k) ≡ k * (2 * d) = sym (mul_assoc 2 d k) ∙ mul_comm (2 * d) k in
    ap (λ (x : ℕ). x / (2 * (d * k))) e
    ∙ ap (λ (x : ℕ). (n * k + r) / x) g
    ∙ sym (div-div-eq-div-mul (n * k + r) k (2 * d))
    ∙ ap (λ (x : ℕ). x / (2 * d)) (digits_div n rk)
  where
    whole : (c : ℕ) → c ≤ 1 → (c * (k - 1) < k) × (c * (k - 1) + c ≡ c * k)
    whole zero h = (omega arith, omega arith)
    whole (suc zero) h = (omega arith, omega arith)
    whole (suc (suc c)) h = absurd (too c h)
      where
        too : (c : ℕ) → suc (suc c) ≤ 1 → ⊥
        too c h = omega arith

pub scaled : (c a d k : ℕ) → c ≤ 1 → 0 < d → 0 < k → magnitude_of c (a * k) (d * k) ≡ magnitude_of c a d
scaled c a d k hc hd hk =
    let p : 0 < d * k = mul-pos hd hk in
    floored_is c (a * k) (d * k) hc p ∙ floored_scale c a d k hc hd hk ∙ sym (floored_is c a d hc hd)

-- two ways to write one fraction
pub same_fraction : (c a d a' d' : ℕ) → c ≤ 1 → 0 < d → 0 < d' → a * d' ≡ a' * d → magnitude_of c a d ≡ magnitude_of c a' d'
same_fraction c a d a' d' hc hd hd' e =
    sym (scaled c a d d' hc hd hd')
    ∙ ap (λ (x : ℕ). magnitude_of c x (d * d')) e
    ∙ ap (λ (x : ℕ). magnitude_of c (a' * d) x) (mul_comm d d')
    ∙ scaled c a' d' d hc hd' hd

abbrev pub side : Bool → ℕ
side true = 1
side false = 0

pub side_le : (s : Bool) → side s ≤ 1
side_le true = omega arith
side_le false = omega arith

abbrev pub signed : Bool → ℕ → ℤ
signed true n = neg_ℤ (pos n)
signed false n = pos n

-- `nearestℤ` of a signed fraction, by its magnitude
pub nearest_signed : (s : Bool) (a d : ℕ) → 0 < d → nearestℤ (signed s a) d ≡ signed s (magnitude_of (side s) a d)
nearest_signed false a d p = ap (λ (x : ℕ). pos (x / (2 * d))) (omega arith) ∙ ap pos (sym (floored_is 0 a d (omega arith) p))
nearest_signed true a d p =
    ap (λ (z : ℤ). shr_z (z *ℤ pos 2 +ℤ pos d) (2 * d)) (neg_is a)
    ∙ ap (λ (z : ℤ). shr_z (z +ℤ pos d) (2 * d)) (diff_scale 0 a 2)
    ∙ ap (λ (z : ℤ). shr_z (sub_ℕ 0 (a * 2) +ℤ z) (2 * d)) (pos_is d)
    ∙ ap (λ (z : ℤ). shr_z z (2 * d)) (diff_add 0 (a * 2) d 0 ∙ same (0 + d) (a * 2 + 0) d (2 * a) (omega arith))
    ∙ by_sign (λ (z : ℤ). shr_z z (2 * d) ≡ neg_ℤ (pos (floored 1 a d))) d (2 * a)
    (λ h.
    let e : floored 1 a d ≡ 0 = div-eq_of_lt (omega arith) in
    let e' : (d - 2 * a) / (2 * d) ≡ 0 = div-eq_of_lt (omega arith) in
    ap pos e' ∙ ap (λ (x : ℕ). neg_ℤ (pos x)) (sym e))
    (λ h.
    let n = 2 * a - suc d in
    let p2 : 0 < 2 * d = omega arith in
    let e : floored 1 a d ≡ suc (n / (2 * d)) = ap (λ (x : ℕ). x / (2 * d)) (omega arith) ∙ add-div_right n p2 ∙ add-one (n / (2 * d)) in
    ap (λ (x : ℕ). neg_ℤ (pos x)) (sym e))
    ∙ ap (λ (x : ℕ). neg_ℤ (pos x)) (sym (floored_is 1 a d (omega arith) p))

pub clamp_signed : (s : Bool) (n : ℕ) → clamped (signed s n) ≡ signed s (min n crisp_limit)
clamp_signed false n = go (dec_le n crisp_limit)
  where
    go : Dec (n ≤ crisp_limit) → clamped (pos n) ≡ pos (min n crisp_limit)
    go (yes h) = rw (le-ltb crisp_limit n h) (ap pos (omega arith))
    go (no h) = let l : crisp_limit < n = omega arith in rw (lt-ltb crisp_limit n l) (ap pos (omega arith))
clamp_signed true zero = refl
clamp_signed true (suc n) = go (dec_le n 999999999)
  where
    go : Dec (n ≤ 999999999) → clamped (negsuc n) ≡ neg_ℤ (pos (min (suc n) crisp_limit))
    go (yes h) =
        let m : min (suc n) crisp_limit ≡ suc n = omega arith in
        rw (le-ltb 999999999 n h, m)
    go (no h) =
        let m : min (suc n) crisp_limit ≡ crisp_limit = omega arith in
        let l : 999999999 < n = omega arith in
        rw (lt-ltb 999999999 n l, m)

pub signed_crisp : (s : Bool) (n : ℕ) → n ≤ crisp_limit → nat_abs (signed s n) ≤ crisp_limit
signed_crisp false n h = h
signed_crisp true zero h = h
signed_crisp true (suc n) h = h

pub clamped_crisp : (z : ℤ) → nat_abs (clamped z) ≤ crisp_limit
clamped_crisp (pos n) = rw (clamp_signed false n) (signed_crisp false (min n crisp_limit) (omega arith))
clamped_crisp (negsuc n) = rw (clamp_signed true (suc n)) (signed_crisp true (min (suc n) crisp_limit) (omega arith))
