-- The three cases of `magnitude`: past the crisp limit, too small to count, and between.
use mathlib.Core.Path.{◌≡◌, refl, sym, ap, ◌∙◌}
use Prim.Native.Nat.{ℕ, ◌+◌, ◌*◌, ◌-◌, ◌^◌, ◌≤◌, ◌<◌, min}
use native.Mathlib.Nat.{mul_assoc, div-eq_of_lt, le_trans, mul-le-mul_left, mul-le-mul_right}
use native.Mathlib.Omega.{arith}
use lib.Pow.{pow_pos, pow-add, pow_mono}
use Rattle.model.specs.Bounds.{crisp_limit}
use Rattle.nearest_laws.proofs.Laws.{nearest_ge}
use Rattle.readings.specs.Fields.{magnitude_of}
use Rattle.readings.proofs.Rounding.{scaled}

-- 2 ^ 149 is too long a number for omega, so it is a variable in these two
over : (c p d : ℕ) → c ≤ 1 → 0 < d → 8388608 * d ≤ p → crisp_limit ≤ magnitude_of c (1000 * p) d
over c p d hc hd hp =
    nearest_ge crisp_limit (2 * (1000 * p) - c) (2 * d) (omega arith) (omega arith)

under : (c p e d : ℕ) → 0 < e → d ≡ 2199023255552 * e → p ≤ 16777215 * e → magnitude_of c (1000 * p) d ≡ 0
under c p e d he hd hp = div-eq_of_lt (omega arith)

pub large : (c q k : ℕ) → c ≤ 1 → 8388608 ≤ q → 149 ≤ k → crisp_limit ≤ magnitude_of c (1000 * (q * 2 ^ k)) (2 ^ 149)
large c q k hc hq hk = over c (q * 2 ^ k) (2 ^ 149) hc (pow_pos 149) (le_trans (mul-le-mul_right (2 ^ 149) hq) (mul-le-mul_left q (pow_mono hk)))

-- below 2 ^ -16
pub tiny : (c q k : ℕ) → q < 16777216 → k < 109 → magnitude_of c (1000 * (q * 2 ^ k)) (2 ^ 149) ≡ 0
tiny c q k hq hk =
    let h0 : k ≤ 108 = omega arith in
    let h1 : q ≤ 16777215 = omega arith in
    under c (q * 2 ^ k) (2 ^ 108) (2 ^ 149) (pow_pos 108) refl (le_trans (mul-le-mul_left q (pow_mono h0)) (mul-le-mul_right (2 ^ 108) h1))

-- between, the power of two is taken out of the fraction
pub middle : (c q k j : ℕ) → c ≤ 1 → j + k ≡ 149 → magnitude_of c (1000 * q) (2 ^ j) ≡ magnitude_of c (1000 * (q * 2 ^ k)) (2 ^ 149)
middle c q k j hc e =
    sym (scaled c (1000 * q) (2 ^ j) (2 ^ k) hc (pow_pos j) (pow_pos k))
    ∙ ap (λ (x : ℕ). magnitude_of c x (2 ^ j * 2 ^ k)) (mul_assoc 1000 q (2 ^ k))
    ∙ ap (λ (x : ℕ). magnitude_of c (1000 * (q * 2 ^ k)) x) (sym (pow-add 2 j k) ∙ ap (λ (x : ℕ). 2 ^ x) e)

pub min_high : (r v b : ℕ) → r ≡ v → b ≤ r → b ≡ min v b
min_high r v b e h = omega arith

pub min_low : (r v b : ℕ) → r ≡ v → r ≤ b → r ≡ min v b
min_low r v b e h = omega arith
