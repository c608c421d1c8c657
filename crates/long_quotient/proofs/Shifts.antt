-- A quotient by shifts and subtractions: how far b goes into r by a shift, and what is left.
use mathlib.Core.Path.{◌≡◌, sym, ap, ◌∙◌, subst}
use Prim.Native.Nat.{ℕ, zero, suc, ◌+◌, ◌*◌, ◌-◌, ◌%◌, ◌^◌, ◌≤◌, ◌<◌}
use native.Mathlib.Nat.{le_trans, le_of_lt, lt_of_le_of_lt, lt_of_lt_of_le, lt_of_not-le, not-le_of_lt, mul-le-mul_left, mul-le-mul_right, add-mul, mul_comm, one-mul, mul-one, mod-eq_of_lt}
use native.Mathlib.Omega.{arith}
use lib.Dec.{lit<}
use lib.Pow.{pow_mono, pow-add, shl_lt, shl_exact}
use lib.Count.{count_leading_zeros, leading_top}

-- b has as many bits as r when it is shifted by k
pub record Aligned (b r k : ℕ) : Type 0 where
  pub fits : b * 2 ^ k < 2 ^ 64
  pub most : r < b * 2 ^ (k + 1)
  pub least : 0 < k → b * 2 ^ (k - 1) ≤ r

-- where the highest bits of b and r are i and i + k
tops : (b r i k : ℕ) → 2 ^ i ≤ b → b < 2 ^ suc i → 2 ^ (i + k) ≤ r → r < 2 ^ suc (i + k) → suc (i + k) ≤ 64 → Aligned b r k
tops b r i k bl bh rl rh h = record {
  fits = lt_of_lt_of_le (shl_lt {a = b} (suc i) k bh) (pow_mono e₁);
  most = lt_of_lt_of_le rh (subst (λ (x : ℕ). x ≤ b * 2 ^ (k + 1)) (sym (ap (λ (n : ℕ). 2 ^ n) e₂ ∙ pow-add 2 i (k + 1))) (mul-le-mul_right (2 ^ (k + 1)) bl));
  least = λ p.
      let e₃ : suc i + (k - 1) ≡ i + k = omega arith in
      le_trans (le_of_lt (subst (λ (x : ℕ). b * 2 ^ (k - 1) < 2 ^ x) e₃ (shl_lt {a = b} (suc i) (k - 1) bh))) rl;
}
  where
    e₁ : suc i + k ≤ 64
    e₁ = omega arith

    e₂ : suc (i + k) ≡ i + (k + 1)
    e₂ = omega arith

-- of two powers, the smaller has the smaller exponent
pow_lt_cancel : {i j : ℕ} → 2 ^ i < 2 ^ j → i < j
pow_lt_cancel h = lt_of_not-le (λ g. not-le_of_lt h (pow_mono g))

-- the leading zeros that b has and r has not
pub aligned : (b r : ℕ) → 0 < b → b ≤ r → r < 2 ^ 64
    → (count_leading_zeros 64 r ≤ count_leading_zeros 64 b) × (count_leading_zeros 64 b - count_leading_zeros 64 r < 64) × Aligned b r (count_leading_zeros 64 b - count_leading_zeros 64 r)
aligned b r p l h =
    let z = count_leading_zeros 64 in
    let t = leading_top 64 b p (lt_of_le_of_lt l h) in
    let s = leading_top 64 r (omega arith) h in
    let i = t.0 in
    let j = s.0 in
    let up : i < suc j = pow_lt_cancel {i = i} {j = suc j} (lt_of_le_of_lt (le_trans t.2 l) s.3) in
    let eb : z b + suc i ≡ 64 = t.1 in
    let er : z r + suc j ≡ 64 = s.1 in
    let le : z r ≤ z b = omega arith in
    let k = z b - z r in
    let e : j ≡ i + k = omega arith in (
      le,
      omega arith,
      tops b r i k t.2 t.3 (subst (λ (x : ℕ). 2 ^ x ≤ r) e s.2) (subst (λ (x : ℕ). r < 2 ^ suc x) e s.3) (omega arith),
    )

-- where b, shifted so far, is above r, it goes in by one less
module _ (b r k : ℕ) (al : Aligned b r k) (l : b ≤ r) (h : r < b * 2 ^ k) where
  pub some_shift : 0 < k
  some_shift = go k h
    where
      go : (k : ℕ) → r < b * 2 ^ k → 0 < k
      go zero g = absurd (omega (arith, mul-one b))
      go (suc k) g = omega arith

  pub one_less : (b * 2 ^ (k - 1) ≤ r) × (r < b * 2 ^ (k - 1 + 1))
  one_less =
      let p = some_shift in
      let e : k ≡ k - 1 + 1 = omega arith in
      (al.least p, subst (λ (x : ℕ). r < b * 2 ^ x) e h)

-- a shift that loses no bit
pub shifted : (b k r : ℕ) → b * 2 ^ k ≤ r → r < 18446744073709551616 → (b * 2 ^ k) % 18446744073709551616 ≡ b * 2 ^ k
shifted b k r h l = mod-eq_of_lt (lt_of_le_of_lt h l)

pub one_shifted : (k : ℕ) → k < 64 → (1 * 2 ^ k) % 18446744073709551616 ≡ 2 ^ k
one_shifted k h = shl_exact {a = 1} 1 k 64 (lit< tt) (omega arith) ∙ one-mul (2 ^ k)

-- ONE TURN takes b, shifted by k, from what is left
pub taken : (a b q r k : ℕ) → q * b + r ≡ a → b * 2 ^ k ≤ r → (q + 2 ^ k) * b + (r - b * 2 ^ k) ≡ a
taken a b q r k e h = omega (arith, add-mul q (2 ^ k) b, mul_comm b (2 ^ k))

-- a quotient is at most what is divided
pub quotient_le : (a b q r : ℕ) → 0 < b → q * b + r ≡ a → q ≤ a
quotient_le a b q r p e = omega (arith, mul-le-mul_left q p)
