-- What document 01 says of nearest, "nearest whole number, a half toward plus", describes `nearest` and `nearestℤ` and no other number.
use mathlib.Core.Path.{◌≡◌, refl, sym, ap, ◌∙◌, subst}
use mathlib.Core.Bool.{true, false}
use Prim.Native.Nat.{ℕ, suc, ◌+◌, ◌*◌, ◌-◌, ◌≤◌, ◌<◌}
use native.Mathlib.Nat.{add-mul, mul_assoc, mul_comm, mul-le-mul_left, lt_of_mul-lt-mul_right, zero-mul}
use native.Mathlib.Omega.{arith}
use lib.IntN.{ℤ, pos, negsuc, sub_ℕ, ◌+ℤ◌, ◌-ℤ◌, ◌*ℤ◌}
use lib.Signed.{lt_z, le_z}
use borrow.Author.Tests.{le-leb, leb-true, lt-ltb, ltb-true}
use Rattle.model.specs.Degrees.{nearest, nearestℤ}
use Rattle.nearest_laws.proofs.Laws.{nearest_upper, nearest_lower}
use Rattle.nearest_laws.proofs.Difference.{by_sign, same, pos_is, negsuc_is, neg_is, diff_add, diff_scale, diff_nearest}

-- n is the whole number nearest to a / b, a half toward plus: 2nb - b ≤ 2a < 2nb + b
pub record Nearest (a : ℤ) (b : ℕ) (n : ℤ) : Type 0 where
  pub least : le_z (n *ℤ pos (2 * b) -ℤ pos b) (a *ℤ pos 2) ≡ true
  pub most : lt_z (a *ℤ pos 2) (n *ℤ pos (2 * b) +ℤ pos b) ≡ true

-- THE ORDER of differences, by the cross sums
no : false ≡ true → ⊥
no e = let z : ◌≡◌ {A = ℕ} 0 1 = cc in omega arith

module _ (a b c d : ℕ) where
  diff_le : a + d ≤ c + b → le_z (sub_ℕ a b) (sub_ℕ c d) ≡ true
  diff_le e = by_sign (λ z. le_z z (sub_ℕ c d) ≡ true) a b
      (λ h. by_sign (λ z. le_z (pos (a - b)) z ≡ true) c d (λ k. le-leb (a - b) (c - d) (omega arith)) (λ k. absurd (omega arith)))
      (λ h. by_sign (λ z. le_z (negsuc (b - suc a)) z ≡ true) c d (λ k. refl) (λ k. le-leb (d - suc c) (b - suc a) (omega arith)))

  diff_lt : a + d < c + b → lt_z (sub_ℕ a b) (sub_ℕ c d) ≡ true
  diff_lt e = by_sign (λ z. lt_z z (sub_ℕ c d) ≡ true) a b
      (λ h. by_sign (λ z. lt_z (pos (a - b)) z ≡ true) c d (λ k. lt-ltb (a - b) (c - d) (omega arith)) (λ k. absurd (omega arith)))
      (λ h. by_sign (λ z. lt_z (negsuc (b - suc a)) z ≡ true) c d (λ k. refl) (λ k. lt-ltb (d - suc c) (b - suc a) (omega arith)))

  le_diff : le_z (sub_ℕ a b) (sub_ℕ c d) ≡ true → a + d ≤ c + b
  le_diff = by_sign (λ z. le_z z (sub_ℕ c d) ≡ true → a + d ≤ c + b) a b
      (λ h. by_sign (λ z. le_z (pos (a - b)) z ≡ true → a + d ≤ c + b) c d
      (λ k e. omega (arith, leb-true (a - b) (c - d) e))
      (λ k e. absurd (no e)))
      (λ h. by_sign (λ z. le_z (negsuc (b - suc a)) z ≡ true → a + d ≤ c + b) c d
      (λ k e. omega arith)
      (λ k e. omega (arith, leb-true (d - suc c) (b - suc a) e)))

  lt_diff : lt_z (sub_ℕ a b) (sub_ℕ c d) ≡ true → a + d < c + b
  lt_diff = by_sign (λ z. lt_z z (sub_ℕ c d) ≡ true → a + d < c + b) a b
      (λ h. by_sign (λ z. lt_z (pos (a - b)) z ≡ true → a + d < c + b) c d
      (λ k e. omega (arith, ltb-true (a - b) (c - d) e))
      (λ k e. absurd (no e)))
      (λ h. by_sign (λ z. lt_z (negsuc (b - suc a)) z ≡ true → a + d < c + b) c d
      (λ k e. omega arith)
      (λ k e. omega (arith, ltb-true (d - suc c) (b - suc a) e)))

-- whole numbers as differences; the second so that the divisor takes out
whole : (n : ℤ) → (u : ℕ) × (v : ℕ) × (n ≡ sub_ℕ u v)
whole (pos n) = (n, 0, pos_is n)
whole (negsuc n) = (0, suc n, negsuc_is n)

lifted : (a : ℤ) (b : ℕ) → 0 < b → (x : ℕ) × (k : ℕ) × (a ≡ sub_ℕ x (k * b))
lifted (pos n) b p = (n, 0, pos_is n ∙ ap (sub_ℕ n) (sym (zero-mul b)))
lifted (negsuc n) b p =
    let l : suc n * 1 ≤ suc n * b = mul-le-mul_left (suc n) p in
    (suc n * b - suc n, suc n, negsuc_is n ∙ same 0 (suc n) (suc n * b - suc n) (suc n * b) (omega arith))

module _ (x k b : ℕ) (p : 0 < b) where
  low : (u v : ℕ) → sub_ℕ u v *ℤ pos (2 * b) -ℤ pos b ≡ sub_ℕ (u * (2 * b) + 0) (v * (2 * b) + b)
  low u v = (λ j. diff_scale u v (2 * b) j +ℤ neg_is b j) ∙ diff_add (u * (2 * b)) (v * (2 * b)) 0 b

  high : (u v : ℕ) → sub_ℕ u v *ℤ pos (2 * b) +ℤ pos b ≡ sub_ℕ (u * (2 * b) + b) (v * (2 * b) + 0)
  high u v = (λ j. diff_scale u v (2 * b) j +ℤ pos_is b j) ∙ diff_add (u * (2 * b)) (v * (2 * b)) b 0

  twice : sub_ℕ x (k * b) *ℤ pos 2 ≡ sub_ℕ (x * 2) (k * b * 2)
  twice = diff_scale x (k * b) 2

  double : (n : ℕ) → n * (2 * b) ≡ n * b * 2
  double n = ap (λ (m : ℕ). n * m) (mul_comm 2 b) ∙ sym (mul_assoc n b 2)

  described : Nearest (sub_ℕ x (k * b)) b (sub_ℕ (nearest x b) k)
  described =
      let q = nearest x b in
      let l : q * (2 * b) + 0 + k * b * 2 ≤ x * 2 + (k * (2 * b) + b) = omega (arith, nearest_upper x b, double q, double k) in
      let m : x * 2 + (k * (2 * b) + 0) < q * (2 * b) + b + k * b * 2 = omega (arith, nearest_lower x b p, double q, double k) in
      record {
        least = (λ j. le_z (low q k j) (twice j)) ∙ diff_le _ _ _ _ l;
        most = (λ j. lt_z (twice j) (high q k j)) ∙ diff_lt _ _ _ _ m;
      }

  described_only : (u v : ℕ) → Nearest (sub_ℕ x (k * b)) b (sub_ℕ u v) → sub_ℕ u v ≡ sub_ℕ (nearest x b) k
  described_only u v d =
      let q = nearest x b in
      let l : u * (2 * b) + 0 + k * b * 2 ≤ x * 2 + (v * (2 * b) + b) = le_diff _ _ _ _ (sym (λ j. le_z (low u v j) (twice j)) ∙ d.least) in
      let m : x * 2 + (v * (2 * b) + 0) < u * (2 * b) + b + k * b * 2 = lt_diff _ _ _ _ (sym (λ j. lt_z (twice j) (high u v j)) ∙ d.most) in
      let f : (u + k) * b < (q + v + 1) * b =
      omega (arith, nearest_lower x b p, double u, double v, double k, double q, add-mul u k b, add-mul (q + v) 1 b, add-mul q v b) in
      let g : (q + v) * b < (u + k + 1) * b =
      omega (arith, nearest_upper x b, double u, double v, double k, double q, add-mul (u + k) 1 b, add-mul u k b, add-mul q v b) in
      let s : u + k < q + v + 1 = lt_of_mul-lt-mul_right b f in
      let t : q + v < u + k + 1 = lt_of_mul-lt-mul_right b g in
      same u v q k (omega arith)

-- `nearestℤ` is as described
pub nearest_described : (a : ℤ) (b : ℕ) → 0 < b → Nearest a b (nearestℤ a b)
nearest_described a b p =
    let d = lifted a b p in
    let e : nearestℤ a b ≡ sub_ℕ (nearest d.0 b) d.1 = ap (λ (z : ℤ). nearestℤ z b) d.2 ∙ diff_nearest d.0 d.1 b p in
    let n = described d.0 d.1 b p in
    subst (λ (z : ℤ). Nearest a b z) (sym e) (subst (λ (z : ℤ). Nearest z b (sub_ℕ (nearest d.0 b) d.1)) (sym d.2) n)

-- and no other number is
pub nearest_only : (a : ℤ) (b : ℕ) (n : ℤ) → 0 < b → Nearest a b n → n ≡ nearestℤ a b
nearest_only a b n p h =
    let d = lifted a b p in
    let w = whole n in
    let e : nearestℤ a b ≡ sub_ℕ (nearest d.0 b) d.1 = ap (λ (z : ℤ). nearestℤ z b) d.2 ∙ diff_nearest d.0 d.1 b p in
    let g : Nearest (sub_ℕ d.0 (d.1 * b)) b (sub_ℕ w.0 w.1) =
    subst (λ (z : ℤ). Nearest z b (sub_ℕ w.0 w.1)) d.2 (subst (λ (z : ℤ). Nearest a b z) w.2 h) in
    w.2 ∙ described_only d.0 d.1 b p w.0 w.1 g ∙ sym e

-- the same for naturals: `nearest_upper` and `nearest_lower` say that it is as described
pub natural_only : (a b n : ℕ) → 0 < b → 2 * (n * b) ≤ 2 * a + b → 2 * a < 2 * (n * b) + b → n ≡ nearest a b
natural_only a b n p l m =
    let q = nearest a b in
    let f : n * b < (q + 1) * b = omega (arith, nearest_lower a b p, add-mul q 1 b) in
    let g : q * b < (n + 1) * b = omega (arith, nearest_upper a b, add-mul n 1 b) in
    let s : n < q + 1 = lt_of_mul-lt-mul_right b f in
    let t : q < n + 1 = lt_of_mul-lt-mul_right b g in
    omega arith
