-- A whole number with a sign as a difference of two naturals, `sub_ℕ a b`: the sum, a product by a natural, the division that
-- rounds down, and `nearestℤ`, each as the same on naturals.
use mathlib.Core.Path.{◌≡◌, sym, ap, ◌∙◌, subst}
use Prim.Native.Nat.{ℕ, zero, suc, ◌+◌, ◌*◌, ◌-◌, ◌/◌, ◌%◌, ◌≤◌, ◌<◌}
use native.Mathlib.Nat.{add-mul, suc-mul, mul_assoc, mul_comm, add-mul-div_right, div-add-mod', mod-lt, div-lt_iff_lt-mul}
use native.Mathlib.Decide.{dec_le}
use native.Mathlib.Omega.{arith}
use lib.Arith.{digits_div}
use lib.IntN.{ℤ, pos, negsuc, neg_ℤ, sub_ℕ, ◌+ℤ◌, ◌*ℤ◌}
use lib.Signed.{shr_z}
use borrow.Author.Tests.{le-ltb, lt-ltb}
use Rattle.model.specs.Degrees.{nearest, nearestℤ}

pub sub_pos : (a b : ℕ) → b ≤ a → sub_ℕ a b ≡ pos (a - b)
sub_pos a b h = simp (le-ltb a b h)

pub sub_neg : (a b : ℕ) → a < b → sub_ℕ a b ≡ negsuc (b - suc a)
sub_neg a b h = simp (lt-ltb a b h)

-- to show P of a difference: where it is not negative, and where it is
pub by_sign : (P : ℤ → Type 0) (a b : ℕ) → (b ≤ a → P (pos (a - b))) → (a < b → P (negsuc (b - suc a))) → P (sub_ℕ a b)
by_sign P a b f g = go (dec_le b a)
  where
    go : Dec (b ≤ a) → P (sub_ℕ a b)
    go (yes p) = subst P (sym (sub_pos a b p)) (f p)
    go (no p) = let q : a < b = omega arith in subst P (sym (sub_neg a b q)) (g q)

-- equal where the cross sums are
pub same : (a b c d : ℕ) → a + d ≡ c + b → sub_ℕ a b ≡ sub_ℕ c d
same a b c d e = by_sign (λ (z : ℤ). z ≡ sub_ℕ c d) a b
    (λ h. let k : d ≤ c = omega arith in ap pos (omega arith) ∙ sym (sub_pos c d k))
    (λ h. let k : c < d = omega arith in ap negsuc (omega arith) ∙ sym (sub_neg c d k))

pub pos_is : (n : ℕ) → pos n ≡ sub_ℕ n 0
pos_is n = ap pos (omega arith) ∙ sym (sub_pos n 0 (omega arith))

pub negsuc_is : (n : ℕ) → negsuc n ≡ sub_ℕ 0 (suc n)
negsuc_is n = ap negsuc (omega arith) ∙ sym (sub_neg 0 (suc n) (omega arith))

pub neg_is : (n : ℕ) → neg_ℤ (pos n) ≡ sub_ℕ 0 n
neg_is zero = pos_is 0
neg_is (suc n) = negsuc_is n

pub diff_neg : (a b : ℕ) → neg_ℤ (sub_ℕ a b) ≡ sub_ℕ b a
diff_neg a b = by_sign (λ (z : ℤ). neg_ℤ z ≡ sub_ℕ b a) a b
    (λ h. neg_is (a - b) ∙ same 0 (a - b) b a (omega arith))
    (λ h. pos_is (suc (b - suc a)) ∙ same (suc (b - suc a)) 0 b a (omega arith))

pub diff_add : (a b c d : ℕ) → sub_ℕ a b +ℤ sub_ℕ c d ≡ sub_ℕ (a + c) (b + d)
diff_add a b c d = by_sign (λ (z : ℤ). z +ℤ sub_ℕ c d ≡ sub_ℕ (a + c) (b + d)) a b
    (λ h. by_sign (λ (z : ℤ). pos (a - b) +ℤ z ≡ sub_ℕ (a + c) (b + d)) c d
    (λ k. pos_is (a - b + (c - d)) ∙ same (a - b + (c - d)) 0 (a + c) (b + d) (omega arith))
    (λ k. same (a - b) (suc (d - suc c)) (a + c) (b + d) (omega arith)))
    (λ h. by_sign (λ (z : ℤ). negsuc (b - suc a) +ℤ z ≡ sub_ℕ (a + c) (b + d)) c d
    (λ k. same (c - d) (suc (b - suc a)) (a + c) (b + d) (omega arith))
    (λ k. negsuc_is (suc (b - suc a + (d - suc c))) ∙ same 0 (suc (suc (b - suc a + (d - suc c)))) (a + c) (b + d) (omega arith)))

pub diff_scale : (a b h : ℕ) → sub_ℕ a b *ℤ pos h ≡ sub_ℕ (a * h) (b * h)
diff_scale a b h = by_sign (λ (z : ℤ). z *ℤ pos h ≡ sub_ℕ (a * h) (b * h)) a b
    (λ k.
    let e : a - b + b ≡ a = omega arith in
    pos_is ((a - b) * h) ∙ same ((a - b) * h) 0 (a * h) (b * h) (omega (arith, add-mul (a - b) b h, ap (λ (x : ℕ). x * h) e)))
    (λ k.
    let e : suc (b - suc a) + a ≡ b = omega arith in
    neg_is (suc (b - suc a) * h) ∙ same 0 (suc (b - suc a) * h) (a * h) (b * h) (omega (arith, add-mul (suc (b - suc a)) a h, ap (λ (x : ℕ). x * h) e)))

-- the division that rounds down takes a whole number out
pub diff_floor : (a k m : ℕ) → 0 < m → shr_z (sub_ℕ a (k * m)) m ≡ sub_ℕ (a / m) k
diff_floor a k m p = by_sign (λ (z : ℤ). shr_z z m ≡ sub_ℕ (a / m) k) a (k * m)
    (λ h.
    let e : a - k * m + k * m ≡ a = omega arith in
    let q : (a - k * m) / m + k ≡ a / m = sym (add-mul-div_right (a - k * m) k p) ∙ ap (λ (x : ℕ). x / m) e in
    pos_is ((a - k * m) / m) ∙ same ((a - k * m) / m) 0 (a / m) k (omega arith))
    (λ h.
    let q : a / m < k = (div-lt_iff_lt-mul p).1 h in
    let e : k - suc (a / m) + suc (a / m) ≡ k = omega arith in
    let r : a % m < m = mod-lt a p in
    let s : k * m - suc a ≡ (k - suc (a / m)) * m + (m - suc (a % m)) =
    omega (arith, add-mul (k - suc (a / m)) (suc (a / m)) m, ap (λ (x : ℕ). x * m) e, suc-mul (a / m) m, div-add-mod' a m) in
    let t : m - suc (a % m) < m = omega arith in
    ap negsuc (ap (λ (x : ℕ). x / m) s ∙ digits_div (k - suc (a / m)) t) ∙ sym (sub_neg (a / m) k q))

-- and so does `nearestℤ`: to round a moment about any point, lift it into the naturals by k times the divisor
pub diff_nearest : (a k s : ℕ) → 0 < s → nearestℤ (sub_ℕ a (k * s)) s ≡ sub_ℕ (nearest a s) k
diff_nearest a k s p =
    let p2 : 0 < 2 * s = omega arith in
    ap (λ (z : ℤ). shr_z (z +ℤ pos s) (2 * s)) (diff_scale a (k * s) 2)
    ∙ ap (λ (z : ℤ). shr_z (sub_ℕ (a * 2) (k * s * 2) +ℤ z) (2 * s)) (pos_is s)
    ∙ ap (λ (z : ℤ). shr_z z (2 * s))
    (diff_add (a * 2) (k * s * 2) s 0
    ∙ same (a * 2 + s) (k * s * 2 + 0) (2 * a + s) (k * (2 * s)) (omega (arith, mul_assoc k s 2, ap (λ (x : ℕ). k * x) (mul_comm s 2))))
    ∙ diff_floor (2 * a + s) k (2 * s) p2
