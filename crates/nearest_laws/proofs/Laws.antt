-- Laws of `nearest`.
use mathlib.Core.Path.{◌≡◌, sym, ap, ◌∙◌}
use Prim.Native.Nat.{ℕ, ◌+◌, ◌*◌, ◌-◌, ◌/◌, ◌≤◌, ◌<◌}
use native.Mathlib.Nat.{div-mul-le_self, lt-div-mul-add, le-div_iff_mul-le, div-lt_iff_lt-mul, div-eq_of_lt, add-mul-div_right, mul_assoc, mul_comm, add-mul}
use native.Mathlib.Omega.{arith}
use Rattle.model.specs.Degrees.{nearest}

-- a product with a doubled factor, for omega
twice : (r b : ℕ) → r * (2 * b) ≡ 2 * (r * b)
twice r b = sym (mul_assoc r 2 b) ∙ ap (λ (x : ℕ). x * b) (mul_comm r 2) ∙ mul_assoc 2 r b

-- within half of the exact quotient: a / b - 1/2 < r ≤ a / b + 1/2
pub nearest_upper : (a b : ℕ) → 2 * (nearest a b * b) ≤ 2 * a + b
nearest_upper a b = omega (arith, div-mul-le_self (2 * a + b) (2 * b), twice (nearest a b) b)

pub nearest_lower : (a b : ℕ) → 0 < b → 2 * a < 2 * (nearest a b * b) + b
nearest_lower a b h =
    let p : 0 < 2 * b = omega arith in
    omega (arith, lt-div-mul-add {a = 2 * a + b} p, twice (nearest a b) b)

pub nearest_ge : (k a b : ℕ) → 0 < b → k * b ≤ a → k ≤ nearest a b
nearest_ge k a b h le =
    let p : 0 < 2 * b = omega arith in
    (le-div_iff_mul-le p).1 (omega (arith, twice k b))

pub nearest_le : (k a b : ℕ) → 0 < b → a ≤ k * b → nearest a b ≤ k
nearest_le k a b h le =
    let p : 0 < 2 * b = omega arith in
    let q : nearest a b < k + 1 = (div-lt_iff_lt-mul p).1 (omega (arith, twice k b, twice (k + 1) b, add-mul k 1 b)) in
    omega arith

-- nearest commutes with adding a whole number
pub nearest_add : (k a b : ℕ) → 0 < b → nearest (a + k * b) b ≡ nearest a b + k
nearest_add k a b h =
    let p : 0 < 2 * b = omega arith in
    ap (λ (x : ℕ). x / (2 * b)) e ∙ add-mul-div_right (2 * a + b) k p
  where
    e : 2 * (a + k * b) + b ≡ 2 * a + b + k * (2 * b)
    e = omega (arith, twice k b)

-- so it can be worked out above k
pub nearest_from : (k a b : ℕ) → 0 < b → k * b ≤ a → k + nearest (a - k * b) b ≡ nearest a b
nearest_from k a b h le =
    let e : a - k * b + k * b ≡ a = omega arith in
    omega (arith, nearest_add k (a - k * b) b h, ap (λ (x : ℕ). nearest x b) e)

-- what is left of a decides the rounding
pub rounded_up : (a b q r : ℕ) → q * b + r ≡ a → r < b → b ≤ 2 * r → q + 1 ≡ nearest a b
rounded_up a b q r e h l =
    let p : 0 < 2 * b = omega arith in
    let m : nearest r b < 2 = (div-lt_iff_lt-mul p).1 (omega arith) in
    let n : 1 ≤ nearest r b = (le-div_iff_mul-le p).1 (omega arith) in
    let f : r + q * b ≡ a = omega arith in
    let g : nearest (r + q * b) b ≡ nearest r b + q = nearest_add q r b (omega arith) in
    omega (arith, ap (λ (x : ℕ). nearest x b) f, g)

pub rounded_down : (a b q r : ℕ) → q * b + r ≡ a → 2 * r < b → q ≡ nearest a b
rounded_down a b q r e l =
    let z : nearest r b ≡ 0 = div-eq_of_lt (omega arith) in
    let f : r + q * b ≡ a = omega arith in
    let g : nearest (r + q * b) b ≡ nearest r b + q = nearest_add q r b (omega arith) in
    omega (arith, ap (λ (x : ℕ). nearest x b) f, g)
