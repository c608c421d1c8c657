-- A quotient by a power of two.
use mathlib.Core.Path.{◌≡◌, sym, ◌∙◌}
use Prim.Native.Nat.{ℕ, ◌+◌, ◌*◌, ◌/◌, ◌^◌, ◌<◌}
use native.Mathlib.Nat.{mul-div-mul_right}
use native.Mathlib.Omega.{arith}
use lib.Pow.{pow-add}
use Rattle.model.specs.Degrees.{nearest}

pub nearest_power : (a j : ℕ) → (a + 2 ^ j) / 2 ^ (j + 1) ≡ nearest a (2 * 2 ^ j)
nearest_power a j =
    let p : 0 < 2 = omega arith in
    let e : (a + 2 ^ j) * 2 ≡ 2 * a + 2 * 2 ^ j = omega arith in
    let f : 2 ^ (j + 1) ≡ 2 ^ j * 2 = pow-add 2 j 1 in
    let g : 2 ^ (j + 1) * 2 ≡ 2 * (2 * 2 ^ j) = omega (arith, f) in
    sym (mul-div-mul_right (a + 2 ^ j) (2 ^ (j + 1)) p) ∙ (λ i. e i / g i)
