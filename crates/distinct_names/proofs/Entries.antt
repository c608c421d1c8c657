-- The entries of a table.
use Prim.Native.Nat.{ℕ, ◌+◌, ◌*◌, ◌≤◌, ◌<◌}
use native.Mathlib.Omega.{arith}
use native.Mathlib.Nat.{mul-le-mul_right, suc-mul}

-- entry i of n ends within them
pub entry : (i n s : ℕ) → i < n → i * s + s ≤ n * s
entry i n s h = omega (arith, suc-mul i s, mul-le-mul_right s h)
