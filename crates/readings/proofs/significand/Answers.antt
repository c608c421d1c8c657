use mathlib.Core.Path.{◌≡◌, refl}
use Prim.Native.Nat.{ℕ, zero, suc, ◌+◌}
use native.Mathlib.Omega.{arith}
use Rattle.readings.specs.Fields.{significand_of}
use Rattle.readings.proofs.significand.Goals as goal

with_bit : (e t : ℕ) → (e ≡ 0 → ⊥) → 8388608 + t ≡ significand_of e t
with_bit zero t h = absurd (h refl)
with_bit (suc e) t h = refl

pub returns-else-e-eq0 : goal.returns-else-e-eq0
returns-else-e-eq0 c =
    let a = c.args in
    (with_bit a.e a.t c.if-e-eq0.false, omega arith, λ h. omega arith)
