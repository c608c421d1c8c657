-- A magnitude taken from 0 in 32 bits: the negated crisp value.
use mathlib.Core.Path.{◌≡◌, ap, ◌∙◌}
use Prim.Native.Nat.{ℕ, zero, suc, ◌≤◌}
use native.Mathlib.Omega.{arith}
use lib.IntN.{ℤ, pos, neg_ℤ, ◌-ℤ◌, +ℤ_idl}
use mir.Syntax.{w32}
use mir.Val.{SFits, to_z, of_z}
use mir.ValLaws.{to_z_pos, to_z-of_z}
use Rattle.model.specs.Bounds.{crisp_limit}

pub minus_fits : (n : ℕ) → n ≤ crisp_limit → SFits w32 (neg_ℤ (pos n))
minus_fits zero h = record { sfits = omega arith }
minus_fits (suc n) h = record { sfits = omega arith }

pub taken_from_zero : (n : ℕ) → n ≤ crisp_limit → pos 0 -ℤ to_z w32 n ≡ neg_ℤ (pos n)
taken_from_zero n h = ap (λ (z : ℤ). pos 0 -ℤ z) (to_z_pos w32 n (omega arith)) ∙ +ℤ_idl (neg_ℤ (pos n))

pub negated : (n : ℕ) → n ≤ crisp_limit → to_z w32 (of_z w32 (pos 0 -ℤ to_z w32 n)) ≡ neg_ℤ (pos n)
negated n h = ap (λ (z : ℤ). to_z w32 (of_z w32 z)) (taken_from_zero n h) ∙ to_z-of_z w32 (neg_ℤ (pos n)) (minus_fits n h)
