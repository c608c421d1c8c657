-- A helper: a float by the fields of its bits (`readings/proofs/Bits` ties them to the library's floats), and the
-- magnitude of a signed fraction that is rounded (`readings/proofs/Rounding` to model's `nearestℤ`).
use Rattle.std.specs.Prelude.{ℕ, zero, suc, ◌+◌, ◌*◌, ◌-◌}
use Rattle.model.specs.Degrees.{nearest}

-- of the exponent field e and the 23 bits t
abbrev pub significand_of : ℕ → ℕ → ℕ
significand_of zero t = t
significand_of (suc e) t = 8388608 + t

-- the nearest to a / d, a half up (c = 0) or down (c = 1)
abbrev pub magnitude_of : ℕ → ℕ → ℕ → ℕ
magnitude_of c a d = nearest (2 * a - c) (2 * d)
