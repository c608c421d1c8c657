-- What an image that is laid out says of a term of its inputs.
use Prim.Native.Nat.{ℕ, ◌+◌, ◌≤◌, ◌<◌}
use native.Mathlib.Omega.{arith}
use Rattle.model.specs.Image.{word_at}
use Rattle.layout.specs.declared.Laid.{Laid}
use Rattle.layout.specs.Tables.{term_count}
use Rattle.layout.proofs.Parts.{term_first}
use Rattle.layout.proofs.Within.{points_within, inputs_first}

-- it is in the table of terms
pub input_term_within : (image : Laid) → image.input_terms ≤ image.stored.header.terms.rows
input_term_within image = omega (arith, image.counted, image.stored.heads.terms.rows, inputs_first (word_at image.stored.bytes.now) image.laid)

-- and its points in the table of points
pub points_named : (image : Laid) (t : ℕ) → t < image.input_terms
    → term_first (word_at image.stored.bytes.now) t + term_count (word_at image.stored.bytes.now) t ≤ image.stored.header.points.rows
points_named image t l =
    omega (arith, image.stored.heads.points.rows, points_within (word_at image.stored.bytes.now) image.laid t (omega (arith, image.counted)))
