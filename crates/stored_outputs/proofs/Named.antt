-- What an image that is laid out says of the terms of its outputs.
use Prim.Native.Nat.{ℕ, ◌+◌, ◌≤◌, ◌<◌}
use native.Mathlib.Omega.{arith}
use Rattle.model.specs.Image.{word_at}
use Rattle.layout.specs.declared.Laid.{Laid}
use Rattle.layout.specs.Tables.{output_first_at, output_count}
use Rattle.layout.proofs.Parts.{term_first}
use Rattle.layout.proofs.Within.{output_terms_within, point_within}

-- the terms of output i stand behind those of the inputs, in the table of terms
module _ (image : Laid) (i : ℕ) (l : i < image.stored.header.outputs.rows) where
  pub output_terms_from : image.input_terms ≤ output_first_at (word_at image.stored.bytes.now) i
  output_terms_from =
      omega (arith, image.counted, (output_terms_within (word_at image.stored.bytes.now) image.laid i (omega (arith, image.stored.heads.outputs.rows))).0)

  pub output_terms_to : output_first_at (word_at image.stored.bytes.now) i + output_count (word_at image.stored.bytes.now) i ≤ image.stored.header.terms.rows
  output_terms_to =
      omega (arith, image.stored.heads.terms.rows, (output_terms_within (word_at image.stored.bytes.now) image.laid i (omega (arith, image.stored.heads.outputs.rows))).1)

-- the point of an output's term
pub point_named : (image : Laid) (t : ℕ) → image.input_terms ≤ t → t < image.stored.header.terms.rows
    → term_first (word_at image.stored.bytes.now) t < image.stored.header.points.rows
point_named image t g l =
    omega (arith, image.stored.heads.points.rows, point_within (word_at image.stored.bytes.now) image.laid t (omega (arith, image.counted)) (omega (arith, image.stored.heads.terms.rows)))
