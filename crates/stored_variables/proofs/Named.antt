-- What an image that is laid out says of the terms of its inputs.
use Prim.Native.Nat.{ℕ, ◌+◌, ◌≤◌, ◌<◌}
use native.Mathlib.Omega.{arith}
use Rattle.model.specs.Image.{word_at}
use Rattle.layout.specs.declared.Laid.{Laid}
use Rattle.layout.specs.Tables.{input_count}
use Rattle.layout.proofs.Parts.{input_first}
use Rattle.layout.proofs.Within.{input_terms_within}

-- the terms of input i are among those of the inputs, which are in the table of terms
module _ (image : Laid) (i : ℕ) (l : i < image.stored.header.inputs.rows) where
  pub input_terms_named : input_first (word_at image.stored.bytes.now) i + input_count (word_at image.stored.bytes.now) i ≤ image.input_terms
  input_terms_named =
      omega (arith, image.counted, (input_terms_within (word_at image.stored.bytes.now) image.laid i (omega (arith, image.stored.heads.inputs.rows))).0)

  pub inputs_named : input_first (word_at image.stored.bytes.now) i + input_count (word_at image.stored.bytes.now) i ≤ image.stored.header.terms.rows
  inputs_named =
      omega (arith, image.stored.heads.terms.rows, input_terms_within (word_at image.stored.bytes.now) image.laid i (omega (arith, image.stored.heads.inputs.rows)))
