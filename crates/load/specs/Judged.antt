-- A helper: when the load check accepts, and what it hands on: an image of these bytes, whose type says that they are
-- sound. `groups` of layout/proofs/Groups ties its tests to model's `is_image_of`.
use Rattle.std.specs.Prelude.{◌≡◌, true, false, List, ℕ, Result, Ok, Err}
use Rattle.model.specs.Image.{word_at, decode, is_image_of}
use Rattle.model.specs.declared.Refusal.{Refusal}
use Rattle.model.specs.declared.Refusal.TheVariants.{ImageNotAccepted}
use Rattle.layout.specs.declared.CheckedImage.{CheckedImage}

unfoldable pub Judged : List ℕ → Result CheckedImage Refusal → Type 0
Judged bytes (Err why) = (is_image_of bytes (decode (word_at bytes)) ≡ false) × (why ≡ ImageNotAccepted)
Judged bytes (Ok image) = (is_image_of bytes (decode (word_at bytes)) ≡ true) × (image.stored.bytes.now ≡ bytes)
