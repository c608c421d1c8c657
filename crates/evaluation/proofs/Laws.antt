-- What a call comes to by the load check before it.
use mathlib.Core.Path.{◌≡◌}
use mathlib.Core.List.{List}
use mathlib.Core.Bool.{Bool, true, false}
use mathlib.Core.Option.{none}
use Prim.Native.Nat.{ℕ}
use Rattle.model.specs.Image.{word_at, decode, is_image_of, loads}
use Rattle.model.specs.Outcome.{accepted, refused}
use Rattle.model.specs.Evaluation.{evaluate_block, fresh_of, evaluate, fresh}
use Rattle.model.specs.declared.Held.{Held}
use Rattle.model.specs.declared.Reading.{Reading}

module _ (img : List ℕ) where
  abbrev accepted_image : Bool
  accepted_image = is_image_of img (decode (word_at img))

  pub evaluate_yes : (rs : List Reading) (n : ℕ) (h : Held) → accepted_image ≡ true → evaluate img rs n h ≡ evaluate_block (decode (word_at img)) rs n h
  unfolding evaluate loads
  evaluate_yes rs n h e = simp e

  pub evaluate_no : (rs : List Reading) (n : ℕ) (h : Held) → accepted_image ≡ false → evaluate img rs n h ≡ refused 11 none
  unfolding evaluate loads
  evaluate_no rs n h e = simp e

  pub fresh_yes : accepted_image ≡ true → fresh img ≡ accepted (fresh_of (decode (word_at img)))
  unfolding fresh loads
  fresh_yes e = simp e

  pub fresh_no : accepted_image ≡ false → fresh img ≡ refused 11 none
  unfolding fresh loads
  fresh_no e = simp e
