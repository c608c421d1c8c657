-- A conclusion in the words that it is judged by, where the frame of the image is right.
use mathlib.Core.Path.{◌≡◌, refl, sym}
use mathlib.Core.List.{List, [], ◌∷◌}
use mathlib.Core.Bool.{Bool, true, false}
use Prim.Native.Nat.{ℕ, ◌+◌, ◌<◌}
use borrow.Author.Tests.{ltb-true}
use lib.Dec.{leb, ltb}
use Rattle.model.specs.Basic.{every}
use Rattle.model.specs.WellFormed.{conclusion_ok}
use Rattle.model.specs.Image.{conclusion_place, conclusion_at, decode, OUTPUTS}
use Rattle.layout.specs.Tables.{output_count, output_first_at}
use Rattle.layout.specs.Groups.{tables_ok}
use Rattle.stored_conclusions.specs.Stored.{conclusion_stored}
use Rattle.layout.proofs.Whole.{outputs_count}
use Rattle.layout.proofs.Sound.{output_first_lem, output_terms_lem}

module _ (w : ℕ → ℕ) (frame : tables_ok w ≡ true) where
  -- output j is there, and term t is its own
  abbrev own : ℕ → ℕ → ℕ → ℕ → ℕ → List Bool
  own outputs j first n t = ltb j outputs ∷ leb first t ∷ ltb t (first + n) ∷ []

  own_is : (j t : ℕ) → conclusion_ok (decode w) (record { output = j; term = t }) ≡ every (own (w OUTPUTS) j (output_first_at w j) (output_count w j) t)
  unfolding conclusion_ok every
  own_is j t = go (ltb j (w OUTPUTS)) refl
    where
      go : (b : Bool) → ltb j (w OUTPUTS) ≡ b
          → conclusion_ok (decode w) (record { output = j; term = t }) ≡ every (own (w OUTPUTS) j (output_first_at w j) (output_count w j) t)
      go true e = let l : j < w OUTPUTS = ltb-true j (w OUTPUTS) e in rw (outputs_count w, output_first_lem w frame j l, output_terms_lem w j l) refl
      go false e = rw (outputs_count w, e) refl

  pub conclusion_spelt : (i : ℕ) → conclusion_stored w i ≡ conclusion_ok (decode w) (conclusion_at w i)
  unfolding conclusion_stored conclusion_at
  conclusion_spelt i = sym (own_is (w (conclusion_place w i)) (w (conclusion_place w i + 1)))
