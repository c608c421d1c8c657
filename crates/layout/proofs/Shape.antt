-- When the words of an image are those of the block that they stand for: all tests of the layout together.
use mathlib.Core.Bool.{Bool}
use mathlib.Core.List.{[], ◌∷◌}
use Prim.Native.Nat.{ℕ, ◌+◌}
use lib.Dec.{eqb}
use Rattle.model.specs.Basic.{every}
use Rattle.model.specs.Image.{TERMS, POINTS, WORDS, CONCLUSIONS}
use Rattle.layout.specs.Tables.{input_terms_in, output_terms_in, input_points_in, words_in, conclusions_in, header_ok, input_rows, output_rows, input_term_rows, output_term_rows, output_point_rows, rule_rows, condition_rows}

-- the counts of terms, points, condition words and conclusions are the sums of the rows' counts
unfoldable pub counts_ok : (ℕ → ℕ) → Bool
counts_ok w = every (
    eqb (w TERMS) (input_terms_in w + output_terms_in w)
    ∷ eqb (w POINTS) (input_points_in w + output_terms_in w)
    ∷ eqb (w WORDS) (words_in w)
    ∷ eqb (w CONCLUSIONS) (conclusions_in w)
    ∷ [])

-- the words are those of the block that they stand for
unfoldable pub shape_ok : (ℕ → ℕ) → Bool
shape_ok w = every (
    header_ok w ∷ input_rows w ∷ output_rows w ∷ input_term_rows w ∷ output_term_rows w ∷ output_point_rows w
    ∷ rule_rows w ∷ condition_rows w ∷ counts_ok w ∷ [])
