-- A helper: stored terms as they are tested, by the counts of their rows; names compared by their words, without case.
-- `term_spelt` of proofs/Spelt ties a term's tests to model's `term_ok`, `distinct_names` of name_letters/proofs/Tables
-- the words to model's `same_name`.
use Rattle.std.specs.Prelude.{Bool, [], ◌∷◌, ℕ, ◌+◌}
use Rattle.model.specs.Basic.{between, every, distinct, same, tab}
use Rattle.model.specs.Bounds.{point_least, point_limit}
use Rattle.model.specs.Tokens.{is_name}
use Rattle.model.specs.Image.{term_width, term_place, name_at, point_at}
use Rattle.name_letters.specs.Letters.{letters_at, words_in}
use Rattle.term_points.specs.Points.{points_after}

unfoldable pub term_stored : (ℕ → ℕ) → ℕ → Bool
term_stored w t =
    let o : ℕ = term_place w t in
    every (
    is_name (name_at w o)
    ∷ between point_least point_limit (w (o + 5))
    ∷ points_after [] (tab (point_at w) (w (o + 5)) (w (o + 4)))
    ∷ [])

-- the names of k terms from s on are distinct
unfoldable pub terms_apart : (ℕ → ℕ) → ℕ → ℕ → Bool
terms_apart w s k = distinct same (tab (words_in (letters_at w) (term_place w s) term_width) k 0)
