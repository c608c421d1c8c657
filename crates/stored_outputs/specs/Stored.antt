-- A helper: what is tested of stored outputs, as of a block's, but names compared by their words, without case.
-- `output_same` of stored_variables/proofs/Wellformed ties it to model's `output_ok`.
use Rattle.std.specs.Prelude.{Bool, [], ◌∷◌, ℕ, ◌+◌}
use Rattle.model.specs.Basic.{between, every, all, tab}
use Rattle.model.specs.Bounds.{term_limit}
use Rattle.model.specs.Tokens.{is_name}
use Rattle.model.specs.WellFormed.{range_ok, default_ok, singleton_ok}
use Rattle.model.specs.Image.{output_place, name_at, singleton_at, output_at}
use Rattle.stored_terms.specs.Stored.{terms_apart}

unfoldable pub output_stored : (ℕ → ℕ) → ℕ → Bool
output_stored w i =
    let o : ℕ = output_place w i in
    every (
    is_name (name_at w o)
    ∷ between 1 term_limit (w (o + 5))
    ∷ range_ok (output_at w i).range
    ∷ all (singleton_ok (output_at w i).range) (tab (singleton_at w) (w (o + 5)) (w (o + 4)))
    ∷ terms_apart w (w (o + 4)) (w (o + 5))
    ∷ default_ok (output_at w i).range (output_at w i).default
    ∷ [])
