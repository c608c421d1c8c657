-- A helper: a stored conclusion as tests on words. `conclusion_spelt` of proofs/Outputs ties it to model's
-- `conclusion_ok`.
use Rattle.std.specs.Prelude.{Bool, [], ◌∷◌, ℕ, ◌+◌, leb, ltb}
use Rattle.model.specs.Basic.{every}
use Rattle.model.specs.Image.{conclusion_place, OUTPUTS}
use Rattle.layout.specs.Tables.{output_count, output_first_at}

-- the output is there, and the term is its own
unfoldable pub conclusion_stored : (ℕ → ℕ) → ℕ → Bool
conclusion_stored w i =
    let o : ℕ = w (conclusion_place w i) in
    let t : ℕ = w (conclusion_place w i + 1) in
    every (
    ltb o (w OUTPUTS)
    ∷ leb (output_first_at w o) t
    ∷ ltb t (output_first_at w o + output_count w o)
    ∷ [])
