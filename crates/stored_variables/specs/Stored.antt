-- A helper: what is tested of stored variables, as of a block's, but names compared by their words, without case.
-- `variables_same` of proofs/Wellformed ties the tests to those of model's `input_ok` and `output_ok`, by `variables_ok`.
use Rattle.std.specs.Prelude.{Bool, ◌&&◌, [], ◌∷◌, ℕ, ◌+◌}
use Rattle.model.specs.Basic.{between, every, all, distinct, same, tab}
use Rattle.model.specs.Bounds.{input_limit, output_limit, term_limit}
use Rattle.model.specs.Tokens.{is_name}
use Rattle.model.specs.WellFormed.{term_ok}
use Rattle.model.specs.Image.{input_width, output_width, INPUTS, OUTPUTS, INPUT_TABLE, OUTPUT_TABLE, BLOCK_NAME, RULE_BLOCK_NAME, input_place, name_at, term_at}
use Rattle.name_letters.specs.Letters.{letters_at, words_in, apart}
use Rattle.stored_terms.specs.Stored.{terms_apart}
use Rattle.stored_outputs.specs.Stored.{output_stored}

unfoldable pub input_stored : (ℕ → ℕ) → ℕ → Bool
input_stored w i =
    let o : ℕ = input_place w i in
    every (
    is_name (name_at w o)
    ∷ between 1 term_limit (w (o + 6))
    ∷ all term_ok (tab (term_at w) (w (o + 6)) (w (o + 5)))
    ∷ terms_apart w (w (o + 5)) (w (o + 6))
    ∷ [])

-- the names of the inputs and outputs are distinct
unfoldable pub variables_apart : (ℕ → ℕ) → Bool
variables_apart w =
    let inputs = tab (words_in (letters_at w) (w INPUT_TABLE) input_width) (w INPUTS) 0 in
    let outputs = tab (words_in (letters_at w) (w OUTPUT_TABLE) output_width) (w OUTPUTS) 0 in
    distinct same inputs && (apart same inputs outputs && distinct same outputs)

-- all that is tested of the variables
unfoldable pub variables_stored : (ℕ → ℕ) → Bool
variables_stored w = every (
    is_name (name_at w BLOCK_NAME)
    ∷ is_name (name_at w RULE_BLOCK_NAME)
    ∷ between 1 input_limit (w INPUTS)
    ∷ between 1 output_limit (w OUTPUTS)
    ∷ all (input_stored w) (tab (λ i. i) (w INPUTS) 0)
    ∷ all (output_stored w) (tab (λ i. i) (w OUTPUTS) 0)
    ∷ variables_apart w
    ∷ [])
