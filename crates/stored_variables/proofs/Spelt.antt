-- The tests of a stored input in the numbers that were read from it.
use mathlib.Core.Path.{◌≡◌}
use mathlib.Core.List.{List, [], ◌∷◌}
use mathlib.Core.Bool.{Bool, ◌&&◌}
use Prim.Native.Nat.{ℕ, ◌+◌}
use Rattle.model.specs.Basic.{between, every, all, distinct, same, tab}
use Rattle.model.specs.Bounds.{term_limit}
use Rattle.model.specs.Tokens.{is_name}
use Rattle.model.specs.WellFormed.{term_ok}
use Rattle.model.specs.Image.{input_place, name_at, term_at, INPUT_TABLE, INPUTS, OUTPUT_TABLE, OUTPUTS}
use Rattle.name_letters.specs.Letters.{letters_at, words_in, apart}
use Rattle.stored_terms.specs.Stored.{terms_apart}
use Rattle.stored_variables.specs.Stored.{input_stored, variables_apart}

module _ (w : ℕ → ℕ) where
  -- a row that starts at o, with k terms from s on
  abbrev pub input_tests : ℕ → ℕ → ℕ → List Bool
  input_tests o k s =
      is_name (name_at w o)
      ∷ between 1 term_limit k
      ∷ all term_ok (tab (term_at w) k s)
      ∷ terms_apart w s k
      ∷ []

  pub input_spelt : (i o k s : ℕ) → o ≡ input_place w i → k ≡ w (o + 6) → s ≡ w (o + 5)
      → every (input_tests o k s) ≡ input_stored w i
  unfolding input_stored
  input_spelt i o k s eo ek es = rw (ek, es, eo)

  pub apart_spelt : (a b n m : ℕ) → a ≡ w INPUT_TABLE → b ≡ w OUTPUT_TABLE → n ≡ w INPUTS → m ≡ w OUTPUTS
      → distinct same (tab (words_in (letters_at w) a 7) n 0)
      && (apart same (tab (words_in (letters_at w) a 7) n 0) (tab (words_in (letters_at w) b 11) m 0) && distinct same (tab (words_in (letters_at w) b 11) m 0))
      ≡ variables_apart w
  unfolding variables_apart
  apart_spelt a b n m ea eb en em = rw (ea, eb, en, em)
