-- A helper: the declared names as the rules look them up. The symbols say where the terms of each variable start,
-- counted over all, and behind them how many inputs and outputs there are. `Describes` ties them to a model's block.
use Rattle.std.specs.Prelude.{◌≡◌, List, ℕ, ◌+◌, ◌-◌, ◌*◌, ◌≤◌, ◌<◌, length, get_or}
use Rattle.model.specs.Bounds.{input_limit, output_limit, term_limit, variable_limit, all_term_limit}
use Rattle.model.specs.Block.{Block, terms_of, singletons_of, input_first, output_first}
use Rattle.model.specs.Declarations.{input_of, output_of, term_of, singleton_of}
use Rattle.lookup.specs.Names.{Placed, among}

abbrev pub first : List ℕ → ℕ → ℕ
first symbols v = get_or symbols v 0

-- how many terms variable v has
abbrev pub term_count : List ℕ → ℕ → ℕ
term_count symbols v = first symbols (v + 1) - first symbols v

abbrev pub input_count : List ℕ → ℕ
input_count symbols = get_or symbols (variable_limit + 1) 0

abbrev pub output_count : List ℕ → ℕ
output_count symbols = get_or symbols (variable_limit + 2) 0

-- what holds of names and symbols, whatever they say
pub record Symbols (s names symbols : List ℕ) : Type 0 where
  pub placed : Placed s names
  pub inputs : input_count symbols ≤ input_limit
  pub outputs : output_count symbols ≤ output_limit
  pub rises : (v : ℕ) → v < variable_limit → (first symbols v ≤ first symbols (v + 1))
      × (first symbols (v + 1) ≤ first symbols v + term_limit)
  pub small : (v : ℕ) → v ≤ variable_limit → first symbols v ≤ all_term_limit

-- they say what block b declares
pub record Describes (s names symbols : List ℕ) (b : Block) : Type 0 where
  pub inputs : length b.inputs ≡ input_count symbols
  pub outputs : length b.outputs ≡ output_count symbols
  pub input : (w : List ℕ) → input_of w b ≡ among s names w (input_count symbols) 0
  pub output : (w : List ℕ) → output_of w b ≡ among s names w (output_count symbols) input_limit
  pub terms : (i : ℕ) → i < input_count symbols → length (terms_of i b) ≡ term_count symbols i
  pub singletons : (o : ℕ) → o < output_count symbols → length (singletons_of o b) ≡ term_count symbols (input_limit + o)
  pub term : (w : List ℕ) (i : ℕ) → i < input_count symbols
      → term_of i w b ≡ among s names w (term_count symbols i) (variable_limit + i * term_limit)
  pub singleton : (w : List ℕ) (o : ℕ) → o < output_count symbols
      → singleton_of o w b
      ≡ among s names w (term_count symbols (input_limit + o)) (variable_limit + (input_limit + o) * term_limit)
  pub input_first : (i : ℕ) → i < input_count symbols → input_first i b ≡ first symbols i
  pub output_first : (o : ℕ) → o < output_count symbols → output_first o b ≡ first symbols (input_limit + o)
