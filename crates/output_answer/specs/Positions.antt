-- A helper: the positions of output terms, as model's `output_at` lists them.
use Rattle.std.specs.Prelude.{List, ℕ, ℤ}
use Rattle.model.specs.Basic.{tab}
use Rattle.model.specs.Image.{singleton_at}
use Rattle.layout.specs.Tables.{output_count, output_first_at}

-- of the terms of output i
abbrev pub positions_of : (ℕ → ℕ) → ℕ → List ℤ
positions_of w i = tab (λ j. (singleton_at w j).at) (output_count w i) (output_first_at w i)
