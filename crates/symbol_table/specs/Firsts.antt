-- A helper: where the terms of each variable of some tables start, counted over all variables, inputs first.
-- `described` of proofs/Laws ties the symbols to what they say of a block of the model, `Describes`.
use Rattle.std.specs.Prelude.{◌≡◌, List, [], ◌∷◌, ◌++◌, ℕ, zero, suc, ◌+◌, ◌-◌, ◌≤◌, ltb, get_or, if◌then◌else◌}
use Rattle.model.specs.Basic.{tab}
use Rattle.model.specs.Bounds.{input_limit, variable_limit}
use Rattle.block_tables.specs.declared.Tables.{Tables}
use Rattle.block_tables.specs.View.{input_row, output_row}

unfoldable pub sums : (ℕ → ℕ) → ℕ → ℕ
sums c zero = 0
sums c (suc v) = sums c v + c v

-- up to place n, the symbols have the sums of c
pub record Firsts (c : ℕ → ℕ) (n : ℕ) (symbols : List ℕ) : Type 0 where
  pub first : (v : ℕ) → v ≤ n → get_or symbols v 0 ≡ sums c v

-- the terms of variable v; none where it is not declared
abbrev pub terms_at : Tables → ℕ → ℕ
terms_at t v =
    if ltb v input_limit then (if ltb v t.input_count then (input_row t v).terms else 0)
    else (if ltb (v - input_limit) t.output_count then (output_row t (v - input_limit)).terms else 0)

-- the firsts of all variables, the number of all terms, those of inputs and of outputs
unfoldable pub symbols_in : Tables → List ℕ
symbols_in t = tab (sums (terms_at t)) (variable_limit + 1) 0 ++ (t.input_count ∷ t.output_count ∷ [])
