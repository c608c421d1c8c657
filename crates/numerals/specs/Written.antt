-- A helper: the parts of a number's text, as the code reads them. `parts` of proofs/Digits ties `thousandths_of` to
-- model's `magnitude`, `unit_by` of proofs/Values `unit_limit` to its `is_unit`.
use Rattle.std.specs.Prelude.{List, ◌++◌, ℕ, eqb, take, if◌then◌else◌}
use Rattle.model.specs.Basic.{bytes}
use Rattle.model.specs.Tokens.{starts, decimal}

-- digits behind a point, at most 3 of them
abbrev pub thousandths_of : List ℕ → ℕ
thousandths_of s = decimal (take 3 (s ++ bytes "000"))

-- the most thousandths of a degree or a weight, by its sign
abbrev pub unit_limit : List ℕ → ℕ
unit_limit w = if starts (eqb 45) w then 0 else 1000
