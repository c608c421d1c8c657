-- A helper: what is tested of a row of each table that starts at o, p being its first. `RowTests` ties them to the words
-- that a block's row is laid out as.
use Rattle.std.specs.Prelude.{Bool, ◌&&◌, [], ◌∷◌, ℕ, ◌+◌, leb, eqb, if◌then◌else◌}
use Rattle.model.specs.Basic.{every}
use Rattle.layout.specs.Tables.{name_exact}

-- flag, min, max of an output's row
unfoldable pub range_test : (ℕ → ℕ) → ℕ → Bool
range_test w o = if eqb (w (o + 6)) 0 then every (eqb (w (o + 7)) 0 ∷ eqb (w (o + 8)) 0 ∷ []) else eqb (w (o + 6)) 1

-- kind, value
unfoldable pub default_test : (ℕ → ℕ) → ℕ → Bool
default_test w o = if eqb (w (o + 9)) 0 then eqb (w (o + 10)) 0 else eqb (w (o + 9)) 1

unfoldable pub input_test : (ℕ → ℕ) → ℕ → ℕ → Bool
input_test w o p = every (name_exact w o ∷ leb (w (o + 4)) 1 ∷ eqb (w (o + 5)) p ∷ [])

unfoldable pub output_test : (ℕ → ℕ) → ℕ → ℕ → Bool
output_test w o p = every (
    name_exact w o
    ∷ eqb (w (o + 4)) p
    ∷ range_test w o
    ∷ default_test w o
    ∷ [])

unfoldable pub term_test : (ℕ → ℕ) → ℕ → ℕ → Bool
term_test w o p = every (name_exact w o ∷ eqb (w (o + 4)) p ∷ [])

unfoldable pub singleton_test : (ℕ → ℕ) → ℕ → ℕ → Bool
singleton_test w o p = term_test w o p && eqb (w (o + 5)) 1
