-- A helper: what is tested of the tables behind the header. `up_to_rows` of proofs/Loops ties `up_to` to layout's
-- `rows_ok`, of which the other tests are made; the contract of `tables_ok` ties all to layout's `tables_ok`.
use Rattle.std.specs.Prelude.{Bool, List, [], ◌∷◌, ℕ, zero, suc, ◌+◌, eqb, if◌then◌else◌, Option, None, Some}
use Rattle.model.specs.Image.{point_words, term_at, output_at, OUTPUT_TABLE, OUTPUTS, POINT_TABLE, POINTS, TERM_TABLE}
use Rattle.layout.specs.Rows.{rows_ok}
use Rattle.layout.specs.Tables.{output_row, output_next, term_row, term_next, alone, onward, sums, term_count, output_term_at, output_point_at}

-- the number that k rows from the i-th on go up to, n being the first of the i-th: t tells whether a row is laid out
-- with such a first, and c how many numbers it takes
unfoldable pub up_to : (ℕ → ℕ → Bool) → (ℕ → ℕ) → ℕ → ℕ → ℕ → Option ℕ
up_to t c zero i n = Some n
up_to t c (suc k) i n = if t i n then up_to t c k (suc i) (n + c i) else None

-- rows of outputs, p being the first of the first one
abbrev pub output_rows_from : (ℕ → ℕ) → ℕ → Bool
output_rows_from w p = rows_ok output_row output_next (output_at w) w (w OUTPUT_TABLE) 11 (w OUTPUTS) 0 p

-- the first n terms, as inputs have them
abbrev pub term_rows_to : (ℕ → ℕ) → ℕ → Bool
term_rows_to w n = rows_ok term_row term_next (term_at w) w (w TERM_TABLE) 6 n 0 0

-- n terms from the i-th on, as outputs have them, p being the first of the first one
abbrev pub output_term_rows_from : (ℕ → ℕ) → ℕ → ℕ → ℕ → Bool
output_term_rows_from w n i p = rows_ok term_row term_next (output_term_at w) w (w TERM_TABLE) 6 n i p

-- n points from the i-th on, as outputs have them
abbrev pub output_points_from : (ℕ → ℕ) → ℕ → ℕ → Bool
output_points_from w n i = rows_ok (alone point_words) onward (output_point_at w) w (w POINT_TABLE) 2 n i tt

-- the terms and points of k input terms and n output terms
abbrev pub term_tests : (ℕ → ℕ) → ℕ → ℕ → List Bool
term_tests w k n =
    term_rows_to w k
    ∷ eqb (w POINTS) (sums (term_count w) k 0 + n)
    ∷ output_term_rows_from w n k (sums (term_count w) k 0)
    ∷ output_points_from w n (sums (term_count w) k 0)
    ∷ []
