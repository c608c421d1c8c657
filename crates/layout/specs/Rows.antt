-- A helper: tables of an image row by row, with the firsts as running totals. `layout/proofs/TableLaws` ties `laid` to
-- the tables of model's Image, `layout/proofs/RowLaws` `rows_ok` to what stands in the words.
use Rattle.std.specs.Prelude.{Bool, true, ◌&&◌, List, [], ◌∷◌, ◌++◌, ℕ, zero, suc, ◌+◌, ◌*◌}
use Rattle.model.specs.Basic.{same, tab}

-- a table of rows, where σ holds the totals before the next row
unfoldable pub laid : {R S : Type 0} → (S → R → List ℕ) → (S → R → S) → S → List R → List ℕ
laid enc next σ [] = []
laid enc next σ (r ∷ rs) = enc σ r ++ laid enc next (next σ r) rs

-- the totals after k rows from the i-th on
unfoldable pub after : {R S : Type 0} → (S → R → S) → (ℕ → R) → ℕ → ℕ → S → S
after next dec zero i σ = σ
after next dec (suc k) i σ = after next dec k (suc i) (next σ (dec i))

-- k rows of s words from the i-th on, in the table that starts at o
unfoldable pub rows_ok : {R S : Type 0} → (S → R → List ℕ) → (S → R → S) → (ℕ → R) → (ℕ → ℕ) → ℕ → ℕ → ℕ → ℕ → S → Bool
rows_ok enc next dec w o s zero i σ = true
rows_ok enc next dec w o s (suc k) i σ =
    same (tab w s (o + i * s)) (enc σ (dec i)) && rows_ok enc next dec w o s k (suc i) (next σ (dec i))
