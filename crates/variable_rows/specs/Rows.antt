-- A helper: the words of the tables of variables from the tables that a text is read into, row by row, and the places of
-- their terms. `inputs_laid` and `outputs_laid` of proofs/Views tie them to the model's tables.
use Rattle.std.specs.Prelude.{◌≡◌, Bool, List, [], ◌∷◌, ◌++◌, ℕ, zero, suc, ◌+◌, ◌*◌, ◌≤◌, ◌<◌, ℤ, length, get_or, if◌then◌else◌}
use Rattle.std.proofs.Math.Seq.{slice}
use Rattle.model.specs.Basic.{tab}
use Rattle.model.specs.Bounds.{input_limit, output_limit, term_limit, input_term_limit}
use Rattle.model.specs.Image.{crisp_word, name_words}
use Rattle.block_tables.specs.declared.Input.{Input}
use Rattle.block_tables.specs.declared.Output.{Output}
use Rattle.block_tables.specs.View.{no_input, no_output}

-- n rows from the i-th on, where σ holds the totals before the next one
unfoldable pub rows : {S : Type 0} → (S → ℕ → List ℕ) → (S → ℕ → S) → ℕ → ℕ → S → List ℕ
rows row next zero i σ = []
rows row next (suc n) i σ = row σ i ++ rows row next n (suc i) (next σ i)

-- totals of nothing
abbrev pub onward : Unit {0} → ℕ → Unit {0}
onward σ i = σ

abbrev pub bit : Bool → ℕ
bit b = if b then 1 else 0

abbrev pub given : Bool → ℤ → ℕ
given b x = if b then crisp_word x else 0

-- a name from a to e
abbrev pub InText : List ℕ → ℕ → ℕ → Type 0
InText s a e = (a ≤ e) × (e ≤ length s)

abbrev pub InputsNamed : List ℕ → List Input → Type 0
InputsNamed s l = (i : ℕ) → i < input_limit → InText s (get_or l i no_input).start (get_or l i no_input).end

abbrev pub OutputsNamed : List ℕ → List Output → Type 0
OutputsNamed s l = (o : ℕ) → o < output_limit → InText s (get_or l o no_output).start (get_or l o no_output).end

-- VARIABLES, n being the first term of the next one
abbrev pub input_size : List Input → ℕ → ℕ
input_size inputs i = (get_or inputs i no_input).terms

abbrev pub output_size : List Output → ℕ → ℕ
output_size outputs o = (get_or outputs o no_output).terms

unfoldable pub input_words : List ℕ → Input → ℕ → List ℕ
input_words s v n = name_words (slice v.start v.end s) ++ (bit v.int ∷ n ∷ v.terms ∷ [])

unfoldable pub output_words : List ℕ → Output → ℕ → List ℕ
output_words s v n =
    name_words (slice v.start v.end s)
    ++ (n ∷ v.terms ∷ bit v.ranged ∷ given v.ranged v.least.0 ∷ given v.ranged
    v.most.0 ∷ bit v.numbered ∷ given v.numbered
    v.default.0 ∷ [])

unfoldable pub input_rows : List ℕ → List Input → ℕ → List ℕ
input_rows s inputs k = rows (λ n i. input_words s (get_or inputs i no_input) n) (λ n i. n + input_size inputs i) k 0 0

unfoldable pub output_rows : List ℕ → List Output → ℕ → ℕ → List ℕ
output_rows s outputs k n = rows (λ m o. output_words s (get_or outputs o no_output) m)
    (λ m o. m + output_size outputs o) k 0 n

-- PLACES of the terms of k variables among those of their kind, c giving how many terms each variable has
abbrev pub slot_row : (ℕ → ℕ) → Unit {0} → ℕ → List ℕ
slot_row c σ i = tab (λ j. i * term_limit + j) (c i) 0

unfoldable pub slots_of : (ℕ → ℕ) → ℕ → List ℕ
slots_of c k = rows (slot_row c) onward k 0 tt

-- room for places, all of those in it below m
pub record Listed (m : ℕ) (l : List ℕ) : Type 0 where
  pub size : length l ≡ input_term_limit
  pub below : (k : ℕ) → get_or l k 0 < m

-- places of at most m terms, all of them below m
pub record Places (m : ℕ) (l : List ℕ) : Type 0 where
  pub few : length l ≤ m
  pub below : (k : ℕ) → get_or l k 0 < m
