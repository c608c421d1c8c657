-- The tables of variables that the arrays are laid out as are those of the block that they stand for.
use Rattle.std.specs.Prelude.{if◌then◌else◌}
use mathlib.Core.Path.{◌≡◌, refl, ap, ◌∙◌}
use mathlib.Core.List.{List, [], ◌∷◌, ◌++◌}
use mathlib.Core.Bool.{Bool, true, false}
use mathlib.Core.Option.{some}
use Prim.Native.Nat.{ℕ, zero, suc, ◌+◌}
use native.Mathlib.Omega.{arith}
use lib.ListN.{get_or}
use mir.Val.{bool_byte}
use lib.Seq.{slice}
use Rattle.model.specs.Basic.{tab}
use Rattle.model.specs.Bounds.{input_limit}
use Rattle.model.specs.declared.InputType.TheVariants.{Real as real, Int as int}
use Rattle.model.specs.Image.{type_word, range_words, default_words, name_words, input_table}
use Rattle.laws.proofs.Places.{length_tab}
use Rattle.layout.specs.Rows.{laid}
use Rattle.layout.specs.Tables.{input_row, input_next, output_row, output_next}
use Rattle.layout.proofs.TableLaws.{input_table_lem}
use Rattle.block_tables.specs.declared.Output.{Output}
use Rattle.block_tables.specs.declared.Tables.{Tables}
use Rattle.block_tables.specs.View.{no_input, no_output, range_view, default_view, term_view, input_view, singleton_view, output_view, Holds}
use Rattle.block_tables.proofs.Index.{in_text}
use Rattle.variable_rows.specs.Rows.{rows, bit, given, InputsNamed, OutputsNamed, input_size, output_size, input_words, output_words, input_rows, output_rows}

-- the names of the tables are in the text
module _ (s : List ℕ) (t : Tables) (g : Holds s t) where
  pub inputs_named : InputsNamed s t.inputs
  inputs_named i h = in_text {k = i} g.placed (omega arith) (g.indexed.input i h)

  pub outputs_named : OutputsNamed s t.outputs
  outputs_named o h = in_text {k = input_limit + o} g.placed (omega arith) (g.indexed.output o h)

-- ROWS against rows of entries
module _ {R S : Type 0} (enc : S → R → List ℕ) (step : S → R → S) (f : ℕ → R) (row : S → ℕ → List ℕ) (next : S → ℕ → S)
    (same_row : (σ : S) (i : ℕ) → enc σ (f i) ≡ row σ i) (same_next : (σ : S) (i : ℕ) → step σ (f i) ≡ next σ i) where
  pub rows_laid : (n i : ℕ) (σ : S) → laid enc step σ (tab f n i) ≡ rows row next n i σ
  unfolding laid rows tab
  rows_laid zero i σ = refl
  rows_laid (suc n) i σ =
      ap (λ (τ : S). enc σ (f i) ++ laid enc step τ (tab f n (suc i))) (same_next σ i)
      ∙ (λ j. same_row σ i j ++ rows_laid n (suc i) (next σ i) j)

-- VARIABLES
pub bit_byte : (b : Bool) → bool_byte b ≡ bit b
bit_byte true = refl
bit_byte false = refl

bit_type : (b : Bool) → type_word (if b then int else real) ≡ bit b
bit_type true = refl
bit_type false = refl

range_words_lem : (v : Output) → range_words (range_view v) ≡ bit v.ranged ∷ given v.ranged v.least.0 ∷ given v.ranged v.most.0 ∷ []
range_words_lem v = go v.ranged
  where
    go : (b : Bool) → range_words (if b then some (record { least = v.least.0; most = v.most.0 }) else mathlib.Core.Option.none)
        ≡ bit b ∷ given b v.least.0 ∷ given b v.most.0 ∷ []
    go true = refl
    go false = refl

default_words_lem : (v : Output) → default_words (default_view v) ≡ bit v.numbered ∷ given v.numbered v.default.0 ∷ []
default_words_lem v = go v.numbered
  where
    go : (b : Bool) → default_words (if b then some v.default.0 else mathlib.Core.Option.none) ≡ bit b ∷ given b v.default.0 ∷ []
    go true = refl
    go false = refl

module _ (s : List ℕ) (t : Tables) where
  input_row_lem : (n i : ℕ) → input_row n (input_view s t i) ≡ input_words s (get_or t.inputs i no_input) n
  unfolding input_view input_words
  input_row_lem n i =
      let v = get_or t.inputs i no_input in
      λ j. name_words (slice v.start v.end s) ++ (bit_type v.int j ∷ n ∷ length_tab (term_view s t i) v.terms 0 j ∷ [])

  input_next_lem : (n i : ℕ) → input_next n (input_view s t i) ≡ n + input_size t.inputs i
  unfolding input_view
  input_next_lem n i = ap (λ (x : ℕ). n + x) (length_tab (term_view s t i) (input_size t.inputs i) 0)

  pub inputs_laid : input_table 0 (tab (input_view s t) t.input_count 0) ≡ input_rows s t.inputs t.input_count
  unfolding input_rows
  inputs_laid = input_table_lem 0 _ ∙ rows_laid input_row input_next (input_view s t) _ _ input_row_lem input_next_lem t.input_count 0 0

  output_row_lem : (n o : ℕ) → output_row n (output_view s t o) ≡ output_words s (get_or t.outputs o no_output) n
  unfolding output_view output_words
  output_row_lem n o =
      let v = get_or t.outputs o no_output in
      λ j. name_words (slice v.start v.end s) ++ (n ∷ length_tab (singleton_view s t o) v.terms 0
      j ∷ (range_words_lem v j ++ default_words_lem v j))

  output_next_lem : (n o : ℕ) → output_next n (output_view s t o) ≡ n + output_size t.outputs o
  unfolding output_view
  output_next_lem n o = ap (λ (x : ℕ). n + x) (length_tab (singleton_view s t o) (output_size t.outputs o) 0)

  pub outputs_laid : (n : ℕ) → laid output_row output_next n (tab (output_view s t) t.output_count 0)
      ≡ output_rows s t.outputs t.output_count n
  unfolding output_rows
  outputs_laid n = rows_laid output_row output_next (output_view s t) _ _ output_row_lem output_next_lem t.output_count 0 n
