-- A helper: the text of a function block before its rule block and behind it. `parts` of reader/proofs/Laws ties
-- `front_text` and `back_text` to the model's `function_block`, `back_ends` of proofs/Laws ties `back_to` to `back_text`, and
-- `parts_there_lem` there ties `all_have_terms` to the model's `parts_there`.
use Rattle.std.specs.Prelude.{◌≡◌, Bool, ◌&&◌, List, [], ◌∷◌, ℕ, ◌+◌, ltb, replicate, if◌then◌else◌}
use Rattle.model.specs.Basic.{◌▸◌, all, tab}
use Rattle.model.specs.Bounds.{input_limit, output_limit, point_limit, input_term_limit, output_term_limit}
use Rattle.model.specs.Block.{with_name}
use Rattle.model.specs.Keywords.{END, NAME, DEFUZZIFY, END_FUNCTION_BLOCK, END_RULEBLOCK, END_VAR, FUNCTION_BLOCK, FUZZIFY, VAR_INPUT, VAR_OUTPUT}
use Rattle.model.specs.Parse.{Parse, Part, is, refuse, advance, judged, expect, repeated, own_name}
use Rattle.model.specs.Declarations.{input_declaration, output_declaration, fuzzify, defuzzify}
use Rattle.model.specs.Reader.{end_of_block}
use Rattle.cursor.specs.declared.Cursor.{Cursor}
use Rattle.block_tables.specs.declared.Term.{Term}
use Rattle.block_tables.specs.View.{no_input, no_output, no_point, no_singleton}
use Rattle.declaration_text.specs.declared.DeclaredInputs.{DeclaredInputs}
use Rattle.declaration_text.specs.declared.DeclaredOutputs.{DeclaredOutputs}
use Rattle.fuzzify_text.specs.declared.Inputs.{Inputs}
use Rattle.defuzzify_text.specs.declared.Outputs.{Outputs}
use Rattle.symbol_table.specs.Symbols.{first, input_count, output_count}

-- what each section begins with: no variables, no terms
abbrev pub no_inputs : Cursor → DeclaredInputs
no_inputs c = record { cursor = c; count = 0; rows = replicate input_limit no_input }

abbrev pub no_outputs : Cursor → DeclaredOutputs
no_outputs c = record { cursor = c; count = 0; rows = replicate output_limit no_output }

abbrev pub blank_term : Term
blank_term = record { start = 0; end = 0; count = 0; points = replicate point_limit no_point }

abbrev pub no_terms : Cursor → DeclaredInputs → Inputs
no_terms c v = record { cursor = c; count = v.count; rows = v.rows; terms = replicate input_term_limit blank_term }

abbrev pub no_singletons : Cursor → DeclaredOutputs → Outputs
no_singletons c v = record { cursor = c; count = v.count; rows = v.rows; singletons = replicate output_term_limit no_singleton }

unfoldable pub inputs_text : Part
inputs_text r = r ▸ expect VAR_INPUT ▸ (λ q. repeated NAME input_declaration (input_declaration q)) ▸ expect END_VAR

unfoldable pub outputs_text : Part
outputs_text r = r ▸ expect VAR_OUTPUT ▸ (λ q. repeated NAME output_declaration (output_declaration q)) ▸ expect END_VAR

unfoldable pub front_text : Part
front_text r =
    r ▸ expect FUNCTION_BLOCK ▸ own_name with_name ▸ inputs_text ▸ outputs_text
    ▸ (λ q. repeated FUZZIFY fuzzify (fuzzify q)) ▸ (λ q. repeated DEFUZZIFY defuzzify (defuzzify q))

unfoldable pub back_text : Part
back_text r = r ▸ expect END_RULEBLOCK ▸ end_of_block ▸ expect END

-- the end of the block, where every variable has its part or not
unfoldable pub block_end : Bool → Part
block_end complete r = judged ((is END_FUNCTION_BLOCK r, 2) ∷ (complete, 9) ∷ []) r (advance r)

-- the end of the text, which stays the current token
unfoldable pub text_end : Part
text_end r = if is END r then r else refuse 2 r

-- `back_text` with no look at the block, up to the end of the text
unfoldable pub back_to : Bool → Part
back_to complete r = r ▸ expect END_RULEBLOCK ▸ block_end complete ▸ text_end

-- each of n variables from v on has a term
unfoldable pub have_terms : List ℕ → ℕ → ℕ → Bool
have_terms symbols v n = all (λ k. ltb (first symbols k) (first symbols (k + 1))) (tab (λ k. k) n v)

-- each input and each output
unfoldable pub all_have_terms : List ℕ → Bool
all_have_terms symbols = have_terms symbols 0 (input_count symbols) && have_terms symbols input_limit (output_count symbols)

-- two readings have the same outcome
pub record Ends (r q : Parse) : Type 0 where
  pub why : r.why ≡ q.why
  pub place : r.place ≡ q.place
  pub block : r.block ≡ q.block
