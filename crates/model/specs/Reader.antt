-- What a text reads to: a block, or the number and place of its first refusal.
use Rattle.std.specs.Prelude.{Bool, ◌&&◌, not, List, [], ◌∷◌, ℕ, ltb, eqb, length, if◌then◌else◌}
use Rattle.std.proofs.Math.Option.{some}
use Rattle.model.specs.Basic.{◌▸◌, is_empty, all}
use Rattle.model.specs.Bounds.{text_limit}
use Rattle.model.specs.Outcome.{Outcome, accepted, refused}
use Rattle.model.specs.Keywords.{END, NAME, DEFUZZIFY, END_FUNCTION_BLOCK, END_VAR, FUNCTION_BLOCK, FUZZIFY, VAR_INPUT, VAR_OUTPUT}
use Rattle.model.specs.Tokens.{tokens}
use Rattle.model.specs.Block.{Block, with_name, empty_block}
use Rattle.model.specs.Parse.{Parse, Part, is, advance, judged, expect, repeated, own_name}
use Rattle.model.specs.Declarations.{input_declaration, output_declaration, fuzzify, defuzzify}
use Rattle.model.specs.Rules.{rule_block}

-- every variable has its FUZZIFY or DEFUZZIFY, which has a term at least
unfoldable pub parts_there : Block → Bool
parts_there b = all (λ v. not (is_empty v.terms)) b.inputs && all (λ v. not (is_empty v.terms)) b.outputs

unfoldable pub end_of_block : Part
end_of_block r = judged ((is END_FUNCTION_BLOCK r, 2) ∷ (parts_there r.block, 9) ∷ []) r (advance r)

unfoldable pub function_block : Part
function_block r =
    r ▸ expect FUNCTION_BLOCK ▸ own_name with_name
    ▸ expect VAR_INPUT ▸ input_declaration ▸ repeated NAME input_declaration ▸ expect END_VAR
    ▸ expect VAR_OUTPUT ▸ output_declaration ▸ repeated NAME output_declaration ▸ expect END_VAR
    ▸ fuzzify ▸ repeated FUZZIFY fuzzify
    ▸ defuzzify ▸ repeated DEFUZZIFY defuzzify
    ▸ rule_block ▸ end_of_block ▸ expect END

abbrev pub start : List ℕ → Parse
start s = record { rest = tokens s; why = 0; place = 0; block = empty_block; words = 0 }

abbrev pub outcome_of : Parse → Outcome Block
outcome_of r = if eqb r.why 0 then accepted r.block else refused r.why (some r.place)

-- what a text reads to
unfoldable pub reads : List ℕ → Outcome Block
reads s = if ltb text_limit (length s) then refused 1 (some 0) else outcome_of (function_block (start s))
