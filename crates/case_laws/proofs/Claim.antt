-- Case has no meaning: a text in capitals reads to what the text reads to, with names in capitals. So two texts that are
-- the same but for case read to the same but for the case of names.
use Rattle.std.specs.Prelude.{if◌then◌else◌}
use mathlib.Core.Path.{◌≡◌, refl, sym, ap, ◌∙◌}
use mathlib.Core.Bool.{Bool, true, false}
use mathlib.Core.List.{List}
use mathlib.Core.Option.{some}
use Prim.Native.Nat.{ℕ}
use lib.Dec.{ltb, eqb}
use lib.ListN.{length}
use Rattle.model.specs.Basic.{capitals}
use Rattle.model.specs.Bounds.{text_limit}
use Rattle.model.specs.Keywords.{END, NAME, DEFUZZIFY, END_FUNCTION_BLOCK, END_VAR, FUNCTION_BLOCK, FUZZIFY, VAR_INPUT, VAR_OUTPUT}
use Rattle.model.specs.Block.{Block, with_name, empty_block}
use Rattle.model.specs.Outcome.{Outcome, accepted, refused, and_then}
use Rattle.model.specs.Parse.{Parse}
use Rattle.model.specs.Reader.{end_of_block, function_block, start, outcome_of, reads}
use Rattle.laws.proofs.Words.{length_capitals}
use Rattle.laws.proofs.Places.{same_eq}
use Rattle.model.specs.Case.{in_capitals, read_in_capitals, WithoutCase}
use Rattle.case_laws.proofs.Tokens.{tokens_caps}
use Rattle.case_laws.proofs.Blocks.{parts_caps}
use Rattle.case_laws.proofs.Steps.{caps_parse, InCaps, NoCase, in_caps, ◌▹◌, advance_caps, passed, check, judge, of_kind, expect_caps, repeated_caps, own_name_lem}
use Rattle.case_laws.proofs.Declarations.{inputs_caps, outputs_caps, fuzzify_caps, defuzzify_caps}
use Rattle.case_laws.proofs.RuleBlock.{rule_block_caps}

end_of_block_caps : NoCase end_of_block
unfolding end_of_block
end_of_block_caps r = judge (of_kind END_FUNCTION_BLOCK (λ e. check (parts_caps r.block) (λ l. passed (advance_caps r))))

function_block_caps : NoCase function_block
unfolding function_block
function_block_caps r =
    in_caps r ▹ expect_caps FUNCTION_BLOCK ▹ own_name_lem with_name (λ w b. refl)
    ▹ expect_caps VAR_INPUT ▹ inputs_caps ▹ repeated_caps NAME inputs_caps ▹ expect_caps END_VAR
    ▹ expect_caps VAR_OUTPUT ▹ outputs_caps ▹ repeated_caps NAME outputs_caps ▹ expect_caps END_VAR
    ▹ fuzzify_caps ▹ repeated_caps FUZZIFY fuzzify_caps
    ▹ defuzzify_caps ▹ repeated_caps DEFUZZIFY defuzzify_caps
    ▹ rule_block_caps ▹ end_of_block_caps ▹ expect_caps END

start_caps : (s : List ℕ) → InCaps (start (capitals s)) (start s)
start_caps s = record { eq = λ j. record { rest = tokens_caps s j; why = 0; place = 0; block = empty_block; words = 0 } }

abbrev outcome_in_capitals : Outcome Block → Outcome Block
outcome_in_capitals o = and_then o (λ b. accepted (in_capitals b))

outcome_caps : (r : Parse) → outcome_of (caps_parse r) ≡ outcome_in_capitals (outcome_of r)
outcome_caps r = go (eqb r.why 0)
  where
    go : (b : Bool) → (if b then accepted (in_capitals r.block) else refused r.why (some r.place))
        ≡ outcome_in_capitals (if b then accepted r.block else refused r.why (some r.place))
    go true = refl
    go false = refl

pub reads_caps : (s : List ℕ) → reads (capitals s) ≡ read_in_capitals s
unfolding reads
reads_caps s =
    ap (λ (n : ℕ). if ltb text_limit n then refused 1 (some 0) else outcome_of (function_block (start (capitals s)))) (length_capitals s)
    ∙ go (ltb text_limit (length s))
  where
    inside : InCaps (function_block (start (capitals s))) (function_block (start s))
    inside = start_caps s ▹ function_block_caps

    go : (b : Bool) → (if b then refused 1 (some 0) else outcome_of (function_block (start (capitals s))))
        ≡ outcome_in_capitals (if b then refused 1 (some 0) else outcome_of (function_block (start s)))
    go true = refl
    go false = ap outcome_of inside.eq ∙ outcome_caps (function_block (start s))

pub without_case : WithoutCase
without_case s t h = sym (reads_caps s) ∙ ap reads (same_eq (capitals s) (capitals t) h) ∙ reads_caps t
