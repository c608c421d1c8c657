-- The line of a rule and the rule block by the words of an accepted image.
use mathlib.Core.Path.{◌≡◌, refl}
use mathlib.Core.List.{◌++◌, map}
use Prim.Native.Nat.{ℕ, ◌+◌}
use Rattle.model.specs.Basic.{bytes, gather}
use Rattle.model.specs.Image.{name_at, decode, rule_place, rule_at, pair_of, accu_of, act_of, PAIR_WORD, ACCU_WORD, ACT_WORD, RULE_BLOCK_NAME}
use Rattle.model.specs.Listing.{commaed, digits, input_term_name, condition_text, and_text, or_text, act_text, accu_text, conclusion_text, weight_text, rule_line, rule_block_text}

-- by the words that the code reads
pub rule_line_lem : (w : ℕ → ℕ) (i o number weight : ℕ) → o ≡ rule_place w i → number ≡ w o → weight ≡ w (o + 5) →
    let b = decode w in
    let r = rule_at w i in
    rule_line b r ≡ bytes "  RULE " ++ (digits number ++ (bytes " : IF " ++ (condition_text (input_term_name b) r.condition
    ++ (bytes " THEN " ++ (commaed (map (conclusion_text b) r.conclusions) ++ (weight_text weight ++ bytes ";\n"))))))
unfolding rule_line rule_at
rule_line_lem w i o number weight eo en ew = rw (en, ew, eo) refl

pub block_text : (w : ℕ → ℕ) (pair accu act : ℕ) → pair ≡ w PAIR_WORD → accu ≡ w ACCU_WORD → act ≡ w ACT_WORD →
    let b = decode w in
    rule_block_text b ≡ bytes "RULEBLOCK " ++ (name_at w RULE_BLOCK_NAME ++ (bytes "\n  AND : " ++ (and_text (pair_of pair)
    ++ (bytes ";\n  OR : " ++ (or_text (pair_of pair) ++ (bytes ";\n  ACT : " ++ (act_text (act_of act)
    ++ (bytes ";\n  ACCU : " ++ (accu_text (accu_of accu) ++ (bytes ";\n" ++ (gather (rule_line b) b.rules ++ bytes "END_RULEBLOCK\n")))))))))))
unfolding rule_block_text decode
block_text w pair accu act ep ea et = rw (ep, ea, et) refl
