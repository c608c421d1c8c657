-- RULEBLOCK knows no case.
use mathlib.Core.Path.{◌≡◌, refl, sym, ap, ◌∙◌, subst}
use mathlib.Core.Bool.{Bool, true, false, not}
use mathlib.Core.List.{List}
use mathlib.Core.Option.{Option, none, some}
use Prim.Native.Nat.{ℕ, ◌+◌}
use lib.Dec.{eqb}
use Rattle.model.specs.Basic.{all}
use Rattle.model.specs.Keywords.{NUMBER, COLON, SEMICOLON, ACCU, ACT, AND, BSUM, END_RULEBLOCK, IF, IS, MAX, MIN, OR, PROD, RULE, RULEBLOCK, THEN, WITH}
use Rattle.model.specs.Tokens.{decimal, unit_of, is_rule_number}
use Rattle.model.specs.Block.{Rule, Block, with_pair, with_rule_block, with_conclusion, with_weight}
use Rattle.model.specs.declared.Pair.{Pair}
use Rattle.model.specs.Parse.{Parse, kind, text, is, advance, change, expect, listed}
use Rattle.model.specs.Declarations.{output_of}
use Rattle.model.specs.Rules.{ConditionRead, condition, add_rule, change_rule, and_pair, or_pair, algorithm, algorithm_line, algorithms, activation, activation_line, accumulation, rule_number, concluded_term, conclusion, weight, weighted, rule_given, rule_from, rule, rule_block}
use Rattle.laws.proofs.Refused.{condition_stays}
use Rattle.case_laws.proofs.Blocks.{Commute, output_first_lem, output_of_lem, is_output_lem, singleton_of_lem, is_singleton_lem}
use Rattle.case_laws.proofs.Steps.{caps_parse, InCaps, NoCase, in_caps, ◌▹◌, instead, kind_same, is_same, number_text, text_case, refuse_caps, advance_caps, change_caps, changed, by_number, passed, check, judge, of_kind, a_name_lem, a_unit_lem, either_caps, expect_caps, repeated_caps, listed_caps, own_name_lem}
use Rattle.case_laws.proofs.Late.{Late, late_change, late_refuse, late_expect, fails}
use Rattle.case_laws.proofs.Conditions.{caps_read, InCapsRead, ◌▹▹◌, condition_caps}

-- ALGORITHMS
algorithm_caps : (second : Bool) (p : Option Pair) → NoCase (algorithm second p)
unfolding algorithm
algorithm_caps second none r = refuse_caps 2 r
algorithm_caps second (some p) r = judge (check refl (λ l. passed (changed (with_pair p) (with_pair p) (λ b. refl) r)))

line_caps : (second : Bool) (k : ℕ) (pair_of : ℕ → Option Pair) → NoCase (algorithm_line second k pair_of)
unfolding algorithm_line
line_caps second k pair_of r = in_caps r ▹ expect_caps k ▹ expect_caps COLON ▹ here ▹ expect_caps SEMICOLON
  where
    here : NoCase (λ q. algorithm second (pair_of (kind q)) q)
    here q = instead (ap (λ (n : ℕ). algorithm second (pair_of n) (caps_parse q)) (kind_same q)) (algorithm_caps second (pair_of (kind q)) q)

algorithms_caps : NoCase algorithms
unfolding algorithms
algorithms_caps r =
    either_caps AND r (in_caps r ▹ line_caps false AND and_pair ▹ (λ q. either_caps OR q (line_caps true OR or_pair q) (in_caps q)))
    (either_caps OR r (in_caps r ▹ line_caps false OR or_pair ▹ (λ q. either_caps AND q (line_caps true AND and_pair q) (in_caps q))) (in_caps r))

activation_caps : NoCase activation
unfolding activation
activation_caps r = either_caps MIN r (changed _ _ (λ b. refl) r) (either_caps PROD r (changed _ _ (λ b. refl) r) (refuse_caps 2 r))

activation_line_caps : NoCase activation_line
unfolding activation_line
activation_line_caps r = either_caps ACT r (in_caps r ▹ advance_caps ▹ expect_caps COLON ▹ activation_caps ▹ expect_caps SEMICOLON) (in_caps r)

accumulation_caps : NoCase accumulation
unfolding accumulation
accumulation_caps r = either_caps MAX r (changed _ _ (λ b. refl) r) (either_caps BSUM r (changed _ _ (λ b. refl) r) (refuse_caps 2 r))

-- RULES have no names
rule_commute : (f : Rule → Rule) → Commute (change_rule f) (change_rule f)
unfolding change_rule
rule_commute f b = refl

rule_number_caps : NoCase rule_number
unfolding rule_number
rule_number_caps r =
    judge (of_kind NUMBER (λ e.
    check (ap is_rule_number (number_text r e)) (λ l.
    check (ap (λ (w : List ℕ). all (λ q. not (eqb q.number (decimal w))) r.block.rules) (number_text r e)) (λ m. passed (advance_caps r)))))

concluded_term_caps : (o : ℕ) → NoCase (concluded_term o)
unfolding concluded_term
concluded_term_caps o r =
    let v = text (caps_parse r) in
    let e = text_case r in
    let b = r.block in
    judge (a_name_lem (λ n.
    check (is_singleton_lem v (text r) e o b) (λ l.
    passed (instead (ap (λ (t : ℕ). advance (change (conclude t) (caps_parse r))) (λ j. output_first_lem o b j + singleton_of_lem v (text r) e o b j))
    (changed _ _ (rule_commute _) r)))))
  where
    conclude : ℕ → Block → Block
    conclude t = change_rule (with_conclusion (record { output = o; term = t }))

conclusion_caps : NoCase conclusion
unfolding conclusion
conclusion_caps r =
    let v = text (caps_parse r) in
    let e = text_case r in
    let b = r.block in
    judge (a_name_lem (λ n.
    check (is_output_lem v (text r) e b) (λ l.
    check refl (λ m.
    passed (instead (ap (λ (o : ℕ). concluded_term o (expect IS (advance (caps_parse r)))) (output_of_lem v (text r) e b))
    (in_caps r ▹ advance_caps ▹ expect_caps IS ▹ concluded_term_caps (output_of (text r) b)))))))

weight_caps : NoCase weight
unfolding weight
weight_caps r =
    let f : List ℕ → Block → Block = λ w. change_rule (with_weight (unit_of w)) in
    judge (a_unit_lem (λ e. by_number f f (λ w. rule_commute (with_weight (unit_of w))) r e))

weighted_caps : NoCase weighted
unfolding weighted
weighted_caps r = either_caps WITH r (in_caps r ▹ advance_caps ▹ weight_caps) (in_caps r)

add_rule_lem : (n : ℕ) (g : ConditionRead) → Commute (add_rule n g.tree) (add_rule n g.tree)
unfolding add_rule
add_rule_lem n g b = refl

given_caps : (n : ℕ) (g : ConditionRead) → InCaps (rule_given n (caps_read g)) (rule_given n g)
unfolding rule_given
given_caps n g =
    change_caps _ _ (add_rule_lem n g) g.parse ▹ expect_caps THEN ▹ listed_caps conclusion_caps ▹ weighted_caps ▹ expect_caps SEMICOLON

-- the number has no effect where it is refused
given_late : (m n : ℕ) (g : ConditionRead) → Late g.parse → rule_given m g ≡ rule_given n g
unfolding rule_given
given_late m n g z = ap (λ (q : Parse). expect SEMICOLON (weighted (listed conclusion (expect THEN q)))) (late_change _ _ g.parse z)

number_late : (r : Parse) → is NUMBER r ≡ false → Late (rule_number r)
unfolding rule_number
number_late r e = subst Late (sym (fails _ _ _ r _ e)) (late_refuse 1 r)

condition_late : (r : Parse) → Late r → Late (condition r).parse
condition_late r z h = z (sym (condition_stays r z).0 ∙ h)

rule_from_caps : NoCase rule_from
unfolding rule_from
rule_from_caps r = go (is NUMBER r) refl
  where
    before : Parse → ConditionRead
    before q = condition (expect IF (expect COLON (rule_number q)))

    read : InCapsRead (before (caps_parse r)) (before r)
    read = in_caps r ▹ rule_number_caps ▹ expect_caps COLON ▹ expect_caps IF ▹▹ condition_caps

    steps : InCaps (rule_given (decimal (text r)) (before (caps_parse r))) (rule_given (decimal (text r)) (before r))
    steps = instead (ap (rule_given (decimal (text r))) read.eq) (given_caps (decimal (text r)) (before r))

    go : (b : Bool) → is NUMBER r ≡ b
        → InCaps (rule_given (decimal (text (caps_parse r))) (before (caps_parse r))) (rule_given (decimal (text r)) (before r))
    go true e = instead (ap (λ (w : List ℕ). rule_given (decimal w) (before (caps_parse r))) (number_text r e)) steps
    go false e =
        let z = late_expect IF _ (late_expect COLON _ (number_late (caps_parse r) (is_same NUMBER r ∙ e))) in
        instead (given_late (decimal (text (caps_parse r))) (decimal (text r)) (before (caps_parse r)) (condition_late _ z)) steps

rule_caps : NoCase rule
unfolding rule
rule_caps r = judge (of_kind RULE (λ e. check refl (λ l. passed (in_caps r ▹ advance_caps ▹ rule_from_caps))))

pub rule_block_caps : NoCase rule_block
unfolding rule_block
rule_block_caps r =
    in_caps r ▹ expect_caps RULEBLOCK ▹ own_name_lem with_rule_block (λ w b. refl)
    ▹ algorithms_caps ▹ activation_line_caps
    ▹ expect_caps ACCU ▹ expect_caps COLON ▹ accumulation_caps ▹ expect_caps SEMICOLON
    ▹ rule_caps ▹ repeated_caps RULE rule_caps ▹ expect_caps END_RULEBLOCK
