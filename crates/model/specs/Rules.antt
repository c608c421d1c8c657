-- The reader's rules for conditions and RULEBLOCK.
use Rattle.std.specs.Prelude.{Bool, true, false, ◌||◌, not, [], ◌∷◌, ◌++◌, ℕ, zero, suc, ◌+◌, ltb, eqb, length, if◌then◌else◌}
use Rattle.std.proofs.Math.Option.{Option, none, some}
use Rattle.model.specs.Basic.{◌▸◌, all, update_last}
use Rattle.model.specs.Bounds.{M, rule_limit, word_limit, conclusion_limit, depth_limit}
use Rattle.model.specs.Keywords.{NUMBER, OPEN, CLOSE, COLON, SEMICOLON, ACCU, ACT, AND, ASUM, BDIF, BSUM, END_RULEBLOCK, IF, IS, MAX, MIN, NOT, OR, PROD, RULE, RULEBLOCK, THEN, WITH}
use Rattle.model.specs.Tokens.{decimal, unit_of, is_rule_number}
use Rattle.model.specs.Block.{Op, Condition, Rule, Pair, Block, input_first, output_first, conclusions, and, or, term, neg, two, min-max, prod-asum, bdif-bsum, by-max, by-bsum, by-min, by-prod, with_rules, with_rule_block, with_pair, with_act, with_accu, with_conclusion, with_weight}
use Rattle.model.specs.Parse.{Parse, Part, rest_of, kind, text, is, refuse, advance, change, judged, expect, repeated, listed, a_name, a_unit, own_name}
use Rattle.model.specs.Declarations.{input_of, output_of, is_input, is_output, term_of, singleton_of, is_term, is_singleton}

-- CONDITIONS
pub record ConditionRead : Type 0 where
  pub parse : Parse
  pub tree : Condition

abbrev pub condition_read : Parse → Condition → ConditionRead
condition_read r c = record { parse = r; tree = c }

-- the current token as one condition word more
unfoldable pub word : Part
word r =
    if ltb r.words word_limit
    then record { rest = rest_of r.rest; why = r.why; place = r.place; block = r.block; words = r.words + 1 }
    else refuse 6 r

-- the term of input i with the name that stands here
unfoldable pub condition_term : ℕ → Parse → ConditionRead
condition_term i r =
    condition_read
    (judged (a_name r ((is_term i (text r) r.block, 5) ∷ [])) r (advance r))
    (term (input_first i r.block + term_of i (text r) r.block))

abbrev pub negated_read : ConditionRead → ConditionRead
negated_read g = condition_read g.parse (neg g.tree)

-- [NOT] term
unfoldable pub term_or_not : ℕ → Parse → ConditionRead
term_or_not i r = if is NOT r then negated_read (condition_term i (word r)) else condition_term i r

-- input IS [NOT] term
unfoldable pub subcondition : Parse → ConditionRead
subcondition r =
    let i : ℕ = input_of (text r) r.block in
    term_or_not i
    (judged (a_name r ((is_input (text r) r.block, 5) ∷ [])) r (word r) ▸ expect IS)

-- part {k part}, grouped to the left
unfoldable pub chain_on : ℕ → (Parse → ConditionRead) → ℕ → Op → ConditionRead → ConditionRead
chain_on zero part k o g = g
chain_on (suc n) part k o g = elim (is k g.parse) [
  | true ↦
      let h : ConditionRead = part (word g.parse) in
      chain_on n part k o (condition_read h.parse (two o g.tree h.tree))
  | false ↦ g
]

unfoldable pub chain : (Parse → ConditionRead) → ℕ → Op → Parse → ConditionRead
chain part k o r = chain_on (suc (length r.rest)) part k o (part r)

-- [NOT] subcondition, or [NOT] ( condition ), where inner reads from the parenthesis on
unfoldable pub plain : (Parse → ConditionRead) → Parse → ConditionRead
plain inner r = if is OPEN r then inner r else subcondition r

unfoldable pub operand : (Parse → ConditionRead) → Parse → ConditionRead
operand inner r = if is NOT r then negated_read (plain inner (word r)) else plain inner r

unfoldable pub condition_with : (Parse → ConditionRead) → Parse → ConditionRead
condition_with inner = chain (chain (operand inner) AND and) OR or

abbrev pub closed : ConditionRead → ConditionRead
closed g = condition_read (expect CLOSE g.parse) g.tree

-- from an open parenthesis on, where d more may be open at once
unfoldable pub parenthesis : ℕ → Parse → ConditionRead
parenthesis zero r = condition_read (refuse 6 r) (term 0)
parenthesis (suc d) r = closed (condition_with (parenthesis d) (advance r))

unfoldable pub condition : Parse → ConditionRead
condition = condition_with (parenthesis depth_limit)

-- RULEBLOCK
unfoldable pub add_rule : ℕ → Condition → Block → Block
add_rule n c = with_rules (λ rs. rs ++ (record { number = n; condition = c; conclusions = []; weight = M } ∷ []))

unfoldable pub change_rule : (Rule → Rule) → Block → Block
change_rule f = with_rules (update_last f)

-- the pair of an algorithm for AND, for OR
abbrev pub and_pair : ℕ → Option Pair
and_pair k =
    if eqb k MIN then some min-max else
    if eqb k PROD then some prod-asum else
    if eqb k BDIF then some bdif-bsum else none

abbrev pub or_pair : ℕ → Option Pair
or_pair k =
    if eqb k MAX then some min-max else
    if eqb k ASUM then some prod-asum else
    if eqb k BSUM then some bdif-bsum else none

abbrev pub same_pair : Pair → Pair → Bool
same_pair min-max min-max = true
same_pair min-max prod-asum = false
same_pair min-max bdif-bsum = false
same_pair prod-asum min-max = false
same_pair prod-asum prod-asum = true
same_pair prod-asum bdif-bsum = false
same_pair bdif-bsum min-max = false
same_pair bdif-bsum prod-asum = false
same_pair bdif-bsum bdif-bsum = true

-- the first algorithm sets the pair; the second has to be of it
unfoldable pub algorithm : Bool → Option Pair → Part
algorithm second none r = refuse 2 r
algorithm second (some p) r =
    judged ((not second || same_pair p r.block.pair, 8) ∷ []) r (advance (change (with_pair p) r))

unfoldable pub algorithm_line : Bool → ℕ → (ℕ → Option Pair) → Part
algorithm_line second k pair_of r =
    r ▸ expect k ▸ expect COLON ▸ (λ q. algorithm second (pair_of (kind q)) q) ▸ expect SEMICOLON

-- each optional, in either order
unfoldable pub algorithms : Part
algorithms r =
    if is AND r then
    algorithm_line false AND and_pair r ▸ (λ q. if is OR q then algorithm_line true OR or_pair q else q) else
    if is OR r then
    algorithm_line false OR or_pair r ▸ (λ q. if is AND q then algorithm_line true AND and_pair q else q) else r

unfoldable pub activation : Part
activation r =
    if is MIN r then advance (change (with_act by-min) r) else
    if is PROD r then advance (change (with_act by-prod) r) else refuse 2 r

unfoldable pub activation_line : Part
activation_line r = if is ACT r then advance r ▸ expect COLON ▸ activation ▸ expect SEMICOLON else r

unfoldable pub accumulation : Part
accumulation r =
    if is MAX r then advance (change (with_accu by-max) r) else
    if is BSUM r then advance (change (with_accu by-bsum) r) else refuse 2 r

unfoldable pub rule_number : Part
rule_number r =
    let n : ℕ = decimal (text r) in
    judged
    ((is NUMBER r, 2) ∷ (is_rule_number (text r), 3) ∷ (all (λ q. not (eqb q.number n)) r.block.rules, 4) ∷ [])
    r (advance r)

-- a term of output o
unfoldable pub concluded_term : ℕ → Part
concluded_term o r =
    judged (a_name r ((is_singleton o (text r) r.block, 5) ∷ []))
    r
    (advance (change (change_rule (with_conclusion
    (record { output = o; term = output_first o r.block + singleton_of o (text r) r.block }))) r))

unfoldable pub conclusion : Part
conclusion r =
    let o : ℕ = output_of (text r) r.block in
    judged
    (a_name r ((is_output (text r) r.block, 5) ∷ (ltb (length (conclusions r.block)) conclusion_limit, 6) ∷ []))
    r (advance r ▸ expect IS ▸ concluded_term o)

unfoldable pub weight : Part
weight r =
    judged (a_unit r) r (advance (change (change_rule (with_weight (unit_of (text r)))) r))

unfoldable pub weighted : Part
weighted r = if is WITH r then weight (advance r) else r

unfoldable pub rule_given : ℕ → ConditionRead → Parse
rule_given n g =
    g.parse ▸ change (add_rule n g.tree) ▸ expect THEN ▸ listed conclusion ▸ weighted ▸ expect SEMICOLON

unfoldable pub rule_from : Part
rule_from r =
    let n : ℕ = decimal (text r) in
    rule_given n (r ▸ rule_number ▸ expect COLON ▸ expect IF ▸ condition)

unfoldable pub rule : Part
rule r = judged ((is RULE r, 2) ∷ (ltb (length r.block.rules) rule_limit, 6) ∷ []) r (rule_from (advance r))

unfoldable pub rule_block : Part
rule_block r =
    r ▸ expect RULEBLOCK ▸ own_name with_rule_block
    ▸ algorithms ▸ activation_line
    ▸ expect ACCU ▸ expect COLON ▸ accumulation ▸ expect SEMICOLON
    ▸ rule ▸ repeated RULE rule ▸ expect END_RULEBLOCK
