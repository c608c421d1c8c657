-- A fact of a reading that is kept by the four steps that change it (a refusal, a token on, a change of the block, a condition word)
-- is kept by every part of the reader's rules, and by the reading of the whole text.
use Rattle.std.specs.Prelude.{if◌then◌else◌}
use mathlib.Core.Path.{◌≡◌, refl}
use mathlib.Core.Bool.{Bool, true, false, ◌&&◌}
use mathlib.Core.List.{List, [], ◌∷◌}
use mathlib.Core.Option.{Option, none, some}
use Prim.Native.Nat.{ℕ, zero, suc, ◌+◌}
use lib.IntN.{ℤ}
use lib.ListN.{length}
use Rattle.model.specs.Bounds.{depth_limit}
use Rattle.model.specs.Refusals.{reader_number}
use Rattle.model.specs.Block.{Block, Op, Output, and, or}
use Rattle.model.specs.declared.Pair.{Pair}
use Rattle.model.specs.Keywords.{END, NAME, OPEN, CLOSE, COMMA, COLON, SEMICOLON, ASSIGN, DOTS, ACCU, ACT, AND, BSUM, CoGS, DEFAULT, DEFUZZIFY, END_DEFUZZIFY, END_FUZZIFY, END_RULEBLOCK, END_VAR, FUNCTION_BLOCK, FUZZIFY, IF, INT, IS, MAX, METHOD, MIN, NC, NOT, OR, PROD, RANGE, REAL, RULE, RULEBLOCK, TERM, THEN, VAR_INPUT, VAR_OUTPUT, WITH}
use Rattle.model.specs.Parse.{Parse, Part, Checks, rest_of, is, refuse, advance, change, judged, expect, repeat_on, repeated, listed, own_name}
use Rattle.model.specs.Declarations.{variable, input_type, input_declaration, output_declaration, point_position, point_degree, point_body, point, end_of_points, term_name, input_term, fuzzify_of, fuzzify_variable, fuzzify, lower_end, upper_end, range_body, range_part, figure, singleton_body, output_term, default_value, defuzzify_of, defuzzify_variable, defuzzify}
use Rattle.model.specs.Rules.{ConditionRead, word, condition_term, term_or_not, subcondition, chain_on, chain, plain, operand, condition_with, parenthesis, condition, and_pair, or_pair, algorithm, algorithm_line, algorithms, activation, activation_line, accumulation, rule_number, concluded_term, conclusion, weight, weighted, rule_given, rule_from, rule, rule_block}
use Rattle.model.specs.Reader.{end_of_block, function_block}
use Rattle.laws.proofs.Tests.{both}

-- the numbers of all checks are the reader's
abbrev pub ranged : Checks → Bool
ranged [] = true
ranged ((ok, n) ∷ cs) = reader_number n && ranged cs

-- a condition word more, where there is room for it
abbrev pub counted : Part
counted r = record { rest = rest_of r.rest; why = r.why; place = r.place; block = r.block; words = r.words + 1 }

-- the four steps keep K
pub record Steps (K : Parse → Type 0) : Type 0 where
  pub refused : (n : ℕ) → reader_number n ≡ true → (r : Parse) → K r → K (refuse n r)
  pub advanced : (r : Parse) → K r → K (advance r)
  pub changed : (f : Block → Block) (r : Parse) → K r → K (change f r)
  pub worded : (r : Parse) → K r → K (word r)

-- a repetition keeps what its part keeps
module _ (K : Parse → Type 0) (part : Part) (f : (r : Parse) → K r → K (part r)) (t : ℕ) where
  repeat_on_keeps : (n : ℕ) (r : Parse) → K r → K (repeat_on n t part r)
  unfolding repeat_on
  repeat_on_keeps zero r k = k
  repeat_on_keeps (suc n) r k = go (is t r) (repeat_on_keeps n (part r) (f r k))
    where
      go : (b : Bool) → K (repeat_on n t part (part r)) → K (elim b [ true ↦ repeat_on n t part (part r) | false ↦ r ])
      go true l = l
      go false l = k

  pub repeated_keeps : (r : Parse) → K r → K (repeated t part r)
  unfolding repeated
  repeated_keeps r k = repeat_on_keeps (suc (length r.rest)) r k

module _ (K : Parse → Type 0) (s : Steps K) where
  abbrev pub Keeps : Part → Type 0
  Keeps part = (r : Parse) → K r → K (part r)

  abbrev pub KeepsTree : (Parse → ConditionRead) → Type 0
  KeepsTree part = (r : Parse) → K r → K (part r).parse

  -- a part more
  infixl 10 ◌▹◌
  ◌▹◌ : {part : Part} {r : Parse} → K r → Keeps part → K (part r)
  ◌▹◌ {part} {r} k f = f r k

  -- THE STEPS
  either : {p q : Parse} (b : Bool) → K p → K q → K (if b then p else q)
  either true k l = k
  either false k l = l

  either_tree : (g h : ConditionRead) (b : Bool) → K g.parse → K h.parse → K (if b then g else h).parse
  either_tree g h true k l = k
  either_tree g h false k l = l

  pub keeps_refuse : (n : ℕ) → reader_number n ≡ true → Keeps (refuse n)
  keeps_refuse = s.refused

  pub keeps_advance : Keeps advance
  keeps_advance = s.advanced

  pub keeps_change : (f : Block → Block) → Keeps (change f)
  keeps_change = s.changed

  pub judged_keeps : (cs : Checks) {r next : Parse} → ranged cs ≡ true → K r → K next → K (judged cs r next)
  unfolding judged
  judged_keeps [] e k l = l
  judged_keeps ((ok, n) ∷ cs) {r} {next} e k l =
      let p = both (reader_number n) (ranged cs) e in
      either ok (judged_keeps cs p.1 k l) (keeps_refuse n p.0 r k)

  pub keeps_expect : (t : ℕ) → Keeps (expect t)
  unfolding expect
  keeps_expect t r k = either (is t r) (keeps_advance r k) (keeps_refuse 2 refl r k)

  pub keeps_repeated : {part : Part} (t : ℕ) → Keeps part → Keeps (repeated t part)
  keeps_repeated {part} t f = repeated_keeps K part f t

  pub keeps_listed : {part : Part} → Keeps part → Keeps (listed part)
  unfolding listed
  keeps_listed {part} f r k = k ▹ f ▹ keeps_repeated COMMA (λ q l. l ▹ keeps_expect COMMA ▹ f)

  pub keeps_own_name : (with : List ℕ → Block → Block) → Keeps (own_name with)
  unfolding own_name
  keeps_own_name with r k = judged_keeps _ refl k (k ▹ keeps_change _ ▹ keeps_advance)

  -- DECLARATIONS
  pub keeps_variable : (add : List ℕ → Block → Block) (count : Block → ℕ) (limit : ℕ) → Keeps (variable add count limit)
  unfolding variable
  keeps_variable add count limit r k = judged_keeps _ refl k (k ▹ keeps_change _ ▹ keeps_advance)

  pub keeps_input_type : (n : ℕ) → Keeps (input_type n)
  unfolding input_type
  keeps_input_type n r k = either (is INT r) (k ▹ keeps_change _ ▹ keeps_advance) (keeps_expect REAL r k)

  pub keeps_input_declaration : Keeps input_declaration
  unfolding input_declaration
  keeps_input_declaration r k = k ▹ keeps_listed (keeps_variable _ _ _) ▹ keeps_expect COLON ▹ keeps_input_type _ ▹ keeps_expect SEMICOLON

  pub keeps_output_declaration : Keeps output_declaration
  unfolding output_declaration
  keeps_output_declaration r k = k ▹ keeps_listed (keeps_variable _ _ _) ▹ keeps_expect COLON ▹ keeps_expect REAL ▹ keeps_expect SEMICOLON

  pub keeps_point_position : (i : ℕ) → Keeps (point_position i)
  unfolding point_position
  keeps_point_position i r k = judged_keeps _ refl k (keeps_advance r k)

  pub keeps_point_degree : (i : ℕ) (x : ℤ) → Keeps (point_degree i x)
  unfolding point_degree
  keeps_point_degree i x r k = judged_keeps _ refl k (k ▹ keeps_change _ ▹ keeps_advance)

  pub keeps_point_body : (i : ℕ) → Keeps (point_body i)
  unfolding point_body
  keeps_point_body i r k = k ▹ keeps_point_position i ▹ keeps_expect COMMA ▹ keeps_point_degree i _ ▹ keeps_expect CLOSE

  pub keeps_point : (i : ℕ) → Keeps (point i)
  unfolding point
  keeps_point i r k = judged_keeps _ refl k (k ▹ keeps_advance ▹ keeps_point_body i)

  pub keeps_end_of_points : (i : ℕ) → Keeps (end_of_points i)
  unfolding end_of_points
  keeps_end_of_points i r k = judged_keeps _ refl k (keeps_advance r k)

  pub keeps_term_name : (i : ℕ) → Keeps (term_name i)
  unfolding term_name
  keeps_term_name i r k = judged_keeps _ refl k (k ▹ keeps_change _ ▹ keeps_advance)

  pub keeps_input_term : (i : ℕ) → Keeps (input_term i)
  unfolding input_term
  keeps_input_term i r k =
      judged_keeps _ refl k (k ▹ keeps_advance ▹ keeps_term_name i ▹ keeps_expect ASSIGN ▹ keeps_listed (keeps_point i) ▹ keeps_end_of_points i)

  pub keeps_fuzzify_of : (i : ℕ) → Keeps (fuzzify_of i)
  unfolding fuzzify_of
  keeps_fuzzify_of i r k =
      judged_keeps _ refl k (k ▹ keeps_advance ▹ keeps_input_term i ▹ keeps_repeated TERM (keeps_input_term i) ▹ keeps_expect END_FUZZIFY)

  pub keeps_fuzzify : Keeps fuzzify
  unfolding fuzzify fuzzify_variable
  keeps_fuzzify r k = k ▹ keeps_expect FUZZIFY ▹ keeps_fuzzify_of _

  pub keeps_lower_end : Keeps lower_end
  unfolding lower_end
  keeps_lower_end r k = judged_keeps _ refl k (keeps_advance r k)

  pub keeps_upper_end : (o : ℕ) (x : ℤ) → Keeps (upper_end o x)
  unfolding upper_end
  keeps_upper_end o x r k = judged_keeps _ refl k (k ▹ keeps_change _ ▹ keeps_advance)

  pub keeps_range_body : (o : ℕ) → Keeps (range_body o)
  unfolding range_body
  keeps_range_body o r k = k ▹ keeps_lower_end ▹ keeps_expect DOTS ▹ keeps_upper_end o _ ▹ keeps_expect CLOSE ▹ keeps_expect SEMICOLON

  pub keeps_range_part : (o : ℕ) → Keeps (range_part o)
  unfolding range_part
  keeps_range_part o r k = either (is RANGE r) (k ▹ keeps_advance ▹ keeps_expect OPEN ▹ keeps_range_body o) k

  pub keeps_figure : (with : ℤ → Output → Output) (o : ℕ) → Keeps (figure with o)
  unfolding figure
  keeps_figure with o r k = judged_keeps _ refl k (k ▹ keeps_change _ ▹ keeps_advance)

  pub keeps_singleton_body : (o : ℕ) → Keeps (singleton_body o)
  unfolding singleton_body
  keeps_singleton_body o r k = judged_keeps _ refl k (k ▹ keeps_advance ▹ keeps_expect ASSIGN ▹ keeps_figure _ o ▹ keeps_expect SEMICOLON)

  pub keeps_output_term : (o : ℕ) → Keeps (output_term o)
  unfolding output_term
  keeps_output_term o r k = judged_keeps _ refl k (k ▹ keeps_advance ▹ keeps_singleton_body o)

  pub keeps_default_value : (o : ℕ) → Keeps (default_value o)
  unfolding default_value
  keeps_default_value o r k = either (is NC r) (keeps_advance r k) (keeps_figure _ o r k)

  pub keeps_defuzzify_of : (o : ℕ) → Keeps (defuzzify_of o)
  unfolding defuzzify_of
  keeps_defuzzify_of o r k =
      judged_keeps _ refl k
      (k ▹ keeps_advance ▹ keeps_range_part o ▹ keeps_output_term o ▹ keeps_repeated TERM (keeps_output_term o)
      ▹ keeps_expect METHOD ▹ keeps_expect COLON ▹ keeps_expect CoGS ▹ keeps_expect SEMICOLON
      ▹ keeps_expect DEFAULT ▹ keeps_expect ASSIGN ▹ keeps_default_value o ▹ keeps_expect SEMICOLON ▹ keeps_expect END_DEFUZZIFY)

  pub keeps_defuzzify : Keeps defuzzify
  unfolding defuzzify defuzzify_variable
  keeps_defuzzify r k = k ▹ keeps_expect DEFUZZIFY ▹ keeps_defuzzify_of _

  -- CONDITIONS
  pub keeps_word : Keeps word
  keeps_word = s.worded

  pub keeps_condition_term : (i : ℕ) → KeepsTree (condition_term i)
  unfolding condition_term
  keeps_condition_term i r k = judged_keeps _ refl k (keeps_advance r k)

  pub keeps_term_or_not : (i : ℕ) → KeepsTree (term_or_not i)
  unfolding term_or_not
  keeps_term_or_not i r k = either_tree _ _ (is NOT r) (keeps_condition_term i (word r) (keeps_word r k)) (keeps_condition_term i r k)

  pub keeps_subcondition : KeepsTree subcondition
  unfolding subcondition
  keeps_subcondition r k = keeps_term_or_not _ _ (judged_keeps _ refl k (keeps_word r k) ▹ keeps_expect IS)

  module _ (part : Parse → ConditionRead) (f : KeepsTree part) (t : ℕ) (o : Op) where
    pub chain_on_keeps : (n : ℕ) (g : ConditionRead) → K g.parse → K (chain_on n part t o g).parse
    unfolding chain_on
    chain_on_keeps zero g k = k
    chain_on_keeps (suc n) g k = go (is t g.parse) _ (chain_on_keeps n _ (f _ (keeps_word g.parse k)))
      where
        go : (b : Bool) (h : ConditionRead) → K h.parse → K (elim b as (λ x. ConditionRead) [ true ↦ h | false ↦ g ]).parse
        go true h l = l
        go false h l = k

    pub keeps_chain : KeepsTree (chain part t o)
    unfolding chain
    keeps_chain r k = chain_on_keeps (suc (length r.rest)) (part r) (f r k)

  module _ (inner : Parse → ConditionRead) (f : KeepsTree inner) where
    pub keeps_plain : KeepsTree (plain inner)
    unfolding plain
    keeps_plain r k = either_tree _ _ (is OPEN r) (f r k) (keeps_subcondition r k)

    pub keeps_operand : KeepsTree (operand inner)
    unfolding operand
    keeps_operand r k = either_tree _ _ (is NOT r) (keeps_plain (word r) (keeps_word r k)) (keeps_plain r k)

    pub keeps_condition_with : KeepsTree (condition_with inner)
    unfolding condition_with
    keeps_condition_with = keeps_chain _ (keeps_chain _ keeps_operand AND and) OR or

  pub keeps_parenthesis : (d : ℕ) → KeepsTree (parenthesis d)
  unfolding parenthesis
  keeps_parenthesis zero r k = keeps_refuse 6 refl r k
  keeps_parenthesis (suc d) r k = keeps_condition_with _ (keeps_parenthesis d) (advance r) (keeps_advance r k) ▹ keeps_expect CLOSE

  pub keeps_condition : KeepsTree condition
  unfolding condition
  keeps_condition = keeps_condition_with _ (keeps_parenthesis depth_limit)

  -- RULEBLOCK
  pub keeps_algorithm : (second : Bool) (p : Option Pair) → Keeps (algorithm second p)
  unfolding algorithm
  keeps_algorithm second none r k = keeps_refuse 2 refl r k
  keeps_algorithm second (some p) r k = judged_keeps _ refl k (k ▹ keeps_change _ ▹ keeps_advance)

  pub keeps_algorithm_line : (second : Bool) (t : ℕ) (pair_of : ℕ → Option Pair) → Keeps (algorithm_line second t pair_of)
  unfolding algorithm_line
  keeps_algorithm_line second t pair_of r k = k ▹ keeps_expect t ▹ keeps_expect COLON ▹ keeps_algorithm second _ ▹ keeps_expect SEMICOLON

  pub keeps_algorithms : Keeps algorithms
  unfolding algorithms
  keeps_algorithms r k =
      either (is AND r) (k ▹ keeps_algorithm_line false AND and_pair ▹ (λ q l. either (is OR q) (keeps_algorithm_line true OR or_pair q l) l))
      (either (is OR r) (k ▹ keeps_algorithm_line false OR or_pair ▹ (λ q l. either (is AND q) (keeps_algorithm_line true AND and_pair q l) l)) k)

  pub keeps_activation : Keeps activation
  unfolding activation
  keeps_activation r k =
      either (is MIN r) (k ▹ keeps_change _ ▹ keeps_advance)
      (either (is PROD r) (k ▹ keeps_change _ ▹ keeps_advance) (keeps_refuse 2 refl r k))

  pub keeps_activation_line : Keeps activation_line
  unfolding activation_line
  keeps_activation_line r k = either (is ACT r) (k ▹ keeps_advance ▹ keeps_expect COLON ▹ keeps_activation ▹ keeps_expect SEMICOLON) k

  pub keeps_accumulation : Keeps accumulation
  unfolding accumulation
  keeps_accumulation r k =
      either (is MAX r) (k ▹ keeps_change _ ▹ keeps_advance)
      (either (is BSUM r) (k ▹ keeps_change _ ▹ keeps_advance) (keeps_refuse 2 refl r k))

  pub keeps_rule_number : Keeps rule_number
  unfolding rule_number
  keeps_rule_number r k = judged_keeps _ refl k (keeps_advance r k)

  pub keeps_concluded_term : (o : ℕ) → Keeps (concluded_term o)
  unfolding concluded_term
  keeps_concluded_term o r k = judged_keeps _ refl k (k ▹ keeps_change _ ▹ keeps_advance)

  pub keeps_conclusion : Keeps conclusion
  unfolding conclusion
  keeps_conclusion r k = judged_keeps _ refl k (k ▹ keeps_advance ▹ keeps_expect IS ▹ keeps_concluded_term _)

  pub keeps_weighted : Keeps weighted
  unfolding weighted weight
  keeps_weighted r k = either (is WITH r) (let l = keeps_advance r k in judged_keeps _ refl l (l ▹ keeps_change _ ▹ keeps_advance)) k

  pub given_keeps : (n : ℕ) (g : ConditionRead) → K g.parse → K (rule_given n g)
  unfolding rule_given
  given_keeps n g k = k ▹ keeps_change _ ▹ keeps_expect THEN ▹ keeps_listed keeps_conclusion ▹ keeps_weighted ▹ keeps_expect SEMICOLON

  pub keeps_rule_from : Keeps rule_from
  unfolding rule_from
  keeps_rule_from r k = given_keeps _ _ (keeps_condition _ (k ▹ keeps_rule_number ▹ keeps_expect COLON ▹ keeps_expect IF))

  pub keeps_rule : Keeps rule
  unfolding rule
  keeps_rule r k = judged_keeps _ refl k (k ▹ keeps_advance ▹ keeps_rule_from)

  pub keeps_rule_block : Keeps rule_block
  unfolding rule_block
  keeps_rule_block r k =
      k ▹ keeps_expect RULEBLOCK ▹ keeps_own_name _
      ▹ keeps_algorithms ▹ keeps_activation_line
      ▹ keeps_expect ACCU ▹ keeps_expect COLON ▹ keeps_accumulation ▹ keeps_expect SEMICOLON
      ▹ keeps_rule ▹ keeps_repeated RULE keeps_rule ▹ keeps_expect END_RULEBLOCK

  -- THE WHOLE TEXT
  pub keeps_end_of_block : Keeps end_of_block
  unfolding end_of_block
  keeps_end_of_block r k = judged_keeps _ refl k (keeps_advance r k)

  pub keeps_function_block : Keeps function_block
  unfolding function_block
  keeps_function_block r k =
      k ▹ keeps_expect FUNCTION_BLOCK ▹ keeps_own_name _
      ▹ keeps_expect VAR_INPUT ▹ keeps_input_declaration ▹ keeps_repeated NAME keeps_input_declaration ▹ keeps_expect END_VAR
      ▹ keeps_expect VAR_OUTPUT ▹ keeps_output_declaration ▹ keeps_repeated NAME keeps_output_declaration ▹ keeps_expect END_VAR
      ▹ keeps_fuzzify ▹ keeps_repeated FUZZIFY keeps_fuzzify
      ▹ keeps_defuzzify ▹ keeps_repeated DEFUZZIFY keeps_defuzzify
      ▹ keeps_rule_block ▹ keeps_end_of_block ▹ keeps_expect END
