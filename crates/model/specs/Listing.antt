-- A listing: the text of a block, with the fewest parentheses.
use Rattle.std.specs.Prelude.{true, false, ◌&&◌, List, [], ◌∷◌, ◌++◌, map, ℕ, zero, suc, ◌+◌, ◌/◌, ◌%◌, ltb, eqb, ℤ, pos, negsuc, get_or, if◌then◌else◌}
use Rattle.std.proofs.Math.Option.{Option, none, some}
use Rattle.model.specs.Basic.{bytes, is_empty, gather}
use Rattle.model.specs.Bounds.{M}
use Rattle.model.specs.Block.{Point, Term, Singleton, InputType, real, int, Input, Range, Output, Op, and, or, Condition, term, neg, two, Conclusion, Rule, Pair, min-max, prod-asum, bdif-bsum, Accumulation, by-max, by-bsum, Activation, by-min, by-prod, Block}
use Rattle.model.specs.Image.{terms}
use Rattle.model.specs.Parentheses.{form, bare_behind_not, bare_left, bare_right}

-- one text after the other
infixr 12 ◌⊕◌
abbrev pub ◌⊕◌ : List ℕ → List ℕ → List ℕ
s ⊕ t = s ++ t

-- with a comma and a blank between
unfoldable pub commaed : List (List ℕ) → List ℕ
commaed [] = []
commaed (s ∷ []) = s
commaed (s ∷ t ∷ ts) = s ⊕ bytes ", " ⊕ commaed (t ∷ ts)

-- NUMBERS lose needless zeros and a point with nothing after it
-- the decimal digits of n in front of some others, by at most k steps
unfoldable pub digits_on : ℕ → ℕ → List ℕ → List ℕ
digits_on zero n s = s
digits_on (suc k) n s = elim (ltb n 10) [ true ↦ (48 + n) ∷ s | false ↦ digits_on k (n / 10) ((48 + n % 10) ∷ s) ]

unfoldable pub digits : ℕ → List ℕ
digits n = digits_on (suc n) n []

-- without the zeros at the end
unfoldable pub trimmed : List ℕ → List ℕ
trimmed [] = []
trimmed (c ∷ s) = if eqb c 48 && is_empty (trimmed s) then [] else c ∷ trimmed s

abbrev pub after_point : List ℕ → List ℕ
after_point [] = []
after_point (c ∷ s) = 46 ∷ c ∷ s

-- thousandths
unfoldable pub thousandths_text : ℕ → List ℕ
thousandths_text n =
    digits (n / 1000) ⊕ after_point (trimmed ((48 + n / 100 % 10) ∷ (48 + n / 10 % 10) ∷ (48 + n % 10) ∷ []))

unfoldable pub crisp_text : ℤ → List ℕ
crisp_text (pos n) = thousandths_text n
crisp_text (negsuc n) = bytes "-" ⊕ thousandths_text (suc n)

-- a degree or a weight, from millionths
abbrev pub unit_text : ℕ → List ℕ
unit_text d = thousandths_text (d / 1000)

-- CONDITIONS
-- an input term by its names
pub record TermNames : Type 0 where
  pub variable : List ℕ
  pub term : List ℕ

unfoldable pub input_term_names : Block → List TermNames
input_term_names b = gather (λ v. map (λ t. record { variable = v.name; term = t.name }) v.terms) b.inputs

unfoldable pub input_term_name : Block → ℕ → TermNames
input_term_name b t = get_or (input_term_names b) t (record { variable = []; term = [] })

abbrev pub operator : Op → List ℕ
operator and = bytes " AND "
operator or = bytes " OR "

-- a text of form k where forms up to l stand bare
abbrev pub wrapped : ℕ → ℕ → List ℕ → List ℕ
wrapped l k s = if ltb l k then bytes "(" ⊕ s ⊕ bytes ")" else s

-- the NOT right over a term stands after IS
abbrev pub negated_text : (ℕ → TermNames) → Condition → List ℕ → List ℕ
negated_text f (term t) s = (f t).variable ⊕ bytes " IS NOT " ⊕ (f t).term
negated_text f (neg c) s = bytes "NOT " ⊕ wrapped bare_behind_not (form (neg c)) s
negated_text f (two o a b) s = bytes "NOT " ⊕ wrapped bare_behind_not (form (two o a b)) s

unfoldable pub condition_text : (ℕ → TermNames) → Condition → List ℕ
condition_text f (term t) = (f t).variable ⊕ bytes " IS " ⊕ (f t).term
condition_text f (neg c) = negated_text f c (condition_text f c)
condition_text f (two o a b) =
    wrapped (bare_left o) (form a) (condition_text f a) ⊕ operator o ⊕ wrapped (bare_right o) (form b) (condition_text f b)

-- THE PARTS
abbrev pub type_text : InputType → List ℕ
type_text real = bytes "REAL"
type_text int = bytes "INT"

abbrev pub input_line : Input → List ℕ
input_line v = bytes "  " ⊕ v.name ⊕ bytes " : " ⊕ type_text v.type ⊕ bytes ";\n"

abbrev pub output_line : Output → List ℕ
output_line v = bytes "  " ⊕ v.name ⊕ bytes " : REAL;\n"

abbrev pub point_text : Point → List ℕ
point_text p = bytes "(" ⊕ crisp_text p.at ⊕ bytes ", " ⊕ unit_text p.degree ⊕ bytes ")"

unfoldable pub term_line : Term → List ℕ
term_line t = bytes "  TERM " ⊕ t.name ⊕ bytes " := " ⊕ commaed (map point_text t.points) ⊕ bytes ";\n"

unfoldable pub fuzzify_text : Input → List ℕ
fuzzify_text v = bytes "FUZZIFY " ⊕ v.name ⊕ bytes "\n" ⊕ gather term_line v.terms ⊕ bytes "END_FUZZIFY\n"

abbrev pub range_line : Option Range → List ℕ
range_line none = []
range_line (some g) = bytes "  RANGE(" ⊕ crisp_text g.least ⊕ bytes ".." ⊕ crisp_text g.most ⊕ bytes ");\n"

unfoldable pub singleton_line : Singleton → List ℕ
singleton_line s = bytes "  TERM " ⊕ s.name ⊕ bytes " := " ⊕ crisp_text s.at ⊕ bytes ";\n"

abbrev pub default_text : Option ℤ → List ℕ
default_text none = bytes "NC"
default_text (some x) = crisp_text x

unfoldable pub defuzzify_text : Output → List ℕ
defuzzify_text v =
    bytes "DEFUZZIFY " ⊕ v.name ⊕ bytes "\n" ⊕ range_line v.range ⊕ gather singleton_line v.terms
    ⊕ bytes "  METHOD : CoGS;\n  DEFAULT := " ⊕ default_text v.default ⊕ bytes ";\nEND_DEFUZZIFY\n"

abbrev pub and_text : Pair → List ℕ
and_text min-max = bytes "MIN"
and_text prod-asum = bytes "PROD"
and_text bdif-bsum = bytes "BDIF"

abbrev pub or_text : Pair → List ℕ
or_text min-max = bytes "MAX"
or_text prod-asum = bytes "ASUM"
or_text bdif-bsum = bytes "BSUM"

abbrev pub act_text : Activation → List ℕ
act_text by-min = bytes "MIN"
act_text by-prod = bytes "PROD"

abbrev pub accu_text : Accumulation → List ℕ
accu_text by-max = bytes "MAX"
accu_text by-bsum = bytes "BSUM"

unfoldable pub conclusion_text : Block → Conclusion → List ℕ
conclusion_text b k =
    get_or (map (λ v. v.name) b.outputs) k.output []
    ⊕ bytes " IS " ⊕ get_or (map (λ t. t.name) (terms b)) k.term []

abbrev pub weight_text : ℕ → List ℕ
weight_text w = if eqb w M then [] else bytes " WITH " ⊕ unit_text w

unfoldable pub rule_line : Block → Rule → List ℕ
rule_line b r =
    bytes "  RULE " ⊕ digits r.number ⊕ bytes " : IF " ⊕ condition_text (input_term_name b) r.condition
    ⊕ bytes " THEN " ⊕ commaed (map (conclusion_text b) r.conclusions) ⊕ weight_text r.weight ⊕ bytes ";\n"

unfoldable pub rule_block_text : Block → List ℕ
rule_block_text b =
    bytes "RULEBLOCK " ⊕ b.rule_block
    ⊕ bytes "\n  AND : " ⊕ and_text b.pair ⊕ bytes ";\n  OR : " ⊕ or_text b.pair
    ⊕ bytes ";\n  ACT : " ⊕ act_text b.act ⊕ bytes ";\n  ACCU : " ⊕ accu_text b.accu ⊕ bytes ";\n"
    ⊕ gather (rule_line b) b.rules ⊕ bytes "END_RULEBLOCK\n"

unfoldable pub listing : Block → List ℕ
listing b =
    bytes "FUNCTION_BLOCK " ⊕ b.name
    ⊕ bytes "\nVAR_INPUT\n" ⊕ gather input_line b.inputs
    ⊕ bytes "END_VAR\nVAR_OUTPUT\n" ⊕ gather output_line b.outputs ⊕ bytes "END_VAR\n"
    ⊕ gather fuzzify_text b.inputs ⊕ gather defuzzify_text b.outputs
    ⊕ rule_block_text b ⊕ bytes "END_FUNCTION_BLOCK\n"
