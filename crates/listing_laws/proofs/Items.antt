-- The tokens of a listing, without their places: what stands between its text and the block that it reads to.
use Rattle.std.specs.Prelude.{if◌then◌else◌}
use mathlib.Core.List.{List, [], ◌∷◌, ◌++◌, map}
use mathlib.Core.Option.{Option, none, some}
use Prim.Native.Nat.{ℕ, ◌+◌}
use Prim.Native.String.{String}
use lib.Dec.{ltb, eqb}
use lib.IntN.{ℤ}
use lib.ListN.{get_or}
use Rattle.model.specs.Basic.{bytes, gather}
use Rattle.model.specs.Bounds.{M}
use Rattle.model.specs.Keywords
use Rattle.model.specs.Tokens.{Token}
use Rattle.model.specs.Block.{Point, Term, Singleton, Input, Range, Output, Op, and, or, Condition, term, neg, two, Conclusion, Rule, Block}
use Rattle.model.specs.declared.InputType.{InputType}
use Rattle.model.specs.declared.InputType.TheVariants.{Real as real, Int as int}
use Rattle.model.specs.Image.{terms}
use Rattle.model.specs.Listing.{TermNames, input_term_name, digits, crisp_text, unit_text, and_text, or_text, act_text, accu_text}
use Rattle.model.specs.Parentheses.{form, bare_behind_not, bare_left, bare_right}

pub record Item : Type 0 where
  pub kind : ℕ
  pub text : List ℕ

abbrev pub item : ℕ → List ℕ → Item
item k w = record { kind = k; text = w }

-- a token without its place
abbrev pub item_of : Token → Item
item_of t = item t.kind t.text

abbrev pub name : List ℕ → Item
name w = item Keywords.NAME w

abbrev pub number : List ℕ → Item
number w = item Keywords.NUMBER w

-- a keyword by its spelling
abbrev pub word : String → Item
word w = item (Keywords.kind_of w) (bytes w)

-- a keyword by its bytes
abbrev pub word_of : List ℕ → Item
word_of w = item (128 + Keywords.keyword_at w) w

abbrev pub opening : Item
opening = item Keywords.OPEN (bytes "(")

abbrev pub closing : Item
closing = item Keywords.CLOSE (bytes ")")

abbrev pub comma : Item
comma = item Keywords.COMMA (bytes ",")

abbrev pub colon : Item
colon = item Keywords.COLON (bytes ":")

abbrev pub semicolon : Item
semicolon = item Keywords.SEMICOLON (bytes ";")

abbrev pub assign : Item
assign = item Keywords.ASSIGN (bytes ":=")

abbrev pub dots : Item
dots = item Keywords.DOTS (bytes "..")

unfoldable pub commas : List (List Item) → List Item
commas [] = []
commas (s ∷ []) = s
commas (s ∷ t ∷ ts) = s ++ (comma ∷ commas (t ∷ ts))

-- CONDITIONS
abbrev pub within : ℕ → ℕ → List Item → List Item
within l k s = if ltb l k then opening ∷ (s ++ (closing ∷ [])) else s

abbrev pub operator : Op → Item
operator and = word "AND"
operator or = word "OR"

abbrev pub negated_items : (ℕ → TermNames) → Condition → List Item → List Item
negated_items f (term t) s = name (f t).variable ∷ word "IS" ∷ word "NOT" ∷ name (f t).term ∷ []
negated_items f (neg c) s = word "NOT" ∷ within bare_behind_not (form (neg c)) s
negated_items f (two o a b) s = word "NOT" ∷ within bare_behind_not (form (two o a b)) s

unfoldable pub condition_items : (ℕ → TermNames) → Condition → List Item
condition_items f (term t) = name (f t).variable ∷ word "IS" ∷ name (f t).term ∷ []
condition_items f (neg c) = negated_items f c (condition_items f c)
condition_items f (two o a b) =
    within (bare_left o) (form a) (condition_items f a)
    ++ (operator o ∷ within (bare_right o) (form b) (condition_items f b))

-- THE PARTS
abbrev pub type_item : InputType → Item
type_item real = word "REAL"
type_item int = word "INT"

abbrev pub input_items : Input → List Item
input_items v = name v.name ∷ colon ∷ type_item v.type ∷ semicolon ∷ []

abbrev pub output_items : Output → List Item
output_items v = name v.name ∷ colon ∷ word "REAL" ∷ semicolon ∷ []

abbrev pub point_items : Point → List Item
point_items p = opening ∷ number (crisp_text p.at) ∷ comma ∷ number (unit_text p.degree) ∷ closing ∷ []

unfoldable pub term_items : Term → List Item
term_items t = word "TERM" ∷ name t.name ∷ assign ∷ (commas (map point_items t.points) ++ (semicolon ∷ []))

unfoldable pub fuzzify_items : Input → List Item
fuzzify_items v = word "FUZZIFY" ∷ name v.name ∷ (gather term_items v.terms ++ (word "END_FUZZIFY" ∷ []))

abbrev pub range_items : Option Range → List Item
range_items none = []
range_items (some g) =
    word "RANGE" ∷ opening ∷ number (crisp_text g.least) ∷ dots ∷ number (crisp_text g.most) ∷ closing ∷ semicolon ∷ []

unfoldable pub singleton_items : Singleton → List Item
singleton_items s = word "TERM" ∷ name s.name ∷ assign ∷ number (crisp_text s.at) ∷ semicolon ∷ []

abbrev pub default_item : Option ℤ → Item
default_item none = word "NC"
default_item (some x) = number (crisp_text x)

unfoldable pub defuzzify_items : Output → List Item
defuzzify_items v =
    word "DEFUZZIFY" ∷ name v.name
    ∷ (range_items v.range
    ++ (gather singleton_items v.terms
    ++ (word "METHOD" ∷ colon ∷ word "CoGS" ∷ semicolon
    ∷ word "DEFAULT" ∷ assign ∷ default_item v.default ∷ semicolon ∷ word "END_DEFUZZIFY" ∷ [])))

unfoldable pub conclusion_items : Block → Conclusion → List Item
conclusion_items b k =
    name (get_or (map (λ v. v.name) b.outputs) k.output [])
    ∷ word "IS" ∷ name (get_or (map (λ t. t.name) (terms b)) k.term []) ∷ []

abbrev pub weight_items : ℕ → List Item
weight_items w = if eqb w M then [] else word "WITH" ∷ number (unit_text w) ∷ []

unfoldable pub rule_items : Block → Rule → List Item
rule_items b r =
    word "RULE" ∷ number (digits r.number) ∷ colon ∷ word "IF"
    ∷ (condition_items (input_term_name b) r.condition
    ++ (word "THEN"
    ∷ (commas (map (conclusion_items b) r.conclusions) ++ (weight_items r.weight ++ (semicolon ∷ [])))))

unfoldable pub rule_block_items : Block → List Item
rule_block_items b =
    word "RULEBLOCK" ∷ name b.rule_block
    ∷ word "AND" ∷ colon ∷ word_of (and_text b.pair) ∷ semicolon
    ∷ word "OR" ∷ colon ∷ word_of (or_text b.pair) ∷ semicolon
    ∷ word "ACT" ∷ colon ∷ word_of (act_text b.act) ∷ semicolon
    ∷ word "ACCU" ∷ colon ∷ word_of (accu_text b.accu) ∷ semicolon
    ∷ (gather (rule_items b) b.rules ++ (word "END_RULEBLOCK" ∷ []))

-- of a whole listing, its end included
unfoldable pub listing_items : Block → List Item
listing_items b =
    word "FUNCTION_BLOCK" ∷ name b.name
    ∷ word "VAR_INPUT" ∷ (gather input_items b.inputs
    ++ (word "END_VAR" ∷ word "VAR_OUTPUT" ∷ (gather output_items b.outputs
    ++ (word "END_VAR" ∷ (gather fuzzify_items b.inputs
    ++ (gather defuzzify_items b.outputs
    ++ (rule_block_items b ++ (word "END_FUNCTION_BLOCK" ∷ item Keywords.END [] ∷ []))))))))
