-- Image: the words of a block and their bytes; the block that words stand for; which bytes the load check accepts.
use Rattle.std.specs.Prelude.{Bool, ◌&&◌, not, List, [], ◌∷◌, ◌++◌, map, ℕ, suc, ◌+◌, ◌*◌, ◌-◌, ◌/◌, ◌%◌, leb, ltb, eqb, ℤ, pos, negsuc, length, take, get_or, if◌then◌else◌}
use Rattle.std.proofs.Math.Option.{Option, none, some}
use Rattle.model.specs.Basic.{gather, tab, run, same}
use Rattle.model.specs.Bounds.{M}
use Rattle.model.specs.Block.{Point, Term, Singleton, InputType, real, int, Input, Range, Output, Op, and, or, Condition, term, neg, two, Conclusion, Rule, Pair, min-max, prod-asum, bdif-bsum, Accumulation, by-max, by-bsum, Activation, by-min, by-prod, Block, input_terms, output_terms, output_first, conclusions, size, word_total}
use Rattle.model.specs.Outcome.{Outcome, accepted, refused}
use Rattle.model.specs.WellFormed.{well_formed}

-- WORDS AND BYTES, little-endian
abbrev pub word_bytes : ℕ → List ℕ
word_bytes w = w % 256 ∷ w / 256 % 256 ∷ w / 65536 % 256 ∷ w / 16777216 ∷ []

unfoldable pub bytes_of : List ℕ → List ℕ
bytes_of ws = gather word_bytes ws

-- the i-th word of some bytes; a byte past the end counts as 0
unfoldable pub word_at : List ℕ → ℕ → ℕ
word_at s i =
    get_or s (i * 4) 0 + get_or s (i * 4 + 1) 0 * 256 + get_or s (i * 4 + 2) 0 * 65536 + get_or s (i * 4 + 3) 0 * 16777216

-- two's complement
abbrev pub crisp_word : ℤ → ℕ
crisp_word (pos n) = n
crisp_word (negsuc n) = 4294967295 - n

unfoldable pub crisp_of : ℕ → ℤ
crisp_of w = if ltb w 2147483648 then pos w else negsuc (4294967295 - w)

-- 16 bytes, zero padded
unfoldable pub name_words : List ℕ → List ℕ
name_words w = word_at w 0 ∷ word_at w 1 ∷ word_at w 2 ∷ word_at w 3 ∷ []

-- THE WORDS OF A BLOCK
-- of how many rules, condition words and conclusions there are
abbrev pub layout_word : ℕ → ℕ → ℕ → ℕ
layout_word rules words conclusions = 1

abbrev pub pair_word : Pair → ℕ
pair_word min-max = 0
pair_word prod-asum = 1
pair_word bdif-bsum = 2

abbrev pub accu_word : Accumulation → ℕ
accu_word by-max = 0
accu_word by-bsum = 1

abbrev pub act_word : Activation → ℕ
act_word by-min = 0
act_word by-prod = 1

abbrev pub type_word : InputType → ℕ
type_word real = 0
type_word int = 1

-- a singleton is a term of one point, of degree M
abbrev pub singleton_term : Singleton → Term
singleton_term s = record { name = s.name; points = record { at = s.at; degree = M } ∷ [] }

abbrev pub terms : Block → List Term
terms b = input_terms b ++ map singleton_term (output_terms b)

abbrev pub points : Block → List Point
points b = gather (λ t. t.points) (terms b)

abbrev pub op_word : Op → ℕ
op_word and = 1
op_word or = 2

-- the condition words beside those of the operators: NOT, and the first input term
abbrev pub NOT_WORD : ℕ
NOT_WORD = 0

abbrev pub TERM_WORD : ℕ
TERM_WORD = 16

unfoldable pub postfix : Condition → List ℕ
postfix (term t) = (TERM_WORD + t) ∷ []
postfix (neg c) = postfix c ++ (NOT_WORD ∷ [])
postfix (two o a b) = postfix a ++ (postfix b ++ (op_word o ∷ []))

-- n is the first term of the next variable
unfoldable pub input_table : ℕ → List Input → List ℕ
input_table n [] = []
input_table n (v ∷ vs) =
    name_words v.name ++ (type_word v.type ∷ n ∷ length v.terms ∷ input_table (n + length v.terms) vs)

-- flag, min, max
abbrev pub range_words : Option Range → List ℕ
range_words none = 0 ∷ 0 ∷ 0 ∷ []
range_words (some g) = 1 ∷ crisp_word g.least ∷ crisp_word g.most ∷ []

-- kind, value
abbrev pub default_words : Option ℤ → List ℕ
default_words none = 0 ∷ 0 ∷ []
default_words (some x) = 1 ∷ crisp_word x ∷ []

-- the rows of b's outputs from the i-th on
unfoldable pub output_table : Block → ℕ → List Output → List ℕ
output_table b i [] = []
output_table b i (v ∷ vs) =
    name_words v.name
    ++ (output_first i b ∷ length v.terms
    ∷ (range_words v.range ++ (default_words v.default ++ output_table b (suc i) vs)))

-- n is the first point of the next term
unfoldable pub term_table : ℕ → List Term → List ℕ
term_table n [] = []
term_table n (t ∷ ts) = name_words t.name ++ (n ∷ length t.points ∷ term_table (n + length t.points) ts)

abbrev pub point_words : Point → List ℕ
point_words p = crisp_word p.at ∷ p.degree ∷ []

-- n is the first condition word of the next rule, m its first conclusion
unfoldable pub rule_table : ℕ → ℕ → List Rule → List ℕ
rule_table n m [] = []
rule_table n m (r ∷ rs) =
    r.number ∷ n ∷ size r.condition ∷ m ∷ length r.conclusions ∷ r.weight
    ∷ rule_table (n + size r.condition) (m + length r.conclusions) rs

abbrev pub conclusion_words : Conclusion → List ℕ
conclusion_words k = k.output ∷ k.term ∷ []

-- inputs, outputs, terms, points, rules, condition words, conclusions: how many, and how many words an entry has
abbrev pub counts : Block → List ℕ
counts b =
    length b.inputs ∷ length b.outputs ∷ length (terms b) ∷ length (points b)
    ∷ length b.rules ∷ word_total b ∷ length (conclusions b) ∷ []

abbrev pub input_width : ℕ
input_width = 7

abbrev pub output_width : ℕ
output_width = 11

abbrev pub term_width : ℕ
term_width = 6

abbrev pub point_width : ℕ
point_width = 2

abbrev pub rule_width : ℕ
rule_width = 6

abbrev pub word_width : ℕ
word_width = 1

abbrev pub conclusion_width : ℕ
conclusion_width = 2

abbrev pub widths : List ℕ
widths = input_width ∷ output_width ∷ term_width ∷ point_width ∷ rule_width ∷ word_width ∷ conclusion_width ∷ []

-- where each table starts, from o on without gaps, and where the last one ends
unfoldable pub offsets : ℕ → List ℕ → List ℕ → List ℕ
offsets o [] ws = []
offsets o (n ∷ ns) [] = []
offsets o (n ∷ ns) (w ∷ ws) = o ∷ offsets (o + n * w) ns ws

unfoldable pub end_of : ℕ → List ℕ → List ℕ → ℕ
end_of o [] ws = o
end_of o (n ∷ ns) [] = o
end_of o (n ∷ ns) (w ∷ ws) = end_of (o + n * w) ns ws

abbrev pub header_size : ℕ
header_size = 28

unfoldable pub header : Block → List ℕ
header b =
    layout_word (length b.rules) (word_total b) (length (conclusions b)) ∷ end_of header_size (counts b) widths
    ∷ (counts b ++ (offsets header_size (counts b) widths
    ++ (pair_word b.pair ∷ accu_word b.accu ∷ act_word b.act ∷ 0
    ∷ (name_words b.name ++ name_words b.rule_block))))

unfoldable pub words : Block → List ℕ
words b =
    header b
    ++ (input_table 0 b.inputs
    ++ (output_table b 0 b.outputs
    ++ (term_table 0 (terms b)
    ++ (gather point_words (points b)
    ++ (rule_table 0 0 b.rules
    ++ (gather (λ r. postfix r.condition) b.rules
    ++ gather conclusion_words (conclusions b)))))))

unfoldable pub image : Block → List ℕ
image b = bytes_of (words b)

-- THE BLOCK THAT WORDS STAND FOR, w giving the word at each place
-- which word of the header holds what: layout and total, the counts, the offsets of the tables, the algorithms, a spare
-- word, the two names
abbrev pub LAYOUT : ℕ
LAYOUT = 0

abbrev pub TOTAL : ℕ
TOTAL = 1

abbrev pub INPUTS : ℕ
INPUTS = 2

abbrev pub OUTPUTS : ℕ
OUTPUTS = 3

abbrev pub TERMS : ℕ
TERMS = 4

abbrev pub POINTS : ℕ
POINTS = 5

abbrev pub RULES : ℕ
RULES = 6

abbrev pub WORDS : ℕ
WORDS = 7

abbrev pub CONCLUSIONS : ℕ
CONCLUSIONS = 8

abbrev pub INPUT_TABLE : ℕ
INPUT_TABLE = 9

abbrev pub OUTPUT_TABLE : ℕ
OUTPUT_TABLE = 10

abbrev pub TERM_TABLE : ℕ
TERM_TABLE = 11

abbrev pub POINT_TABLE : ℕ
POINT_TABLE = 12

abbrev pub RULE_TABLE : ℕ
RULE_TABLE = 13

abbrev pub WORD_TABLE : ℕ
WORD_TABLE = 14

abbrev pub CONCLUSION_TABLE : ℕ
CONCLUSION_TABLE = 15

abbrev pub PAIR_WORD : ℕ
PAIR_WORD = 16

abbrev pub ACCU_WORD : ℕ
ACCU_WORD = 17

abbrev pub ACT_WORD : ℕ
ACT_WORD = 18

abbrev pub SPARE : ℕ
SPARE = 19

abbrev pub BLOCK_NAME : ℕ
BLOCK_NAME = 20

abbrev pub RULE_BLOCK_NAME : ℕ
RULE_BLOCK_NAME = 24

-- where row i of each table starts
abbrev pub input_place : (ℕ → ℕ) → ℕ → ℕ
input_place w i = w INPUT_TABLE + i * input_width

abbrev pub output_place : (ℕ → ℕ) → ℕ → ℕ
output_place w i = w OUTPUT_TABLE + i * output_width

abbrev pub term_place : (ℕ → ℕ) → ℕ → ℕ
term_place w i = w TERM_TABLE + i * term_width

abbrev pub point_place : (ℕ → ℕ) → ℕ → ℕ
point_place w i = w POINT_TABLE + i * point_width

abbrev pub rule_place : (ℕ → ℕ) → ℕ → ℕ
rule_place w i = w RULE_TABLE + i * rule_width

abbrev pub word_place : (ℕ → ℕ) → ℕ → ℕ
word_place w i = w WORD_TABLE + i

abbrev pub conclusion_place : (ℕ → ℕ) → ℕ → ℕ
conclusion_place w i = w CONCLUSION_TABLE + i * conclusion_width

-- the bytes before the first zero
unfoldable pub name_at : (ℕ → ℕ) → ℕ → List ℕ
name_at w o =
    let s : List ℕ = bytes_of (tab w 4 o) in
    take (run (λ c. not (eqb c 0)) s) s

unfoldable pub point_at : (ℕ → ℕ) → ℕ → Point
point_at w i = record { at = crisp_of (w (point_place w i)); degree = w (point_place w i + 1) }

unfoldable pub term_at : (ℕ → ℕ) → ℕ → Term
term_at w i =
    let o : ℕ = term_place w i in
    record { name = name_at w o; points = tab (point_at w) (w (o + 5)) (w (o + 4)) }

unfoldable pub singleton_at : (ℕ → ℕ) → ℕ → Singleton
singleton_at w i =
    let o : ℕ = term_place w i in
    record { name = name_at w o; at = (point_at w (w (o + 4))).at }

unfoldable pub input_at : (ℕ → ℕ) → ℕ → Input
input_at w i =
    let o : ℕ = input_place w i in
    record {
      name = name_at w o;
      type = if eqb (w (o + 4)) 0 then real else int;
      terms = tab (term_at w) (w (o + 6)) (w (o + 5));
    }

unfoldable pub output_at : (ℕ → ℕ) → ℕ → Output
output_at w i =
    let o : ℕ = output_place w i in
    record {
      name = name_at w o;
      terms = tab (singleton_at w) (w (o + 5)) (w (o + 4));
      range =
          if eqb (w (o + 6)) 0 then none
          else some (record { least = crisp_of (w (o + 7)); most = crisp_of (w (o + 8)) });
      default = if eqb (w (o + 9)) 0 then none else some (crisp_of (w (o + 10)));
    }

-- the trees that postfix words leave, the last on top
abbrev pub negate_top : List Condition → List Condition
negate_top [] = []
negate_top (c ∷ st) = neg c ∷ st

abbrev pub join_top : Op → List Condition → List Condition
join_top o [] = []
join_top o (b ∷ []) = []
join_top o (b ∷ a ∷ st) = two o a b ∷ st

unfoldable pub grown : ℕ → List Condition → List Condition
grown w st =
    if leb TERM_WORD w then term (w - TERM_WORD) ∷ st else
    if eqb w NOT_WORD then negate_top st else
    if eqb w (op_word and) then join_top and st else
    if eqb w (op_word or) then join_top or st else []

unfoldable pub trees : List ℕ → List Condition → List Condition
trees [] st = st
trees (w ∷ ws) st = trees ws (grown w st)

unfoldable pub tree_of : List ℕ → Condition
tree_of ws = get_or (trees ws []) 0 (term 0)

unfoldable pub conclusion_at : (ℕ → ℕ) → ℕ → Conclusion
conclusion_at w i = record { output = w (conclusion_place w i); term = w (conclusion_place w i + 1) }

unfoldable pub rule_at : (ℕ → ℕ) → ℕ → Rule
rule_at w i =
    let o : ℕ = rule_place w i in
    record {
      number = w o;
      condition = tree_of (tab (λ k. w (word_place w k)) (w (o + 2)) (w (o + 1)));
      conclusions = tab (conclusion_at w) (w (o + 4)) (w (o + 3));
      weight = w (o + 5);
    }

abbrev pub pair_of : ℕ → Pair
pair_of w = if eqb w 0 then min-max else if eqb w 1 then prod-asum else bdif-bsum

abbrev pub accu_of : ℕ → Accumulation
accu_of w = if eqb w 0 then by-max else by-bsum

abbrev pub act_of : ℕ → Activation
act_of w = if eqb w 0 then by-min else by-prod

unfoldable pub decode : (ℕ → ℕ) → Block
decode w = record {
  name = name_at w BLOCK_NAME;
  inputs = tab (input_at w) (w INPUTS) 0;
  outputs = tab (output_at w) (w OUTPUTS) 0;
  rule_block = name_at w RULE_BLOCK_NAME;
  pair = pair_of (w PAIR_WORD);
  act = act_of (w ACT_WORD);
  accu = accu_of (w ACCU_WORD);
  rules = tab (rule_at w) (w RULES) 0;
}

-- THE LOAD CHECK: the bytes are the image of the well-formed block that they stand for
unfoldable pub is_image_of : List ℕ → Block → Bool
is_image_of img b = well_formed b && same img (image b)

-- `image_laws/proofs/Loads.loads_iff`: accepted as b exactly where b is well formed and the bytes are its image
unfoldable pub loads : List ℕ → Outcome Block
loads img = if is_image_of img (decode (word_at img)) then accepted (decode (word_at img)) else refused 11 none
