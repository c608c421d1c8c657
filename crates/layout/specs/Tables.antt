-- A helper: the rows of each table, and what the words of an image must satisfy to be those of the block that they
-- stand for. `layout/proofs/Bytes.same_image` ties all of it to model's `image` and `decode`.
use Rattle.std.specs.Prelude.{Bool, not, List, [], ◌∷◌, ◌++◌, ℕ, zero, suc, ◌+◌, ◌*◌, leb, eqb, length, take}
use Rattle.model.specs.Basic.{every, all, run, same, tab}
use Rattle.model.specs.Bounds.{M}
use Rattle.model.specs.Block.{Point, Term, Input, Output, Rule, size}
use Rattle.model.specs.Image.{layout_word, name_words, name_at, type_word, range_words, default_words, point_words, postfix, singleton_term, point_at, term_at, singleton_at, input_at, output_at, rule_at, header_size, input_width, output_width, term_width, point_width, rule_width, conclusion_width, LAYOUT, TOTAL, INPUTS, OUTPUTS, TERMS, POINTS, RULES, WORDS, CONCLUSIONS, INPUT_TABLE, OUTPUT_TABLE, TERM_TABLE, POINT_TABLE, RULE_TABLE, WORD_TABLE, CONCLUSION_TABLE, PAIR_WORD, ACCU_WORD, ACT_WORD, SPARE, BLOCK_NAME, RULE_BLOCK_NAME, input_place, output_place, term_place, rule_place, word_place}
use Rattle.layout.specs.Rows.{rows_ok}

-- ROWS, n being the first term, point or word of the next one
abbrev pub input_row : ℕ → Input → List ℕ
input_row n v = name_words v.name ++ (type_word v.type ∷ n ∷ length v.terms ∷ [])

abbrev pub input_next : ℕ → Input → ℕ
input_next n v = n + length v.terms

abbrev pub output_row : ℕ → Output → List ℕ
output_row n v = name_words v.name ++ (n ∷ length v.terms ∷ (range_words v.range ++ default_words v.default))

abbrev pub output_next : ℕ → Output → ℕ
output_next n v = n + length v.terms

abbrev pub term_row : ℕ → Term → List ℕ
term_row n t = name_words t.name ++ (n ∷ length t.points ∷ [])

abbrev pub term_next : ℕ → Term → ℕ
term_next n t = n + length t.points

abbrev pub rule_row : ℕ × ℕ → Rule → List ℕ
rule_row σ r = r.number ∷ σ.0 ∷ size r.condition ∷ σ.1 ∷ length r.conclusions ∷ r.weight ∷ []

abbrev pub rule_next : ℕ × ℕ → Rule → ℕ × ℕ
rule_next σ r = (σ.0 + size r.condition, σ.1 + length r.conclusions)

-- rows that hold no first
abbrev pub alone : {R : Type 0} → (R → List ℕ) → Unit {0} → R → List ℕ
alone f σ r = f r

abbrev pub onward : {R : Type 0} → Unit {0} → R → Unit {0}
onward σ r = σ

-- the sum of k counts from the i-th on
unfoldable pub sums : (ℕ → ℕ) → ℕ → ℕ → ℕ
sums c zero i = 0
sums c (suc k) i = c i + sums c k (suc i)

-- an output's term as the table has it: one point, of degree M
abbrev pub output_term_at : (ℕ → ℕ) → ℕ → Term
output_term_at w i = singleton_term (singleton_at w i)

abbrev pub output_point_at : (ℕ → ℕ) → ℕ → Point
output_point_at w i = record { at = (point_at w i).at; degree = M }

-- COUNTS of a row's terms, points, condition words and conclusions
abbrev pub input_count : (ℕ → ℕ) → ℕ → ℕ
input_count w i = w (input_place w i + 6)

abbrev pub output_count : (ℕ → ℕ) → ℕ → ℕ
output_count w i = w (output_place w i + 5)

-- the first term of output i
abbrev pub output_first_at : (ℕ → ℕ) → ℕ → ℕ
output_first_at w i = w (output_place w i + 4)

abbrev pub term_count : (ℕ → ℕ) → ℕ → ℕ
term_count w i = w (term_place w i + 5)

abbrev pub word_count : (ℕ → ℕ) → ℕ → ℕ
word_count w i = w (rule_place w i + 2)

abbrev pub conclusion_count : (ℕ → ℕ) → ℕ → ℕ
conclusion_count w i = w (rule_place w i + 4)

-- input terms, output terms, points of input terms
abbrev pub input_terms_in : (ℕ → ℕ) → ℕ
input_terms_in w = sums (input_count w) (w INPUTS) 0

abbrev pub output_terms_in : (ℕ → ℕ) → ℕ
output_terms_in w = sums (output_count w) (w OUTPUTS) 0

abbrev pub input_points_in : (ℕ → ℕ) → ℕ
input_points_in w = sums (term_count w) (input_terms_in w) 0

abbrev pub words_in : (ℕ → ℕ) → ℕ
words_in w = sums (word_count w) (w RULES) 0

abbrev pub conclusions_in : (ℕ → ℕ) → ℕ
conclusions_in w = sums (conclusion_count w) (w RULES) 0

-- TABLES
unfoldable pub input_rows : (ℕ → ℕ) → Bool
input_rows w = rows_ok input_row input_next (input_at w) w (w INPUT_TABLE) input_width (w INPUTS) 0 0

unfoldable pub output_rows : (ℕ → ℕ) → Bool
output_rows w = rows_ok output_row output_next (output_at w) w (w OUTPUT_TABLE) output_width (w OUTPUTS) 0 (input_terms_in w)

unfoldable pub input_term_rows : (ℕ → ℕ) → Bool
input_term_rows w = rows_ok term_row term_next (term_at w) w (w TERM_TABLE) term_width (input_terms_in w) 0 0

unfoldable pub output_term_rows : (ℕ → ℕ) → Bool
output_term_rows w =
    rows_ok term_row term_next (output_term_at w) w (w TERM_TABLE) term_width (output_terms_in w) (input_terms_in w)
    (input_points_in w)

unfoldable pub output_point_rows : (ℕ → ℕ) → Bool
output_point_rows w =
    rows_ok (alone point_words) onward (output_point_at w) w (w POINT_TABLE) point_width (output_terms_in w) (input_points_in w) tt

unfoldable pub rule_rows : (ℕ → ℕ) → Bool
rule_rows w = rows_ok rule_row rule_next (rule_at w) w (w RULE_TABLE) rule_width (w RULES) 0 (0, 0)

-- a rule's condition words are the postfix of the tree that they stand for
unfoldable pub condition_exact : (ℕ → ℕ) → ℕ → Bool
condition_exact w i =
    same (tab (λ k. w (word_place w k)) (word_count w i) (w (rule_place w i + 1))) (postfix (rule_at w i).condition)

unfoldable pub condition_rows : (ℕ → ℕ) → Bool
condition_rows w = all (condition_exact w) (tab (λ i. i) (w RULES) 0)

-- THE HEADER
-- the bytes before the first zero
abbrev pub front : List ℕ → List ℕ
front s = take (run (λ c. not (eqb c 0)) s) s

-- a name's four words, zero padded
unfoldable pub name_exact : (ℕ → ℕ) → ℕ → Bool
name_exact w o = same (tab w 4 o) (name_words (name_at w o))

-- layout, offsets without gaps, total, pair, ACCU, ACT, the spare word, the two names
unfoldable pub header_ok : (ℕ → ℕ) → Bool
header_ok w = every (
    eqb (w LAYOUT) (layout_word (w RULES) (w WORDS) (w CONCLUSIONS))
    ∷ eqb (w INPUT_TABLE) header_size
    ∷ eqb (w OUTPUT_TABLE) (w INPUT_TABLE + w INPUTS * input_width)
    ∷ eqb (w TERM_TABLE) (w OUTPUT_TABLE + w OUTPUTS * output_width)
    ∷ eqb (w POINT_TABLE) (w TERM_TABLE + w TERMS * term_width)
    ∷ eqb (w RULE_TABLE) (w POINT_TABLE + w POINTS * point_width)
    ∷ eqb (w WORD_TABLE) (w RULE_TABLE + w RULES * rule_width)
    ∷ eqb (w CONCLUSION_TABLE) (w WORD_TABLE + w WORDS)
    ∷ eqb (w TOTAL) (w CONCLUSION_TABLE + w CONCLUSIONS * conclusion_width)
    ∷ leb (w PAIR_WORD) 2
    ∷ leb (w ACCU_WORD) 1
    ∷ leb (w ACT_WORD) 1
    ∷ eqb (w SPARE) 0
    ∷ name_exact w BLOCK_NAME
    ∷ name_exact w RULE_BLOCK_NAME
    ∷ [])
