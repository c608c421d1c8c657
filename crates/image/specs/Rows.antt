-- A helper: the words of the tables before the rules, of the rule table and of the header from the arrays that a text is
-- read into. `words_are` of proofs/Whole ties them to the model's `words`.
use Rattle.std.specs.Prelude.{ℕ, ◌+◌, ◌*◌, ◌%◌, ◌^◌, ◌≤◌, List, [], ◌∷◌, ◌++◌, length, slice_index}
use Rattle.model.specs.Bounds.{input_limit, output_limit, point_limit, rule_limit, word_limit, conclusion_limit, all_term_limit}
use Rattle.model.specs.Image.{layout_word, pair_word, accu_word, act_word, input_width, output_width, term_width, point_width, end_of, offsets, header_size, widths}
use Rattle.block_tables.specs.declared.Heading.{Heading}
use Rattle.block_tables.specs.declared.Tables.{Tables}
use Rattle.block_tables.specs.declared.Totals.{Totals}
use Rattle.block_tables.specs.Stored.{kept_width}
use Rattle.variable_rows.specs.Rows.{rows, input_rows, output_rows}
use Rattle.term_rows.specs.Rows.{held_in, term_rows, singleton_rows, point_rows, singleton_points}
use Rattle.image.specs.declared.Counts.{Counts}

-- VARIABLES, terms and points: the tables one after the other, and how many words they are. own, others: the places of the
-- terms of inputs and of outputs
unfoldable pub variable_rows : List ℕ → Tables → List ℕ → List ℕ → List ℕ
variable_rows s t own others =
    input_rows s t.inputs t.input_count
    ++ (output_rows s t.outputs t.output_count (length own)
    ++ (term_rows s t.input_terms own (length own)
    ++ (singleton_rows s t.output_terms others (length others) (held_in t.input_terms own (length own))
    ++ (point_rows t.input_terms own (length own)
    ++ singleton_points t.output_terms others (length others)))))

abbrev pub variable_words : Tables → List ℕ → List ℕ → ℕ
variable_words t own others =
    t.input_count * input_width + t.output_count * output_width + (length own + length others) * term_width
    + (held_in t.input_terms own (length own) + length others) * point_width

-- RULES: the first condition word and the first conclusion of the next one, in 32 bits
unfoldable pub rule_words : List ℕ → ℕ × ℕ → ℕ → List ℕ
rule_words rules σ k =
    let o : ℕ = k * kept_width in
    slice_index rules o ∷ σ.0 ∷ slice_index rules (o + 1) ∷ σ.1 ∷ slice_index rules (o + 2) ∷ slice_index rules (o + 3) ∷ []

abbrev pub rule_next : List ℕ → ℕ × ℕ → ℕ → ℕ × ℕ
rule_next rules σ k =
    let o : ℕ = k * kept_width in
    ((σ.0 + slice_index rules (o + 1)) % 2 ^ 32, (σ.1 + slice_index rules (o + 2)) % 2 ^ 32)

unfoldable pub rule_rows : List ℕ → ℕ → List ℕ
rule_rows rules k = rows (rule_words rules) (rule_next rules) k 0 (0, 0)

-- THE HEADER before the names
abbrev pub count_list : Counts → List ℕ
count_list c = c.inputs ∷ c.outputs ∷ c.terms ∷ c.points ∷ c.rules ∷ c.words ∷ c.conclusions ∷ []

abbrev pub entries_of : ℕ → ℕ → ℕ → ℕ → Totals → Counts
entries_of inputs outputs terms points n = record {
  inputs = inputs;
  outputs = outputs;
  terms = terms;
  points = points;
  rules = n.rules;
  words = n.words;
  conclusions = n.conclusions;
}

-- within the limits
pub record Bounded (c : Counts) : Type 0 where
  pub inputs : c.inputs ≤ input_limit
  pub outputs : c.outputs ≤ output_limit
  pub terms : c.terms ≤ all_term_limit
  pub points : c.points ≤ all_term_limit * point_limit
  pub rules : c.rules ≤ rule_limit
  pub words : c.words ≤ word_limit
  pub conclusions : c.conclusions ≤ conclusion_limit

unfoldable pub head_words : Counts → Heading → List ℕ
head_words c h =
    layout_word c.rules c.words c.conclusions ∷ end_of header_size (count_list c) widths
    ∷ (count_list c ++ (offsets header_size (count_list c) widths ++ (pair_word h.pair ∷ accu_word h.accu ∷ act_word h.act ∷ 0 ∷ [])))
