-- A helper: the header as the code holds it. Each field is the word of the image that model's Image names; `header_of`
-- ensures it. The load check finds that an image holds its tables; from then on a word is one load.
use Rattle.std.specs.Prelude.{◌≡◌, List, ℕ, ◌+◌, ◌*◌, ◌≤◌, length}
use Rattle.model.specs.Image.{header_size, input_width, output_width, term_width, point_width, rule_width, conclusion_width, INPUTS, OUTPUTS, TERMS, POINTS, RULES, WORDS, CONCLUSIONS, INPUT_TABLE, OUTPUT_TABLE, TERM_TABLE, POINT_TABLE, RULE_TABLE, WORD_TABLE, CONCLUSION_TABLE}
use Rattle.header.specs.declared.Table.{Table}
use Rattle.header.specs.declared.Header.{Header}

-- the table whose number of rows and whose start are these two of words w
pub record IsTable {WIDTH : ℕ} (w : ℕ → ℕ) (n o : ℕ) (t : Table WIDTH) : Type 0 where
  pub rows : t.rows ≡ w n
  pub start : t.start ≡ w o

-- the tables of words w, each of which fits in 32 bits
pub record Heads (w : ℕ → ℕ) (h : Header) : Type 0 where
  pub fits : (i : ℕ) → w i ≤ 4294967295
  pub inputs : IsTable w INPUTS INPUT_TABLE h.inputs
  pub outputs : IsTable w OUTPUTS OUTPUT_TABLE h.outputs
  pub terms : IsTable w TERMS TERM_TABLE h.terms
  pub points : IsTable w POINTS POINT_TABLE h.points
  pub rules : IsTable w RULES RULE_TABLE h.rules
  pub words : IsTable w WORDS WORD_TABLE h.words
  pub conclusions : IsTable w CONCLUSIONS CONCLUSION_TABLE h.conclusions

-- bytes that go as far as the end of the header and of every table that it names
pub record Covers (bytes : List ℕ) (h : Header) : Type 0 where
  pub head : header_size * 4 ≤ length bytes
  pub inputs : (h.inputs.start + h.inputs.rows * input_width) * 4 ≤ length bytes
  pub outputs : (h.outputs.start + h.outputs.rows * output_width) * 4 ≤ length bytes
  pub terms : (h.terms.start + h.terms.rows * term_width) * 4 ≤ length bytes
  pub points : (h.points.start + h.points.rows * point_width) * 4 ≤ length bytes
  pub rules : (h.rules.start + h.rules.rows * rule_width) * 4 ≤ length bytes
  pub words : (h.words.start + h.words.rows) * 4 ≤ length bytes
  pub conclusions : (h.conclusions.start + h.conclusions.rows * conclusion_width) * 4 ≤ length bytes
