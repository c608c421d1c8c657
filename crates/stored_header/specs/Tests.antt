-- A helper: what is tested of a name and of the header. `name_tests` of proofs/Names ties the one to `name_exact`,
-- `header_spelt` of proofs/Lists the other to `header_ok`.
use Rattle.std.specs.Prelude.{Bool, List, [], ◌∷◌, ℕ, ◌+◌, ◌*◌, leb, eqb, if◌then◌else◌}
use Rattle.model.specs.Image.{layout_word, input_width, output_width, term_width, point_width, rule_width, word_width, conclusion_width, header_size, LAYOUT, TOTAL, PAIR_WORD, ACCU_WORD, ACT_WORD, SPARE, BLOCK_NAME, RULE_BLOCK_NAME}
use Rattle.header.specs.declared.Header.{Header}
use Rattle.layout.specs.Tables.{name_exact}

-- one byte of a name: 0 before the first zero, 1 in the padding, 2 once another byte stood there
unfoldable pub pad_step : ℕ → ℕ → ℕ
pad_step m c = if eqb c 0 then if eqb m 0 then 1 else m else if eqb m 0 then 0 else 2

unfoldable pub pad_run : ℕ → List ℕ → ℕ
pad_run m [] = m
pad_run m (c ∷ l) = pad_run (pad_step m c) l

-- the header's offsets, each with the one before it and a table's size, and its codes and names
abbrev pub offset_tests : (ℕ → ℕ) → Header → List Bool
offset_tests w h =
    eqb (w LAYOUT) (layout_word h.rules.rows h.words.rows h.conclusions.rows)
    ∷ eqb h.inputs.start header_size
    ∷ eqb h.outputs.start (h.inputs.start + h.inputs.rows * input_width)
    ∷ eqb h.terms.start (h.outputs.start + h.outputs.rows * output_width)
    ∷ eqb h.points.start (h.terms.start + h.terms.rows * term_width)
    ∷ eqb h.rules.start (h.points.start + h.points.rows * point_width)
    ∷ eqb h.words.start (h.rules.start + h.rules.rows * rule_width)
    ∷ eqb h.conclusions.start (h.words.start + h.words.rows * word_width)
    ∷ eqb (w TOTAL) (h.conclusions.start + h.conclusions.rows * conclusion_width)
    ∷ []

abbrev pub code_tests : (ℕ → ℕ) → List Bool
code_tests w =
    leb (w PAIR_WORD) 2
    ∷ leb (w ACCU_WORD) 1
    ∷ leb (w ACT_WORD) 1
    ∷ eqb (w SPARE) 0
    ∷ name_exact w BLOCK_NAME
    ∷ name_exact w RULE_BLOCK_NAME
    ∷ []
