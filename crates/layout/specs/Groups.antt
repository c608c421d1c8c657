-- A helper: what the load check tests, in the three groups in which the code goes about it.
-- `layout/proofs/Groups.groups` ties them, with the length, to model's `is_image_of`.
use Rattle.std.specs.Prelude.{Bool, true, ◌≡◌, [], ◌∷◌, ◌++◌, map, ℕ, ◌+◌, leb, eqb, length}
use Rattle.model.specs.Basic.{between, every, all, distinct, total}
use Rattle.model.specs.Bounds.{input_limit, output_limit, rule_limit, word_limit, conclusion_limit}
use Rattle.model.specs.Tokens.{is_name, same_name}
use Rattle.model.specs.Block.{conclusions, size}
use Rattle.model.specs.WellFormed.{input_ok, output_ok, rule_ok}
use Rattle.model.specs.Image.{decode, TERMS, POINTS, WORDS, CONCLUSIONS}
use Rattle.layout.specs.Tables.{input_terms_in, output_terms_in, input_points_in, words_in, conclusions_in, input_rows, output_rows, input_term_rows, output_term_rows, output_point_rows, rule_rows, condition_rows, header_ok}

-- the header and the tables of variables, terms and points are laid out as a block's
unfoldable pub tables_ok : (ℕ → ℕ) → Bool
tables_ok w = every (
    header_ok w
    ∷ input_rows w
    ∷ output_rows w
    ∷ input_term_rows w
    ∷ output_term_rows w
    ∷ output_point_rows w
    ∷ eqb (w TERMS) (input_terms_in w + output_terms_in w)
    ∷ eqb (w POINTS) (input_points_in w + output_terms_in w)
    ∷ [])

-- names, counts, terms and points of the variables
unfoldable pub variables_ok : (ℕ → ℕ) → Bool
variables_ok w = every (
    is_name (decode w).name
    ∷ is_name (decode w).rule_block
    ∷ between 1 input_limit (length (decode w).inputs)
    ∷ between 1 output_limit (length (decode w).outputs)
    ∷ all input_ok (decode w).inputs
    ∷ all output_ok (decode w).outputs
    ∷ distinct same_name (map (λ v. v.name) (decode w).inputs ++ map (λ v. v.name) (decode w).outputs)
    ∷ [])

-- the tables of rules, condition words and conclusions, and the rules themselves
unfoldable pub rules_ok : (ℕ → ℕ) → Bool
rules_ok w = every (
    rule_rows w
    ∷ condition_rows w
    ∷ eqb (w WORDS) (words_in w)
    ∷ eqb (w CONCLUSIONS) (conclusions_in w)
    ∷ between 1 rule_limit (length (decode w).rules)
    ∷ all (rule_ok (decode w)) (decode w).rules
    ∷ distinct eqb (map (λ r. r.number) (decode w).rules)
    ∷ leb (total (λ r. size r.condition) (decode w).rules) word_limit
    ∷ leb (length (conclusions (decode w))) conclusion_limit
    ∷ [])

-- the words of an accepted image
pub record Sound (w : ℕ → ℕ) : Type 0 where
  pub frame : tables_ok w ≡ true
  pub variables : variables_ok w ≡ true
  pub rules : rules_ok w ≡ true
