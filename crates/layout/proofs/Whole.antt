-- The words of an image are those of the block that they stand for exactly when `shape_ok` says so.
use mathlib.Core.Path.{◌≡◌, refl, sym, ap, ◌∙◌, subst}
use mathlib.Core.List.{List, [], ◌∷◌, ◌++◌}
use mathlib.Core.Bool.{Bool, true, false}
use Prim.Native.Nat.{ℕ, zero, suc, ◌+◌, ◌*◌, ◌-◌, ◌≤◌}
use native.Mathlib.Omega.{arith}
use lib.Dec.{eqb, leb, ltb}
use lib.ListN.{length, length-append}
use borrow.Author.Tests.{eq-eqb, eqb-true, le-leb, leb-true}
use Rattle.model.specs.Basic.{all, gather, total, same, tab}
use Rattle.model.specs.Block.{Rule, input_terms, conclusions, size}
use Rattle.model.specs.Image.{crisp_word, crisp_of, name_words, name_at, pair_word, accu_word, act_word, terms, points, postfix, input_table, output_table, term_table, point_words, rule_table, conclusion_words, offsets, end_of, header, words, point_at, term_at, input_at, output_at, conclusion_at, rule_at, decode, ACCU_WORD, ACT_WORD, BLOCK_NAME, CONCLUSION_TABLE, CONCLUSIONS, INPUT_TABLE, INPUTS, LAYOUT, OUTPUT_TABLE, OUTPUTS, PAIR_WORD, POINT_TABLE, POINTS, RULE_BLOCK_NAME, RULE_TABLE, RULES, SPARE, TERM_TABLE, TERMS, TOTAL, WORD_TABLE, WORDS}
use Rattle.laws.proofs.Conditions.{length_pairs, length_postfix}
use Rattle.laws.proofs.Lists.{gather_append, length_gather}
use Rattle.laws.proofs.Tests.{both, and_i, Every, passed, pass}
use Rattle.laws.proofs.Places.{At, at_shift, at_cut, at_join, length_tab}
use Rattle.layout.specs.Rows.{laid, rows_ok}
use Rattle.layout.specs.Tables.{input_row, input_next, output_row, output_next, term_row, term_next, rule_row, rule_next, alone, onward, output_term_at, output_point_at, term_count, word_count, input_terms_in, output_terms_in, input_points_in, words_in, conclusions_in, input_rows, output_rows, input_term_rows, output_term_rows, output_point_rows, rule_rows, condition_exact, condition_rows, name_exact, header_ok}
use Rattle.layout.proofs.Codes.{pair_code, pair_small, accu_code, accu_small, act_code, act_small}
use Rattle.layout.proofs.RowLaws.{stands, stood, rows_out, rows_in, length_laid, laid_append, after_sums}
use Rattle.layout.proofs.TableLaws.{input_table_lem, output_table_lem, term_table_lem, rule_table_lem, gather_laid}
use Rattle.layout.proofs.Parts.{wide_input, wide_output, wide_term, rule_words_row, input_terms_are, terms_are, points_are, conclusions_are, conditions_are}
use Rattle.layout.proofs.Lengths.{header_long, inputs_long, outputs_long, terms_long, points_long, rules_long}
use Rattle.layout.proofs.Shape.{counts_ok, shape_ok}

-- a crisp value's word is the one it was read from
pub word_crisp : (x : ℕ) → x ≤ 4294967295 → crisp_word (crisp_of x) ≡ x
unfolding crisp_of
word_crisp x h = go (ltb x 2147483648) refl
  where
    go : (b : Bool) → ltb x 2147483648 ≡ b → crisp_word (crisp_of x) ≡ x
    go true e = simp e
    go false e = let q : 4294967295 - (4294967295 - x) ≡ x = omega arith in simp (e, q)

pub length_conditions : (rs : List Rule) → length (gather (λ r. postfix r.condition) rs) ≡ total (λ r. size r.condition) rs
length_conditions = length_gather (λ r. postfix r.condition) (λ r. size r.condition) (λ r. length_postfix r.condition)

module _ (w : ℕ → ℕ) where
  -- rows that are always laid out so
  points_stand : ((k : ℕ) → w k ≤ 4294967295) → (k i : ℕ) → At w (w POINT_TABLE + i * 2) (laid (alone point_words) onward tt (tab (point_at w) k i))
  unfolding laid tab point_at
  points_stand b zero i = tt
  points_stand b (suc k) i =
      let o = w POINT_TABLE + i * 2 in (
        sym (word_crisp (w o) (b o)),
        (
          ap w (omega arith),
          at_shift w (w POINT_TABLE + suc i * 2) (suc (suc o)) (laid (alone point_words) onward tt (tab (point_at w) k (suc i))) (omega arith) (points_stand b k (suc i)),
        ),
      )

  conclusions_stand : (k i : ℕ) → At w (w CONCLUSION_TABLE + i * 2) (laid (alone conclusion_words) onward tt (tab (conclusion_at w) k i))
  unfolding laid tab conclusion_at
  conclusions_stand zero i = tt
  conclusions_stand (suc k) i =
      let o = w CONCLUSION_TABLE + i * 2 in (
        refl,
        (
          ap w (omega arith),
          at_shift w (w CONCLUSION_TABLE + suc i * 2) (suc (suc o)) (laid (alone conclusion_words) onward tt (tab (conclusion_at w) k (suc i))) (omega arith)
              (conclusions_stand k (suc i)),
        ),
      )

  words_stand : (k i : ℕ) → At w (w WORD_TABLE + i) (tab (λ m. w (w WORD_TABLE + m)) k i)
  unfolding tab
  words_stand zero i = tt
  words_stand (suc k) i = (refl, at_shift w (w WORD_TABLE + suc i) (suc (w WORD_TABLE + i)) (tab (λ m. w (w WORD_TABLE + m)) k (suc i)) (omega arith) (words_stand k (suc i)))

  pub term_next_lem : (i n : ℕ) → term_next n (term_at w i) ≡ n + term_count w i
  unfolding term_at
  term_next_lem i n = ap (λ (x : ℕ). n + x) (length_tab (point_at w) (w (w TERM_TABLE + i * 6 + 5)) (w (w TERM_TABLE + i * 6 + 4)))

  -- the table of terms: those of the inputs, then those of the outputs
  terms_laid : input_rows w ≡ true → output_rows w ≡ true
      → term_table 0 (terms (decode w)) ≡ laid term_row term_next 0 (tab (term_at w) (input_terms_in w) 0) ++ laid term_row term_next (input_points_in w)
      (tab (output_term_at w) (output_terms_in w) (input_terms_in w))
  terms_laid h g =
      ap (term_table 0) (terms_are w h g)
      ∙ term_table_lem 0 (tab (term_at w) (input_terms_in w) 0 ++ tab (output_term_at w) (output_terms_in w) (input_terms_in w))
      ∙ laid_append term_row term_next (term_at w) (input_terms_in w) 0 0 (tab (output_term_at w) (output_terms_in w) (input_terms_in w))
      ∙ ap (λ (n : ℕ). laid term_row term_next 0 (tab (term_at w) (input_terms_in w) 0) ++ laid term_row term_next n
      (tab (output_term_at w) (output_terms_in w) (input_terms_in w)))
      (after_sums term_next (term_at w) (term_count w) term_next_lem (input_terms_in w) 0 0 ∙ omega arith)

  points_laid : input_rows w ≡ true → output_rows w ≡ true → input_term_rows w ≡ true → output_term_rows w ≡ true
      → gather point_words (points (decode w)) ≡ laid (alone point_words) onward tt (tab (point_at w) (input_points_in w) 0) ++ laid (alone point_words) onward tt
      (tab (output_point_at w) (output_terms_in w) (input_points_in w))
  points_laid h g k l =
      ap (gather point_words) (points_are w h g k l)
      ∙ gather_append point_words (tab (point_at w) (input_points_in w) 0) (tab (output_point_at w) (output_terms_in w) (input_points_in w))
      ∙ (λ j. gather_laid point_words (tab (point_at w) (input_points_in w) 0) j ++ gather_laid point_words
      (tab (output_point_at w) (output_terms_in w) (input_points_in w)) j)

  lay : (o o' : ℕ) (xs ys : List ℕ) → o ≡ o' → xs ≡ ys → At w o xs → At w o' ys
  lay o o' xs ys e f h = subst (λ (k : ℕ). At w k ys) e (subst (λ (l : List ℕ). At w o l) f h)

  -- the offsets, and how many entries the tables have
  pub record Offsets : Type 0 where
    pub at9 : w INPUT_TABLE ≡ 28
    pub at10 : w OUTPUT_TABLE ≡ 28 + w INPUTS * 7
    pub at11 : w TERM_TABLE ≡ 28 + w INPUTS * 7 + w OUTPUTS * 11
    pub at12 : w POINT_TABLE ≡ 28 + w INPUTS * 7 + w OUTPUTS * 11 + w TERMS * 6
    pub at13 : w RULE_TABLE ≡ 28 + w INPUTS * 7 + w OUTPUTS * 11 + w TERMS * 6 + w POINTS * 2
    pub at14 : w WORD_TABLE ≡ 28 + w INPUTS * 7 + w OUTPUTS * 11 + w TERMS * 6 + w POINTS * 2 + w RULES * 6
    pub at15 : w CONCLUSION_TABLE ≡ 28 + w INPUTS * 7 + w OUTPUTS * 11 + w TERMS * 6 + w POINTS * 2 + w RULES * 6 + w WORDS
    pub at1 : w TOTAL ≡ 28 + w INPUTS * 7 + w OUTPUTS * 11 + w TERMS * 6 + w POINTS * 2 + w RULES * 6 + w WORDS + w CONCLUSIONS * 2
    pub inputs : length (decode w).inputs ≡ w INPUTS
    pub outputs : length (decode w).outputs ≡ w OUTPUTS
    pub terms' : length (terms (decode w)) ≡ w TERMS
    pub points' : length (points (decode w)) ≡ w POINTS
    pub rules : length (decode w).rules ≡ w RULES
    pub words' : total (λ r. size r.condition) (decode w).rules ≡ w WORDS
    pub conclusions' : length (conclusions (decode w)) ≡ w CONCLUSIONS

  pub inputs_count : length (decode w).inputs ≡ w INPUTS
  unfolding decode
  inputs_count = length_tab (input_at w) (w INPUTS) 0

  pub outputs_count : length (decode w).outputs ≡ w OUTPUTS
  unfolding decode
  outputs_count = length_tab (output_at w) (w OUTPUTS) 0

  pub rules_count : length (decode w).rules ≡ w RULES
  unfolding decode
  rules_count = length_tab (rule_at w) (w RULES) 0

  terms_count : input_rows w ≡ true → output_rows w ≡ true → length (terms (decode w)) ≡ input_terms_in w + output_terms_in w
  terms_count h g =
      ap length (terms_are w h g) ∙ length-append (tab (term_at w) (input_terms_in w) 0) (tab (output_term_at w) (output_terms_in w) (input_terms_in w))
      ∙ (λ j. length_tab (term_at w) (input_terms_in w) 0 j + length_tab (output_term_at w) (output_terms_in w) (input_terms_in w) j)

  points_count : input_rows w ≡ true → output_rows w ≡ true → input_term_rows w ≡ true → output_term_rows w ≡ true
      → length (points (decode w)) ≡ input_points_in w + output_terms_in w
  points_count h g k l =
      ap length (points_are w h g k l) ∙ length-append (tab (point_at w) (input_points_in w) 0) (tab (output_point_at w) (output_terms_in w) (input_points_in w))
      ∙ (λ j. length_tab (point_at w) (input_points_in w) 0 j + length_tab (output_point_at w) (output_terms_in w) (input_points_in w) j)

  pub words_count : rule_rows w ≡ true → condition_rows w ≡ true → total (λ r. size r.condition) (decode w).rules ≡ words_in w
  words_count h g = sym (length_conditions (decode w).rules) ∙ ap length (conditions_are w h g) ∙ length_tab (λ m. w (w WORD_TABLE + m)) (words_in w) 0

  pub conclusions_count : rule_rows w ≡ true → length (conclusions (decode w)) ≡ conclusions_in w
  conclusions_count h = ap length (conclusions_are w h) ∙ length_tab (conclusion_at w) (conclusions_in w) 0

  -- FROM THE TESTS TO THE WORDS
  abbrev codes : List Bool
  codes = leb (w PAIR_WORD) 2 ∷ leb (w ACCU_WORD) 1 ∷ leb (w ACT_WORD) 1 ∷ eqb (w SPARE) 0 ∷ name_exact w BLOCK_NAME ∷ name_exact w RULE_BLOCK_NAME ∷ []

  abbrev code_words : List ℕ
  code_words =
      pair_word (decode w).pair ∷ accu_word (decode w).accu ∷ act_word (decode w).act ∷ 0 ∷ (name_words (decode w).name ++ name_words (decode w).rule_block)

  tail_stands : Every codes → At w PAIR_WORD code_words
  unfolding decode name_exact name_words
  tail_stands s = (
    sym (pair_code (w PAIR_WORD) (leb-true _ _ s.0)),
    (
      sym (accu_code (w ACCU_WORD) (leb-true _ _ s.1.0)),
      (
        sym (act_code (w ACT_WORD) (leb-true _ _ s.1.1.0)),
        (
          eqb-true _ _ s.1.1.1.0,
          at_join w BLOCK_NAME (name_words (name_at w BLOCK_NAME)) (name_words (name_at w RULE_BLOCK_NAME))
              (stands w BLOCK_NAME 4 (name_words (name_at w BLOCK_NAME)) s.1.1.1.1.0)
              (stands w RULE_BLOCK_NAME 4 (name_words (name_at w RULE_BLOCK_NAME)) s.1.1.1.1.1.0),
        ),
      ),
    ),
  )

  header_stands : Offsets → header_ok w ≡ true → At w 0 (header (decode w))
  unfolding header_ok header offsets end_of name_words
  header_stands f h =
      let t = passed _ h in
      let s = t.1.1.1.1.1.1.1.1.1 in (
        eqb-true _ _ t.0,
        (
          omega (arith, f.at1, f.inputs, f.outputs, f.terms', f.points', f.rules, f.words', f.conclusions'),
          (
            sym f.inputs,
            (
              sym f.outputs,
              (
                sym f.terms',
                (
                  sym f.points',
                  (
                    sym f.rules,
                    (
                      sym f.words',
                      (
                        sym f.conclusions',
                        (
                          f.at9,
                          (
                            omega (arith, f.at10, f.inputs),
                            (
                              omega (arith, f.at11, f.inputs, f.outputs),
                              (
                                omega (arith, f.at12, f.inputs, f.outputs, f.terms'),
                                (
                                  omega (arith, f.at13, f.inputs, f.outputs, f.terms', f.points'),
                                  (
                                    omega (arith, f.at14, f.inputs, f.outputs, f.terms', f.points', f.rules),
                                    (
                                      omega (arith, f.at15, f.inputs, f.outputs, f.terms', f.points', f.rules, f.words'),
                                      tail_stands s,
                                    ),
                                  ),
                                ),
                              ),
                            ),
                          ),
                        ),
                      ),
                    ),
                  ),
                ),
              ),
            ),
          ),
        ),
      )

  offsets_from : header_ok w ≡ true → input_rows w ≡ true → output_rows w ≡ true → input_term_rows w ≡ true → output_term_rows w ≡ true → rule_rows w ≡ true
      → condition_rows w ≡ true
      → counts_ok w ≡ true → Offsets
  unfolding header_ok counts_ok
  offsets_from h ir or it ot rr cr co =
      let t = passed _ h in
      let c = passed _ co in
      let e9 : w INPUT_TABLE ≡ 28 = eqb-true _ _ t.1.0 in
      let e10 : w OUTPUT_TABLE ≡ w INPUT_TABLE + w INPUTS * 7 = eqb-true _ _ t.1.1.0 in
      let e11 : w TERM_TABLE ≡ w OUTPUT_TABLE + w OUTPUTS * 11 = eqb-true _ _ t.1.1.1.0 in
      let e12 : w POINT_TABLE ≡ w TERM_TABLE + w TERMS * 6 = eqb-true _ _ t.1.1.1.1.0 in
      let e13 : w RULE_TABLE ≡ w POINT_TABLE + w POINTS * 2 = eqb-true _ _ t.1.1.1.1.1.0 in
      let e14 : w WORD_TABLE ≡ w RULE_TABLE + w RULES * 6 = eqb-true _ _ t.1.1.1.1.1.1.0 in
      let e15 : w CONCLUSION_TABLE ≡ w WORD_TABLE + w WORDS = eqb-true _ _ t.1.1.1.1.1.1.1.0 in
      let e1 : w TOTAL ≡ w CONCLUSION_TABLE + w CONCLUSIONS * 2 = eqb-true _ _ t.1.1.1.1.1.1.1.1.0 in
      record {
        at9 = e9;
        at10 = omega arith;
        at11 = omega arith;
        at12 = omega arith;
        at13 = omega arith;
        at14 = omega arith;
        at15 = omega arith;
        at1 = omega arith;
        inputs = inputs_count;
        outputs = outputs_count;
        terms' = terms_count ir or ∙ sym (eqb-true _ _ c.0);
        points' = points_count ir or it ot ∙ sym (eqb-true _ _ c.1.0);
        rules = rules_count;
        words' = words_count rr cr ∙ sym (eqb-true _ _ c.1.1.0);
        conclusions' = conclusions_count rr ∙ sym (eqb-true _ _ c.1.1.1.0);
      }

  -- the tables of the block, one by one
  abbrev I : List ℕ
  I = input_table 0 (decode w).inputs

  abbrev O : List ℕ
  O = output_table (decode w) 0 (decode w).outputs

  abbrev T : List ℕ
  T = term_table 0 (terms (decode w))

  abbrev P : List ℕ
  P = gather point_words (points (decode w))

  abbrev R : List ℕ
  R = rule_table 0 0 (decode w).rules

  abbrev C : List ℕ
  C = gather (λ r. postfix r.condition) (decode w).rules

  abbrev K : List ℕ
  K = gather conclusion_words (conclusions (decode w))

  inputs_stand : Offsets → input_rows w ≡ true → At w 28 I
  unfolding input_rows decode
  inputs_stand f h =
      lay (w INPUT_TABLE + 0 * 7) 28 (laid input_row input_next 0 (tab (input_at w) (w INPUTS) 0)) (input_table 0 (tab (input_at w) (w INPUTS) 0)) (omega (arith, f.at9))
      (sym (input_table_lem 0 (tab (input_at w) (w INPUTS) 0)))
      (rows_out input_row input_next (input_at w) w (w INPUT_TABLE) 7 wide_input (w INPUTS) 0 0 h)

  outputs_stand : Offsets → input_rows w ≡ true → output_rows w ≡ true → At w (28 + w INPUTS * 7) O
  unfolding output_rows decode
  outputs_stand f g h =
      let e : input_terms_in w ≡ length (input_terms (decode w)) = sym (ap length (input_terms_are w g) ∙ length_tab (term_at w) (input_terms_in w) 0) in
      lay (w OUTPUT_TABLE + 0 * 11) (28 + w INPUTS * 7) (laid output_row output_next (input_terms_in w) (tab (output_at w) (w OUTPUTS) 0))
      (output_table (decode w) 0 (tab (output_at w) (w OUTPUTS) 0))
      (omega (arith, f.at10))
      (ap (λ (n : ℕ). laid output_row output_next n (tab (output_at w) (w OUTPUTS) 0)) e ∙ sym (output_table_lem (decode w)))
      (rows_out output_row output_next (output_at w) w (w OUTPUT_TABLE) 11 wide_output (w OUTPUTS) 0 (input_terms_in w) h)

  terms_stand : Offsets → input_rows w ≡ true → output_rows w ≡ true → input_term_rows w ≡ true → output_term_rows w ≡ true → At w (w TERM_TABLE) T
  unfolding input_term_rows output_term_rows
  terms_stand f ir or it ot =
      let T1 = laid term_row term_next 0 (tab (term_at w) (input_terms_in w) 0) in
      let T2 = laid term_row term_next (input_points_in w) (tab (output_term_at w) (output_terms_in w) (input_terms_in w)) in
      let l1 : length T1 ≡ input_terms_in w * 6 =
      length_laid term_row term_next (term_at w) w 0 6 wide_term 0 (tab (term_at w) (input_terms_in w) 0)
      ∙ ap (λ (x : ℕ). x * 6) (length_tab (term_at w) (input_terms_in w) 0) in
      lay (w TERM_TABLE) (w TERM_TABLE) (T1 ++ T2) T refl (sym (terms_laid ir or))
      (at_join w (w TERM_TABLE) T1 T2
      (at_shift w (w TERM_TABLE + 0 * 6) (w TERM_TABLE) T1 (omega arith) (rows_out term_row term_next (term_at w) w (w TERM_TABLE) 6 wide_term (input_terms_in w) 0 0 it))
      (at_shift w (w TERM_TABLE + input_terms_in w * 6) (w TERM_TABLE + length T1) T2 (omega arith)
      (rows_out term_row term_next (output_term_at w) w (w TERM_TABLE) 6 wide_term (output_terms_in w) (input_terms_in w) (input_points_in w) ot)))

  all_points_stand : ((k : ℕ) → w k ≤ 4294967295) → input_rows w ≡ true → output_rows w ≡ true → input_term_rows w ≡ true → output_term_rows w ≡ true
      → output_point_rows w ≡ true → At w (w POINT_TABLE) P
  unfolding output_point_rows
  all_points_stand b ir or it ot op =
      let P1 = laid (alone point_words) onward tt (tab (point_at w) (input_points_in w) 0) in
      let P2 = laid (alone point_words) onward tt (tab (output_point_at w) (output_terms_in w) (input_points_in w)) in
      let l1 : length P1 ≡ input_points_in w * 2 =
      length_laid (alone point_words) onward (point_at w) w 0 2 (λ σ p. refl) tt (tab (point_at w) (input_points_in w) 0)
      ∙ ap (λ (x : ℕ). x * 2) (length_tab (point_at w) (input_points_in w) 0) in
      lay (w POINT_TABLE) (w POINT_TABLE) (P1 ++ P2) P refl (sym (points_laid ir or it ot))
      (at_join w (w POINT_TABLE) P1 P2
      (at_shift w (w POINT_TABLE + 0 * 2) (w POINT_TABLE) P1 (omega arith) (points_stand b (input_points_in w) 0))
      (at_shift w (w POINT_TABLE + input_points_in w * 2) (w POINT_TABLE + length P1) P2 (omega arith)
      (rows_out (alone point_words) onward (output_point_at w) w (w POINT_TABLE) 2 (λ σ p. refl) (output_terms_in w) (input_points_in w) tt op)))

  rules_stand : rule_rows w ≡ true → At w (w RULE_TABLE) R
  unfolding rule_rows decode
  rules_stand h =
      lay (w RULE_TABLE + 0 * 6) (w RULE_TABLE) (laid rule_row rule_next (0, 0) (tab (rule_at w) (w RULES) 0)) (rule_table 0 0 (tab (rule_at w) (w RULES) 0)) (omega arith)
      (sym (rule_table_lem 0 0 (tab (rule_at w) (w RULES) 0)))
      (rows_out rule_row rule_next (rule_at w) w (w RULE_TABLE) 6 (λ σ r. refl) (w RULES) 0 (0, 0) h)

  conditions_stand : rule_rows w ≡ true → condition_rows w ≡ true → At w (w WORD_TABLE) C
  conditions_stand h g =
      lay (w WORD_TABLE + 0) (w WORD_TABLE) (tab (λ m. w (w WORD_TABLE + m)) (words_in w) 0) C (omega arith) (sym (conditions_are w h g)) (words_stand (words_in w) 0)

  all_conclusions_stand : rule_rows w ≡ true → At w (w CONCLUSION_TABLE) K
  all_conclusions_stand h =
      lay (w CONCLUSION_TABLE + 0 * 2) (w CONCLUSION_TABLE) (laid (alone conclusion_words) onward tt (tab (conclusion_at w) (conclusions_in w) 0)) K (omega arith)
      (sym (ap (gather conclusion_words) (conclusions_are w h) ∙ gather_laid conclusion_words (tab (conclusion_at w) (conclusions_in w) 0)))
      (conclusions_stand (conclusions_in w) 0)

  -- where each table of the block starts
  pub record Lengths : Type 0 where
    pub inputs : length I ≡ w INPUTS * 7
    pub outputs : length O ≡ w OUTPUTS * 11
    pub terms' : length T ≡ w TERMS * 6
    pub points' : length P ≡ w POINTS * 2
    pub rules : length R ≡ w RULES * 6
    pub words' : length C ≡ w WORDS
    pub conclusions' : length K ≡ w CONCLUSIONS * 2

  lengths_from : length (terms (decode w)) ≡ w TERMS → length (points (decode w)) ≡ w POINTS → total (λ r. size r.condition) (decode w).rules ≡ w WORDS
      → length (conclusions (decode w)) ≡ w CONCLUSIONS → Lengths
  lengths_from t p c k = record {
    inputs = inputs_long (decode w) ∙ ap (λ (x : ℕ). x * 7) inputs_count;
    outputs = outputs_long (decode w) ∙ ap (λ (x : ℕ). x * 11) outputs_count;
    terms' = terms_long (decode w) ∙ ap (λ (x : ℕ). x * 6) t;
    points' = points_long (decode w) ∙ ap (λ (x : ℕ). x * 2) p;
    rules = rules_long (decode w) ∙ ap (λ (x : ℕ). x * 6) rules_count;
    words' = length_conditions (decode w).rules ∙ c;
    conclusions' = length_pairs (conclusions (decode w)) ∙ ap (λ (x : ℕ). x * 2) k;
  }

  abbrev tables : List ℕ
  tables = I ++ (O ++ (T ++ (P ++ (R ++ (C ++ K)))))

  words_are : words (decode w) ≡ header (decode w) ++ tables
  unfolding words
  words_are = refl

  words_long : Offsets → Lengths → length (words (decode w)) ≡ w TOTAL
  words_long f l =
      ap length words_are ∙ length-append (header (decode w)) tables
      ∙ omega (
        arith,
        header_long (decode w),
        f.at1,
        length-append I (O ++ (T ++ (P ++ (R ++ (C ++ K))))),
        length-append O (T ++ (P ++ (R ++ (C ++ K)))),
        length-append T (P ++ (R ++ (C ++ K))),
        length-append P (R ++ (C ++ K)),
        length-append R (C ++ K),
        length-append C K,
        l.inputs,
        l.outputs,
        l.terms',
        l.points',
        l.rules,
        l.words',
        l.conclusions',
      )

  pub shape_out : ((k : ℕ) → w k ≤ 4294967295) → shape_ok w ≡ true → At w 0 (words (decode w)) × (length (words (decode w)) ≡ w TOTAL)
  unfolding shape_ok
  shape_out b h =
      let t = passed _ h in
      let ir = t.1.0 in
      let or = t.1.1.0 in
      let it = t.1.1.1.0 in
      let ot = t.1.1.1.1.0 in
      let op = t.1.1.1.1.1.0 in
      let rr = t.1.1.1.1.1.1.0 in
      let cr = t.1.1.1.1.1.1.1.0 in
      let f : Offsets = offsets_from t.0 ir or it ot rr cr t.1.1.1.1.1.1.1.1.0 in
      let l : Lengths = lengths_from f.terms' f.points' f.words' f.conclusions' in
      let K' : At w (w WORD_TABLE + length C) K = at_shift w (w CONCLUSION_TABLE) (w WORD_TABLE + length C) K (omega (arith, f.at14, f.at15, l.words')) (all_conclusions_stand rr) in
      let C' : At w (w RULE_TABLE + length R) (C ++ K) = at_shift w (w WORD_TABLE) (w RULE_TABLE + length R) (C ++ K) (omega (arith, f.at13, f.at14, l.rules))
      (at_join w (w WORD_TABLE) C K (conditions_stand rr cr) K') in
      let R' : At w (w POINT_TABLE + length P) (R ++ (C ++ K)) = at_shift w (w RULE_TABLE) (w POINT_TABLE + length P) (R ++ (C ++ K)) (omega (arith, f.at12, f.at13, l.points'))
      (at_join w (w RULE_TABLE) R (C ++ K) (rules_stand rr) C') in
      let P' : At w (w TERM_TABLE + length T) (P ++ (R ++ (C ++ K))) = at_shift w (w POINT_TABLE) (w TERM_TABLE + length T) (P ++ (R ++ (C ++ K)))
      (omega (arith, f.at11, f.at12, l.terms')) (at_join w (w POINT_TABLE) P (R ++ (C ++ K)) (all_points_stand b ir or it ot op) R') in
      let T' : At w (28 + w INPUTS * 7 + length O) (T ++ (P ++ (R ++ (C ++ K)))) = at_shift w (w TERM_TABLE) (28 + w INPUTS * 7 + length O) (T ++ (P ++ (R ++ (C ++ K))))
      (omega (arith, f.at11, l.outputs)) (at_join w (w TERM_TABLE) T (P ++ (R ++ (C ++ K))) (terms_stand f ir or it ot) P') in
      let O' : At w (28 + length I) (O ++ (T ++ (P ++ (R ++ (C ++ K))))) = at_shift w (28 + w INPUTS * 7) (28 + length I) (O ++ (T ++ (P ++ (R ++ (C ++ K)))))
      (omega (arith, l.inputs)) (at_join w (28 + w INPUTS * 7) O (T ++ (P ++ (R ++ (C ++ K)))) (outputs_stand f ir or) T') in
      let I' : At w (0 + length (header (decode w))) tables = at_shift w 28 (0 + length (header (decode w))) tables (omega (arith, header_long (decode w)))
      (at_join w 28 I (O ++ (T ++ (P ++ (R ++ (C ++ K))))) (inputs_stand f ir) O') in (
        lay 0 0 (header (decode w) ++ tables) (words (decode w)) refl (sym words_are)
            (at_join w 0 (header (decode w)) tables (header_stands f t.0) I'),
        words_long f l,
      )

  -- FROM THE WORDS TO THE TESTS
  codes_pass : At w PAIR_WORD code_words → Every codes
  unfolding decode name_exact name_words
  codes_pass a =
      let n = at_cut w BLOCK_NAME (name_words (name_at w BLOCK_NAME)) (name_words (name_at w RULE_BLOCK_NAME)) a.1.1.1.1 in (
        le-leb _ _ (pair_small (w PAIR_WORD) (sym a.0)),
        (
          le-leb _ _ (accu_small (w ACCU_WORD) (sym a.1.0)),
          (
            le-leb _ _ (act_small (w ACT_WORD) (sym a.1.1.0)),
            (
              eq-eqb _ _ a.1.1.1.0,
              (stood w BLOCK_NAME 4 (name_words (name_at w BLOCK_NAME)) refl n.0, (stood w RULE_BLOCK_NAME 4 (name_words (name_at w RULE_BLOCK_NAME)) refl n.1, tt)),
            ),
          ),
        ),
      )

  pub record Header : Type 0 where
    pub offsets' : Offsets
    pub layout : w LAYOUT ≡ 1
    pub codes' : Every codes

  header_facts : At w 0 (header (decode w)) → Header
  unfolding header offsets end_of
  header_facts a =
      let c = a.1.1 in
      let o = c.1.1.1.1.1.1.1 in
      let li : w INPUTS ≡ length (decode w).inputs = c.0 in
      let lo : w OUTPUTS ≡ length (decode w).outputs = c.1.0 in
      let lt : w TERMS ≡ length (terms (decode w)) = c.1.1.0 in
      let lp : w POINTS ≡ length (points (decode w)) = c.1.1.1.0 in
      let lr : w RULES ≡ length (decode w).rules = c.1.1.1.1.0 in
      let lc : w WORDS ≡ total (λ r. size r.condition) (decode w).rules = c.1.1.1.1.1.0 in
      let lk : w CONCLUSIONS ≡ length (conclusions (decode w)) = c.1.1.1.1.1.1.0 in
      record {
        offsets' = record {
          at9 = o.0;
          at10 = o.1.0 ∙ omega arith;
          at11 = o.1.1.0 ∙ omega arith;
          at12 = o.1.1.1.0 ∙ omega arith;
          at13 = o.1.1.1.1.0 ∙ omega arith;
          at14 = o.1.1.1.1.1.0 ∙ omega arith;
          at15 = o.1.1.1.1.1.1.0 ∙ omega arith;
          at1 = a.1.0 ∙ omega arith;
          inputs = sym li;
          outputs = sym lo;
          terms' = sym lt;
          points' = sym lp;
          rules = sym lr;
          words' = sym lc;
          conclusions' = sym lk;
        };
        layout = a.0;
        codes' = codes_pass o.1.1.1.1.1.1.1;
      }

  header_passes : Header → header_ok w ≡ true
  unfolding header_ok
  header_passes h =
      let f = h.offsets' in
      pass _ (
        eq-eqb _ _ h.layout,
        (
          eq-eqb _ _ f.at9,
          (
            eq-eqb (w OUTPUT_TABLE) (w INPUT_TABLE + w INPUTS * 7) (omega (arith, f.at9, f.at10)),
            (
              eq-eqb (w TERM_TABLE) (w OUTPUT_TABLE + w OUTPUTS * 11) (omega (arith, f.at10, f.at11)),
              (
                eq-eqb (w POINT_TABLE) (w TERM_TABLE + w TERMS * 6) (omega (arith, f.at11, f.at12)),
                (
                  eq-eqb (w RULE_TABLE) (w POINT_TABLE + w POINTS * 2) (omega (arith, f.at12, f.at13)),
                  (
                    eq-eqb (w WORD_TABLE) (w RULE_TABLE + w RULES * 6) (omega (arith, f.at13, f.at14)),
                    (
                      eq-eqb (w CONCLUSION_TABLE) (w WORD_TABLE + w WORDS) (omega (arith, f.at14, f.at15)),
                      (eq-eqb (w TOTAL) (w CONCLUSION_TABLE + w CONCLUSIONS * 2) (omega (arith, f.at15, f.at1)), h.codes'),
                    ),
                  ),
                ),
              ),
            ),
          ),
        ),
      )

  inputs_pass : Offsets → At w 28 I → input_rows w ≡ true
  unfolding input_rows decode
  inputs_pass f a =
      rows_in input_row input_next (input_at w) w (w INPUT_TABLE) 7 wide_input (w INPUTS) 0 0
      (lay 28 (w INPUT_TABLE + 0 * 7) (input_table 0 (tab (input_at w) (w INPUTS) 0)) (laid input_row input_next 0 (tab (input_at w) (w INPUTS) 0)) (omega (arith, f.at9))
      (input_table_lem 0 (tab (input_at w) (w INPUTS) 0)) a)

  outputs_pass : Offsets → input_rows w ≡ true → At w (28 + w INPUTS * 7) O → output_rows w ≡ true
  unfolding output_rows decode
  outputs_pass f g a =
      let e : length (input_terms (decode w)) ≡ input_terms_in w = ap length (input_terms_are w g) ∙ length_tab (term_at w) (input_terms_in w) 0 in
      rows_in output_row output_next (output_at w) w (w OUTPUT_TABLE) 11 wide_output (w OUTPUTS) 0 (input_terms_in w)
      (lay (28 + w INPUTS * 7) (w OUTPUT_TABLE + 0 * 11) (output_table (decode w) 0 (tab (output_at w) (w OUTPUTS) 0))
      (laid output_row output_next (input_terms_in w) (tab (output_at w) (w OUTPUTS) 0))
      (omega (arith, f.at10))
      (output_table_lem (decode w) ∙ ap (λ (n : ℕ). laid output_row output_next n (tab (output_at w) (w OUTPUTS) 0)) e) a)

  terms_pass : input_rows w ≡ true → output_rows w ≡ true → At w (w TERM_TABLE) T → (input_term_rows w ≡ true) × (output_term_rows w ≡ true)
  unfolding input_term_rows output_term_rows
  terms_pass ir or a =
      let T1 = laid term_row term_next 0 (tab (term_at w) (input_terms_in w) 0) in
      let T2 = laid term_row term_next (input_points_in w) (tab (output_term_at w) (output_terms_in w) (input_terms_in w)) in
      let l1 : length T1 ≡ input_terms_in w * 6 =
      length_laid term_row term_next (term_at w) w 0 6 wide_term 0 (tab (term_at w) (input_terms_in w) 0)
      ∙ ap (λ (x : ℕ). x * 6) (length_tab (term_at w) (input_terms_in w) 0) in
      let c = at_cut w (w TERM_TABLE) T1 T2 (lay (w TERM_TABLE) (w TERM_TABLE) T (T1 ++ T2) refl (terms_laid ir or) a) in (
        rows_in term_row term_next (term_at w) w (w TERM_TABLE) 6 wide_term (input_terms_in w) 0 0 (at_shift w (w TERM_TABLE) (w TERM_TABLE + 0 * 6) T1 (omega arith) c.0),
        rows_in term_row term_next (output_term_at w) w (w TERM_TABLE) 6 wide_term (output_terms_in w) (input_terms_in w) (input_points_in w)
            (at_shift w (w TERM_TABLE + length T1) (w TERM_TABLE + input_terms_in w * 6) T2 (omega arith) c.1),
      )

  points_pass : input_rows w ≡ true → output_rows w ≡ true → input_term_rows w ≡ true → output_term_rows w ≡ true → At w (w POINT_TABLE) P → output_point_rows w ≡ true
  unfolding output_point_rows
  points_pass ir or it ot a =
      let P1 = laid (alone point_words) onward tt (tab (point_at w) (input_points_in w) 0) in
      let P2 = laid (alone point_words) onward tt (tab (output_point_at w) (output_terms_in w) (input_points_in w)) in
      let l1 : length P1 ≡ input_points_in w * 2 =
      length_laid (alone point_words) onward (point_at w) w 0 2 (λ σ p. refl) tt (tab (point_at w) (input_points_in w) 0)
      ∙ ap (λ (x : ℕ). x * 2) (length_tab (point_at w) (input_points_in w) 0) in
      let c = at_cut w (w POINT_TABLE) P1 P2 (lay (w POINT_TABLE) (w POINT_TABLE) P (P1 ++ P2) refl (points_laid ir or it ot) a) in
      rows_in (alone point_words) onward (output_point_at w) w (w POINT_TABLE) 2 (λ σ p. refl) (output_terms_in w) (input_points_in w) tt
      (at_shift w (w POINT_TABLE + length P1) (w POINT_TABLE + input_points_in w * 2) P2 (omega arith) c.1)

  rules_pass : At w (w RULE_TABLE) R → rule_rows w ≡ true
  unfolding rule_rows decode
  rules_pass a =
      rows_in rule_row rule_next (rule_at w) w (w RULE_TABLE) 6 (λ σ r. refl) (w RULES) 0 (0, 0)
      (lay (w RULE_TABLE) (w RULE_TABLE + 0 * 6) (rule_table 0 0 (tab (rule_at w) (w RULES) 0)) (laid rule_row rule_next (0, 0) (tab (rule_at w) (w RULES) 0)) (omega arith)
      (rule_table_lem 0 0 (tab (rule_at w) (w RULES) 0)) a)

  -- words counted from the start of their table
  at_plus : (o p : ℕ) (xs : List ℕ) → At w (o + p) xs → At (λ k. w (o + k)) p xs
  at_plus o p [] a = tt
  at_plus o p (x ∷ xs) a = (a.0, at_plus o (suc p) xs (at_shift w (suc (o + p)) (o + suc p) xs (omega arith) a.1))

  conditions_exact : (k i : ℕ) (σ : ℕ × ℕ) → rows_ok rule_row rule_next (rule_at w) w (w RULE_TABLE) 6 k i σ ≡ true
      → At w (w WORD_TABLE + σ.0) (gather (λ r. postfix r.condition) (tab (rule_at w) k i)) → all (condition_exact w) (tab (λ j. j) k i) ≡ true
  unfolding rows_ok gather tab all condition_exact
  conditions_exact zero i σ h a = refl
  conditions_exact (suc k) i σ h a =
      let b = both (same (tab w 6 (w RULE_TABLE + i * 6)) (rule_row σ (rule_at w i)))
      (rows_ok rule_row rule_next (rule_at w) w (w RULE_TABLE) 6 k (suc i) (rule_next σ (rule_at w i))) h in
      let q = rule_words_row w i σ b.0 in
      let c = (rule_at w i).condition in
      let rest = gather (λ r. postfix r.condition) (tab (rule_at w) k (suc i)) in
      let d = at_cut w (w WORD_TABLE + σ.0) (postfix c) rest a in
      let n : length (postfix c) ≡ word_count w i = omega (arith, length_postfix c, q.1) in
      let e : same (tab (λ m. w (w WORD_TABLE + m)) (word_count w i) σ.0) (postfix c) ≡ true =
      stood (λ m. w (w WORD_TABLE + m)) σ.0 (word_count w i) (postfix c) n (at_plus (w WORD_TABLE) σ.0 (postfix c) d.0) in
      and_i _ _ (ap (λ (p : ℕ). same (tab (λ m. w (w WORD_TABLE + m)) (word_count w i) p) (postfix c)) q.0 ∙ e)
      (conditions_exact k (suc i) (rule_next σ (rule_at w i)) b.1
      (at_shift w (w WORD_TABLE + σ.0 + length (postfix c)) (w WORD_TABLE + (σ.0 + size c)) rest (omega (arith, length_postfix c)) d.1))

  conditions_pass : rule_rows w ≡ true → At w (w WORD_TABLE) C → condition_rows w ≡ true
  unfolding rule_rows condition_rows decode
  conditions_pass h a =
      conditions_exact (w RULES) 0 (0, 0) h (at_shift w (w WORD_TABLE) (w WORD_TABLE + 0) (gather (λ r. postfix r.condition) (tab (rule_at w) (w RULES) 0)) (omega arith) a)

  counts_pass : Offsets → input_rows w ≡ true → output_rows w ≡ true → input_term_rows w ≡ true → output_term_rows w ≡ true → rule_rows w ≡ true
      → condition_rows w ≡ true → counts_ok w ≡ true
  unfolding counts_ok
  counts_pass f ir or it ot rr cr =
      pass _ (
        eq-eqb _ _ (sym f.terms' ∙ terms_count ir or),
        (
          eq-eqb _ _ (sym f.points' ∙ points_count ir or it ot),
          (
            eq-eqb _ _ (sym f.words' ∙ words_count rr cr),
            (eq-eqb _ _ (sym f.conclusions' ∙ conclusions_count rr), tt),
          ),
        ),
      )

  pub shape_in : At w 0 (words (decode w)) → shape_ok w ≡ true
  unfolding shape_ok
  shape_in a =
      let c0 = at_cut w 0 (header (decode w)) tables (lay 0 0 (words (decode w)) (header (decode w) ++ tables) refl words_are a) in
      let h : Header = header_facts c0.0 in
      let f = h.offsets' in
      let l : Lengths = lengths_from f.terms' f.points' f.words' f.conclusions' in
      let c1 = at_cut w 28 I (O ++ (T ++ (P ++ (R ++ (C ++ K)))))
      (at_shift w (0 + length (header (decode w))) 28 tables (omega (arith, header_long (decode w))) c0.1) in
      let c2 = at_cut w (28 + w INPUTS * 7) O (T ++ (P ++ (R ++ (C ++ K))))
      (at_shift w (28 + length I) (28 + w INPUTS * 7) (O ++ (T ++ (P ++ (R ++ (C ++ K))))) (omega (arith, l.inputs)) c1.1) in
      let c3 = at_cut w (w TERM_TABLE) T (P ++ (R ++ (C ++ K)))
      (at_shift w (28 + w INPUTS * 7 + length O) (w TERM_TABLE) (T ++ (P ++ (R ++ (C ++ K)))) (omega (arith, f.at11, l.outputs)) c2.1) in
      let c4 = at_cut w (w POINT_TABLE) P (R ++ (C ++ K))
      (at_shift w (w TERM_TABLE + length T) (w POINT_TABLE) (P ++ (R ++ (C ++ K))) (omega (arith, f.at11, f.at12, l.terms')) c3.1) in
      let c5 = at_cut w (w RULE_TABLE) R (C ++ K) (at_shift w (w POINT_TABLE + length P) (w RULE_TABLE) (R ++ (C ++ K)) (omega (arith, f.at12, f.at13, l.points')) c4.1) in
      let c6 = at_cut w (w WORD_TABLE) C K (at_shift w (w RULE_TABLE + length R) (w WORD_TABLE) (C ++ K) (omega (arith, f.at13, f.at14, l.rules)) c5.1) in
      let ir = inputs_pass f c1.0 in
      let or = outputs_pass f ir c2.0 in
      let ts = terms_pass ir or c3.0 in
      let rr = rules_pass c5.0 in
      let cr = conditions_pass rr c6.0 in
      pass _
      (header_passes h, (ir, (or, (ts.0, (ts.1, (points_pass ir or ts.0 ts.1 c4.0, (rr, (cr, (counts_pass f ir or ts.0 ts.1 rr cr, tt)))))))))
