-- Where the words of a block stand that are laid out from 0 on: its header, and each table at the offset that the header has.
use mathlib.Core.Path.{◌≡◌, sym, ◌∙◌}
use mathlib.Core.List.{List, ◌∷◌, ◌++◌}
use Prim.Native.Nat.{ℕ, ◌+◌}
use native.Mathlib.Omega.{arith}
use lib.ListN.{length}
use Rattle.model.specs.Basic.{gather, total}
use Rattle.model.specs.Block.{Block, conclusions, size}
use Rattle.model.specs.Image.{pair_word, accu_word, act_word, name_words, terms, points, postfix, input_table, output_table, term_table, point_words, rule_table, conclusion_words, offsets, end_of, header, words, CONCLUSION_TABLE, INPUT_TABLE, INPUTS, OUTPUT_TABLE, OUTPUTS, PAIR_WORD, POINT_TABLE, RULE_TABLE, RULES, TERM_TABLE, WORD_TABLE}
use Rattle.laws.proofs.Places.{At, at_shift, at_cut}
use Rattle.layout.proofs.Lengths.{header_long, inputs_long, outputs_long, terms_long, points_long, rules_long}
use Rattle.layout.proofs.Whole.{length_conditions}

-- pair, ACCU, ACT, the spare word, the two names
abbrev pub code_words : Block → List ℕ
code_words b = pair_word b.pair ∷ accu_word b.accu ∷ act_word b.act ∷ 0 ∷ (name_words b.name ++ name_words b.rule_block)

pub record Placed (w : ℕ → ℕ) (b : Block) : Type 0 where
  pub inputs : w INPUTS ≡ length b.inputs
  pub outputs : w OUTPUTS ≡ length b.outputs
  pub rules : w RULES ≡ length b.rules
  pub codes : At w PAIR_WORD (code_words b)
  pub inputs_at : At w (w INPUT_TABLE) (input_table 0 b.inputs)
  pub outputs_at : At w (w OUTPUT_TABLE) (output_table b 0 b.outputs)
  pub terms_at : At w (w TERM_TABLE) (term_table 0 (terms b))
  pub points_at : At w (w POINT_TABLE) (gather point_words (points b))
  pub rules_at : At w (w RULE_TABLE) (rule_table 0 0 b.rules)
  pub words_at : At w (w WORD_TABLE) (gather (λ r. postfix r.condition) b.rules)
  pub conclusions_at : At w (w CONCLUSION_TABLE) (gather conclusion_words (conclusions b))

module _ (w : ℕ → ℕ) (b : Block) where
  abbrev I : List ℕ
  I = input_table 0 b.inputs

  abbrev O : List ℕ
  O = output_table b 0 b.outputs

  abbrev T : List ℕ
  T = term_table 0 (terms b)

  abbrev P : List ℕ
  P = gather point_words (points b)

  abbrev R : List ℕ
  R = rule_table 0 0 b.rules

  abbrev C : List ℕ
  C = gather (λ r. postfix r.condition) b.rules

  abbrev K : List ℕ
  K = gather conclusion_words (conclusions b)

  abbrev TK : List ℕ
  TK = T ++ (P ++ (R ++ (C ++ K)))

  -- a table, and what stands behind it
  behind : (o o' : ℕ) (xs ys : List ℕ) → o' ≡ o + length xs → At w o (xs ++ ys) → At w o xs × At w o' ys
  behind o o' xs ys e a = let c = at_cut w o xs ys a in (c.0, at_shift w (o + length xs) o' ys (sym e) c.1)

  pub placed : At w 0 (words b) → Placed w b
  unfolding words header offsets end_of
  placed a =
      let h = at_cut w 0 (header b) (I ++ (O ++ TK)) a in
      let c = h.0.1.1 in
      let o = c.1.1.1.1.1.1.1 in
      let nc : length C ≡ total (λ r. size r.condition) b.rules = length_conditions b.rules in
      let e9 : w INPUT_TABLE ≡ 28 = o.0 in
      let e10 : w OUTPUT_TABLE ≡ w INPUT_TABLE + length I = o.1.0 ∙ omega (arith, inputs_long b) in
      let e11 : w TERM_TABLE ≡ w OUTPUT_TABLE + length O = o.1.1.0 ∙ omega (arith, inputs_long b, outputs_long b) in
      let e12 : w POINT_TABLE ≡ w TERM_TABLE + length T = o.1.1.1.0 ∙ omega (arith, inputs_long b, outputs_long b, terms_long b) in
      let e13 : w RULE_TABLE ≡ w POINT_TABLE + length P = o.1.1.1.1.0 ∙ omega (arith, inputs_long b, outputs_long b, terms_long b, points_long b) in
      let e14 : w WORD_TABLE ≡ w RULE_TABLE + length R = o.1.1.1.1.1.0 ∙ omega (arith, inputs_long b, outputs_long b, terms_long b, points_long b, rules_long b) in
      let e15 : w CONCLUSION_TABLE ≡ w WORD_TABLE + length C = o.1.1.1.1.1.1.0 ∙ omega (arith, inputs_long b, outputs_long b, terms_long b, points_long b, rules_long b) in
      let c1 = behind (w INPUT_TABLE) (w OUTPUT_TABLE) I (O ++ TK) e10 (at_shift w (0 + length (header b)) (w INPUT_TABLE) (I ++ (O ++ TK)) (omega (arith, header_long b)) h.1) in
      let c2 = behind (w OUTPUT_TABLE) (w TERM_TABLE) O TK e11 c1.1 in
      let c3 = behind (w TERM_TABLE) (w POINT_TABLE) T (P ++ (R ++ (C ++ K))) e12 c2.1 in
      let c4 = behind (w POINT_TABLE) (w RULE_TABLE) P (R ++ (C ++ K)) e13 c3.1 in
      let c5 = behind (w RULE_TABLE) (w WORD_TABLE) R (C ++ K) e14 c4.1 in
      let c6 = behind (w WORD_TABLE) (w CONCLUSION_TABLE) C K e15 c5.1 in
      record {
        inputs = c.0;
        outputs = c.1.0;
        rules = c.1.1.1.1.0;
        codes = o.1.1.1.1.1.1.1;
        inputs_at = c1.0;
        outputs_at = c2.0;
        terms_at = c3.0;
        points_at = c4.0;
        rules_at = c5.0;
        words_at = c6.0;
        conclusions_at = c6.1;
      }
