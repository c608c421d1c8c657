-- What the tables of an image hold, joined, where its rows are laid out as document 01 says.
use mathlib.Core.Path.{◌≡◌, refl, sym, ap, ◌∙◌}
use mathlib.Core.List.{List, ◌∷◌, ◌++◌, map}
use mathlib.Core.Option.{Option, none, some}
use mathlib.Core.Bool.{true}
use Prim.Native.Nat.{ℕ, zero, suc, ◌+◌, ◌*◌}
use native.Mathlib.Omega.{arith}
use lib.IntN.{ℤ}
use lib.ListN.{length}
use Rattle.model.specs.Basic.{same, gather, all, tab}
use Rattle.model.specs.Block.{Term, Singleton, Input, Range, Output, input_terms, output_terms, conclusions}
use Rattle.model.specs.Image.{name_words, range_words, default_words, postfix, singleton_term, terms, points, point_at, term_at, singleton_at, input_at, output_at, conclusion_at, rule_at, decode, INPUT_TABLE, INPUTS, OUTPUT_TABLE, OUTPUTS, RULE_TABLE, RULES, TERM_TABLE, WORD_TABLE}
use Rattle.laws.proofs.Lists.{map_tab, gather_append}
use Rattle.laws.proofs.Tests.{both}
use Rattle.laws.proofs.Places.{length_tab, same_eq}
use Rattle.layout.specs.Tables.{input_row, input_next, output_row, output_next, term_row, term_next, rule_row, rule_next, output_term_at, output_point_at, input_count, output_count, output_first_at, term_count, word_count, conclusion_count, input_terms_in, output_terms_in, input_points_in, words_in, conclusions_in, input_rows, output_rows, input_term_rows, output_term_rows, rule_rows, condition_exact, condition_rows}
use Rattle.layout.proofs.RowLaws.{word_of}
use Rattle.layout.proofs.TableLaws.{Each, each, Runs, runs_from, gather_runs, sums_one}

-- every row has the words of its table
pub wide_input : (n : ℕ) (v : Input) → length (input_row n v) ≡ 7
unfolding name_words
wide_input n v = refl

pub wide_output : (n : ℕ) (v : Output) → length (output_row n v) ≡ 11
unfolding name_words
wide_output n v = go v.range v.default
  where
    go : (g : Option Range) (d : Option ℤ) → length (name_words v.name ++ (n ∷ length v.terms ∷ (range_words g ++ default_words d))) ≡ 11
    go none none = refl
    go none (some x) = refl
    go (some g) none = refl
    go (some g) (some x) = refl

-- flag, min, max
pub range_long : (g : Option Range) → length (range_words g) ≡ 3
range_long none = refl
range_long (some g) = refl

pub wide_term : (n : ℕ) (t : Term) → length (term_row n t) ≡ 6
unfolding name_words
wide_term n t = refl

module _ (w : ℕ → ℕ) where
  abbrev pub input_first : ℕ → ℕ
  input_first i = w (w INPUT_TABLE + i * 7 + 5)

  abbrev pub term_first : ℕ → ℕ
  term_first i = w (w TERM_TABLE + i * 6 + 4)

  abbrev pub word_first : ℕ → ℕ
  word_first i = w (w RULE_TABLE + i * 6 + 1)

  abbrev pub conclusion_first : ℕ → ℕ
  conclusion_first i = w (w RULE_TABLE + i * 6 + 3)

  input_row_lem : (i n : ℕ) → same (tab w 7 (w INPUT_TABLE + i * 7)) (input_row n (input_at w i)) ≡ true
      → (input_first i ≡ n) × (input_next n (input_at w i) ≡ n + input_count w i)
  unfolding name_words input_at
  input_row_lem i n h =
      let o = w INPUT_TABLE + i * 7 in
      (word_of w o 7 (input_row n (input_at w i)) 5 (omega arith) h, ap (λ (x : ℕ). n + x) (length_tab (term_at w) (w (o + 6)) (w (o + 5))))

  output_row_lem : (i n : ℕ) → same (tab w 11 (w OUTPUT_TABLE + i * 11)) (output_row n (output_at w i)) ≡ true
      → (output_first_at w i ≡ n) × (output_next n (output_at w i) ≡ n + output_count w i)
  unfolding name_words output_at
  output_row_lem i n h =
      let o = w OUTPUT_TABLE + i * 11 in
      let v = output_at w i in
      (word_of w o 11 (output_row n v) 4 (omega (arith, wide_output n v)) h, ap (λ (x : ℕ). n + x) (length_tab (singleton_at w) (w (o + 5)) (w (o + 4))))

  term_row_lem : (i n : ℕ) → same (tab w 6 (w TERM_TABLE + i * 6)) (term_row n (term_at w i)) ≡ true
      → (term_first i ≡ n) × (term_next n (term_at w i) ≡ n + term_count w i)
  unfolding name_words term_at
  term_row_lem i n h =
      let o = w TERM_TABLE + i * 6 in
      (word_of w o 6 (term_row n (term_at w i)) 4 (omega arith) h, ap (λ (x : ℕ). n + x) (length_tab (point_at w) (w (o + 5)) (w (o + 4))))

  output_term_row : (i n : ℕ) → same (tab w 6 (w TERM_TABLE + i * 6)) (term_row n (output_term_at w i)) ≡ true
      → (term_first i ≡ n) × (term_next n (output_term_at w i) ≡ n + 1)
  unfolding name_words singleton_at
  output_term_row i n h =
      let o = w TERM_TABLE + i * 6 in
      (word_of w o 6 (term_row n (output_term_at w i)) 4 (omega arith) h, refl)

  pub rule_words_row : (i : ℕ) (σ : ℕ × ℕ) → same (tab w 6 (w RULE_TABLE + i * 6)) (rule_row σ (rule_at w i)) ≡ true
      → (word_first i ≡ σ.0) × ((rule_next σ (rule_at w i)).0 ≡ σ.0 + word_count w i)
  rule_words_row i σ h =
      let o = w RULE_TABLE + i * 6 in
      let row = rule_row σ (rule_at w i) in
      (word_of w o 6 row 1 (omega arith) h, ap (λ (x : ℕ). σ.0 + x) (sym (word_of w o 6 row 2 (omega arith) h)))

  pub rule_conclusions_row : (i : ℕ) (σ : ℕ × ℕ) → same (tab w 6 (w RULE_TABLE + i * 6)) (rule_row σ (rule_at w i)) ≡ true
      → (conclusion_first i ≡ σ.1) × ((rule_next σ (rule_at w i)).1 ≡ σ.1 + conclusion_count w i)
  unfolding rule_at
  rule_conclusions_row i σ h =
      let o = w RULE_TABLE + i * 6 in
      (word_of w o 6 (rule_row σ (rule_at w i)) 3 (omega arith) h, ap (λ (x : ℕ). σ.1 + x) (length_tab (conclusion_at w) (w (o + 4)) (w (o + 3))))

  pub input_firsts_run : input_rows w ≡ true → Runs input_first (input_count w) (w INPUTS) 0 0
  unfolding input_rows
  input_firsts_run h = runs_from input_row input_next (input_at w) w (w INPUT_TABLE) 7 (λ n. n) input_first (input_count w) (λ i n e. input_row_lem i n e) (w INPUTS) 0 0 h

  pub input_terms_are : input_rows w ≡ true → input_terms (decode w) ≡ tab (term_at w) (input_terms_in w) 0
  unfolding decode input_at
  input_terms_are h =
      gather_runs (λ v. v.terms) (input_at w) (term_at w) input_first (input_count w) (w INPUTS) 0 0 (each _ (λ j. refl) (w INPUTS) 0) (input_firsts_run h)

  pub output_firsts_run : output_rows w ≡ true → Runs (output_first_at w) (output_count w) (w OUTPUTS) 0 (input_terms_in w)
  unfolding output_rows
  output_firsts_run h =
      runs_from output_row output_next (output_at w) w (w OUTPUT_TABLE) 11 (λ n. n) (output_first_at w) (output_count w) (λ i n e. output_row_lem i n e) (w OUTPUTS) 0 (input_terms_in w) h

  output_terms_are : output_rows w ≡ true → output_terms (decode w) ≡ tab (singleton_at w) (output_terms_in w) (input_terms_in w)
  unfolding decode output_at
  output_terms_are h =
      gather_runs (λ v. v.terms) (output_at w) (singleton_at w) (output_first_at w) (output_count w) (w OUTPUTS) 0 (input_terms_in w) (each _ (λ j. refl) (w OUTPUTS) 0)
      (output_firsts_run h)

  pub terms_are : input_rows w ≡ true → output_rows w ≡ true
      → terms (decode w) ≡ tab (term_at w) (input_terms_in w) 0 ++ tab (output_term_at w) (output_terms_in w) (input_terms_in w)
  terms_are h g =
      ap (λ (l : List Term). l ++ map singleton_term (output_terms (decode w))) (input_terms_are h)
      ∙ ap (λ (l : List Term). tab (term_at w) (input_terms_in w) 0 ++ l)
      (ap (λ (l : List Singleton). map singleton_term l) (output_terms_are g) ∙ map_tab singleton_term (singleton_at w) (output_terms_in w) (input_terms_in w))

  pub term_firsts_run : input_term_rows w ≡ true → Runs term_first (term_count w) (input_terms_in w) 0 0
  unfolding input_term_rows
  term_firsts_run h = runs_from term_row term_next (term_at w) w (w TERM_TABLE) 6 (λ n. n) term_first (term_count w) (λ i n e. term_row_lem i n e) (input_terms_in w) 0 0 h

  input_points : input_term_rows w ≡ true → gather (λ t. t.points) (tab (term_at w) (input_terms_in w) 0) ≡ tab (point_at w) (input_points_in w) 0
  unfolding term_at
  input_points h =
      gather_runs (λ t. t.points) (term_at w) (point_at w) term_first (term_count w) (input_terms_in w) 0 0 (each _ (λ j. refl) (input_terms_in w) 0) (term_firsts_run h)

  pub output_term_firsts_run : output_term_rows w ≡ true → Runs term_first (λ j. 1) (output_terms_in w) (input_terms_in w) (input_points_in w)
  unfolding output_term_rows
  output_term_firsts_run h =
      runs_from term_row term_next (output_term_at w) w (w TERM_TABLE) 6 (λ n. n) term_first (λ j. 1) (λ i n e. output_term_row i n e) (output_terms_in w) (input_terms_in w)
      (input_points_in w) h

  output_points : output_term_rows w ≡ true
      → gather (λ t. t.points) (tab (output_term_at w) (output_terms_in w) (input_terms_in w)) ≡ tab (output_point_at w) (output_terms_in w) (input_points_in w)
  unfolding singleton_at tab
  output_points h =
      gather_runs (λ t. t.points) (output_term_at w) (output_point_at w) term_first (λ j. 1) (output_terms_in w) (input_terms_in w) (input_points_in w)
      (each _ (λ j. refl) (output_terms_in w) (input_terms_in w)) (output_term_firsts_run h)
      ∙ ap (λ (n : ℕ). tab (output_point_at w) n (input_points_in w)) (sums_one (output_terms_in w) (input_terms_in w))

  pub points_are : input_rows w ≡ true → output_rows w ≡ true → input_term_rows w ≡ true → output_term_rows w ≡ true
      → points (decode w) ≡ tab (point_at w) (input_points_in w) 0 ++ tab (output_point_at w) (output_terms_in w) (input_points_in w)
  points_are h g k l =
      ap (gather (λ t. t.points)) (terms_are h g)
      ∙ gather_append (λ t. t.points) (tab (term_at w) (input_terms_in w) 0) (tab (output_term_at w) (output_terms_in w) (input_terms_in w))
      ∙ (λ j. input_points k j ++ output_points l j)

  pub word_firsts_run : rule_rows w ≡ true → Runs word_first (word_count w) (w RULES) 0 0
  unfolding rule_rows
  word_firsts_run h =
      runs_from rule_row rule_next (rule_at w) w (w RULE_TABLE) 6 (λ σ. σ.0) word_first (word_count w) (λ i σ e. rule_words_row i σ e) (w RULES) 0 (0, 0) h

  pub conclusion_firsts_run : rule_rows w ≡ true → Runs conclusion_first (conclusion_count w) (w RULES) 0 0
  unfolding rule_rows
  conclusion_firsts_run h =
      runs_from rule_row rule_next (rule_at w) w (w RULE_TABLE) 6 (λ σ. σ.1) conclusion_first (conclusion_count w) (λ i σ e. rule_conclusions_row i σ e) (w RULES) 0 (0, 0) h

  pub conclusions_are : rule_rows w ≡ true → conclusions (decode w) ≡ tab (conclusion_at w) (conclusions_in w) 0
  unfolding decode rule_at
  conclusions_are h =
      gather_runs (λ r. r.conclusions) (rule_at w) (conclusion_at w) conclusion_first (conclusion_count w) (w RULES) 0 0 (each _ (λ j. refl) (w RULES) 0)
      (conclusion_firsts_run h)

  exact_each : (k i : ℕ) → all (condition_exact w) (tab (λ j. j) k i) ≡ true
      → Each (λ j. postfix (rule_at w j).condition ≡ tab (λ m. w (w WORD_TABLE + m)) (word_count w j) (word_first j)) k i
  unfolding all tab Each condition_exact
  exact_each zero i h = tt
  exact_each (suc k) i h =
      let b = both (condition_exact w i) (all (condition_exact w) (tab (λ j. j) k (suc i))) h in
      (sym (same_eq _ _ b.0), exact_each k (suc i) b.1)

  pub conditions_are : rule_rows w ≡ true → condition_rows w ≡ true
      → gather (λ r. postfix r.condition) (decode w).rules ≡ tab (λ m. w (w WORD_TABLE + m)) (words_in w) 0
  unfolding condition_rows decode
  conditions_are h g =
      gather_runs (λ r. postfix r.condition) (rule_at w) (λ m. w (w WORD_TABLE + m)) word_first (word_count w) (w RULES) 0 0 (exact_each (w RULES) 0 g) (word_firsts_run h)
