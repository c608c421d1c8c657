-- What the rows of tables name lies in the tables, and the tables lie in the image.
use mathlib.Core.Path.{◌≡◌}
use mathlib.Core.Bool.{true}
use mathlib.Core.List.{List}
use Prim.Native.Nat.{ℕ, zero, suc, ◌+◌, ◌-◌, ◌*◌, ◌≤◌, ◌<◌}
use native.Mathlib.Omega.{arith}
use borrow.Author.Tests.{eqb-true}
use lib.ListN.{length}
use Rattle.model.specs.Image.{header_size, word_at, CONCLUSION_TABLE, CONCLUSIONS, INPUT_TABLE, INPUTS, OUTPUT_TABLE, OUTPUTS, POINT_TABLE, POINTS, RULE_TABLE, RULES, TERM_TABLE, TERMS, TOTAL, WORD_TABLE, WORDS}
use Rattle.laws.proofs.Tests.{passed}
use Rattle.header.specs.declared.Header.{Header}
use Rattle.header.specs.Header.{Heads, Covers}
use Rattle.layout.specs.Tables.{sums, input_count, output_count, output_first_at, term_count, word_count, conclusion_count, input_terms_in, output_terms_in, input_points_in, words_in, conclusions_in, header_ok}
use Rattle.layout.specs.Groups.{tables_ok, rules_ok}
use Rattle.layout.proofs.TableLaws.{Runs, sums_one}
use Rattle.layout.proofs.Parts.{input_first, term_first, word_first, conclusion_first, input_firsts_run, output_firsts_run, term_firsts_run, output_term_firsts_run, word_firsts_run, conclusion_firsts_run}

-- each table starts where the one before it ends
offsets : (w : ℕ → ℕ) → header_ok w ≡ true
    → (w INPUT_TABLE ≡ 28) × (w OUTPUT_TABLE ≡ w INPUT_TABLE + w INPUTS * 7) × (w TERM_TABLE ≡ w OUTPUT_TABLE + w OUTPUTS * 11) × (w POINT_TABLE ≡ w TERM_TABLE + w TERMS * 6) × (w RULE_TABLE ≡ w POINT_TABLE + w POINTS * 2) × (w WORD_TABLE ≡ w RULE_TABLE + w RULES * 6)
    × (w CONCLUSION_TABLE ≡ w WORD_TABLE + w WORDS) × (w TOTAL ≡ w CONCLUSION_TABLE + w CONCLUSIONS * 2)
unfolding header_ok
offsets w ok =
    let t = (passed _ ok).1 in
    let q = t.1.1.1.1 in (
      eqb-true (w INPUT_TABLE) 28 t.0,
      eqb-true (w OUTPUT_TABLE) (w INPUT_TABLE + w INPUTS * 7) t.1.0,
      eqb-true (w TERM_TABLE) (w OUTPUT_TABLE + w OUTPUTS * 11) t.1.1.0,
      eqb-true (w POINT_TABLE) (w TERM_TABLE + w TERMS * 6) t.1.1.1.0,
      eqb-true (w RULE_TABLE) (w POINT_TABLE + w POINTS * 2) q.0,
      eqb-true (w WORD_TABLE) (w RULE_TABLE + w RULES * 6) q.1.0,
      eqb-true (w CONCLUSION_TABLE) (w WORD_TABLE + w WORDS) q.1.1.0,
      eqb-true (w TOTAL) (w CONCLUSION_TABLE + w CONCLUSIONS * 2) q.1.1.1.0,
    )

-- an image of the length that its header says holds its header and its tables
module _ (bytes : List ℕ) (long : length bytes ≡ word_at bytes 1 * 4) (ok : header_ok (word_at bytes) ≡ true) where
  pub header_within : header_size * 4 ≤ length bytes
  header_within = omega (arith, long, offsets (word_at bytes) ok)

  pub holds : (h : Header) → Heads (word_at bytes) h → Covers bytes h
  holds h e =
      let o = offsets (word_at bytes) ok in
      record {
        head = header_within;
        inputs = omega (arith, long, o, e.inputs.rows, e.inputs.start);
        outputs = omega (arith, long, o, e.outputs.rows, e.outputs.start);
        terms = omega (arith, long, o, e.terms.rows, e.terms.start);
        points = omega (arith, long, o, e.points.rows, e.points.start);
        rules = omega (arith, long, o, e.rules.rows, e.rules.start);
        words = omega (arith, long, o, e.words.rows, e.words.start);
        conclusions = omega (arith, long, o, e.conclusions.rows, e.conclusions.start);
      }

ends : (f c : ℕ → ℕ) (k i p j : ℕ) → j < k → Runs f c k i p → (p ≤ f (i + j)) × (f (i + j) + c (i + j) ≤ p + sums c k i)
unfolding Runs sums
ends f c zero i p j l r = absurd (omega arith)
ends f c (suc k) i p zero l r = let e : i + 0 ≡ i = omega arith in rw e (omega (arith, r.0), omega (arith, r.0))
ends f c (suc k) i p (suc j) l r =
    let e : i + suc j ≡ suc i + j = omega arith in
    let q = ends f c k (suc i) (p + c i) j (omega arith) r.1 in
    rw e (omega (arith, q.0), omega (arith, q.1))

-- what row j of a run names ends within all that the run names
pub run_ends : (f c : ℕ → ℕ) (k i p j : ℕ) → i ≤ j → j < i + k → Runs f c k i p → (p ≤ f j) × (f j + c j ≤ p + sums c k i)
run_ends f c k i p j g l r = let e : i + (j - i) ≡ j = omega arith in rw e at (ends f c k i p (j - i) (omega arith) r)

module _ (w : ℕ → ℕ) (frame : tables_ok w ≡ true) where
  totals : (w TERMS ≡ input_terms_in w + output_terms_in w) × (w POINTS ≡ input_points_in w + output_terms_in w)
  unfolding tables_ok
  totals =
      let t = (passed _ frame).1.1.1.1.1.1 in
      (eqb-true (w TERMS) (input_terms_in w + output_terms_in w) t.0, eqb-true (w POINTS) (input_points_in w + output_terms_in w) t.1.0)

  pub inputs_first : input_terms_in w ≤ w TERMS
  inputs_first = omega (arith, totals.0)

  -- the terms of input i are among those of the inputs
  pub input_terms_within : (i : ℕ) → i < w INPUTS → (input_first w i + input_count w i ≤ input_terms_in w) × (input_terms_in w ≤ w TERMS)
  unfolding tables_ok
  input_terms_within i l =
      let q = run_ends (input_first w) (input_count w) (w INPUTS) 0 0 i (omega arith) (omega arith) (input_firsts_run w (passed _ frame).1.0) in
      (omega (arith, q.1), inputs_first)

  -- and those of output i behind them
  pub output_terms_within : (i : ℕ) → i < w OUTPUTS → (input_terms_in w ≤ output_first_at w i) × (output_first_at w i + output_count w i ≤ w TERMS)
  unfolding tables_ok
  output_terms_within i l =
      let r = output_firsts_run w (passed _ frame).1.1.0 in
      let q = run_ends (output_first_at w) (output_count w) (w OUTPUTS) 0 (input_terms_in w) i (omega arith) (omega arith) r in
      (q.0, omega (arith, q.1, totals.0))

  -- the points of an input's term t
  pub points_within : (t : ℕ) → t < input_terms_in w → term_first w t + term_count w t ≤ w POINTS
  unfolding tables_ok
  points_within t l =
      let r = term_firsts_run w (passed _ frame).1.1.1.0 in
      omega (arith, totals.1, (run_ends (term_first w) (term_count w) (input_terms_in w) 0 0 t (omega arith) (omega arith) r).1)

  -- the point of an output's term t
  pub point_within : (t : ℕ) → input_terms_in w ≤ t → t < w TERMS → term_first w t < w POINTS
  unfolding tables_ok
  point_within t g l =
      let r = output_term_firsts_run w (passed _ frame).1.1.1.1.0 in
      let q = (run_ends (term_first w) (λ j. 1) (output_terms_in w) (input_terms_in w) (input_points_in w) t g (omega (arith, totals.0)) r).1 in
      omega (arith, totals.1, q, sums_one (output_terms_in w) (input_terms_in w))

-- condition words and conclusions of rule i
module _ (w : ℕ → ℕ) (rules : rules_ok w ≡ true) (i : ℕ) (l : i < w RULES) where
  pub words_within : word_first w i + word_count w i ≤ w WORDS
  unfolding rules_ok
  words_within =
      let t = passed _ rules in
      let q = (run_ends (word_first w) (word_count w) (w RULES) 0 0 i (omega arith) (omega arith) (word_firsts_run w t.0)).1 in
      omega (arith, eqb-true (w WORDS) (words_in w) t.1.1.0, q)

  pub conclusions_within : conclusion_first w i + conclusion_count w i ≤ w CONCLUSIONS
  unfolding rules_ok
  conclusions_within =
      let t = passed _ rules in
      let q = (run_ends (conclusion_first w) (conclusion_count w) (w RULES) 0 0 i (omega arith) (omega arith) (conclusion_firsts_run w t.0)).1 in
      omega (arith, eqb-true (w CONCLUSIONS) (conclusions_in w) t.1.1.1.0, q)
