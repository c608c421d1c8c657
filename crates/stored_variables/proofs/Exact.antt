-- Where the tables are laid out as a block's, each row begins with the exact words of its name, and a variable's terms
-- are rows of the table of terms.
use mathlib.Core.Path.{◌≡◌, refl, subst}
use mathlib.Core.List.{List, ◌++◌}
use mathlib.Core.Bool.{Bool, true, false}
use Prim.Native.Nat.{ℕ, zero, suc, ◌+◌, ◌*◌, ◌≤◌, ◌<◌}
use native.Mathlib.Omega.{arith}
use lib.Dec.{eqb}
use borrow.Author.Tests.{eqb-true, eqb-false}
use Rattle.model.specs.Basic.{same, tab}
use Rattle.model.specs.Image.{name_words, name_at, term_at, singleton_at, input_at, output_at, INPUT_TABLE, INPUTS, OUTPUT_TABLE, OUTPUTS, TERM_TABLE}
use Rattle.laws.proofs.Tests.{both, passed}
use Rattle.laws.proofs.Places.{at_cut}
use Rattle.layout.specs.Rows.{rows_ok}
use Rattle.layout.specs.Tables.{input_row, input_next, output_row, output_next, term_row, term_next, output_term_at, input_count, output_count, output_first_at, input_terms_in, output_terms_in, input_points_in, input_rows, output_rows, input_term_rows, output_term_rows, name_exact}
use Rattle.layout.specs.Groups.{tables_ok}
use Rattle.layout.proofs.RowLaws.{stands, stood}
use Rattle.layout.proofs.Parts.{input_firsts_run, output_firsts_run, input_first}
use Rattle.layout.proofs.Within.{run_ends}

-- P holds of n numbers from i on
abbrev pub Span : (ℕ → Type 0) → ℕ → ℕ → Type 0
Span P n i = (k : ℕ) → i ≤ k → k < i + n → P k

pub no_span : (P : ℕ → Type 0) (i : ℕ) → Span P 0 i
no_span P i k a b = absurd (omega arith)

pub span : (P : ℕ → Type 0) (n i : ℕ) → P i → Span P n (suc i) → Span P (suc n) i
span P n i p q k a b = go (eqb i k) refl
  where
    go : (t : Bool) → eqb i k ≡ t → P k
    go true e = subst P (eqb-true i k e) p
    go false e = let z = eqb-false i k e in q k (omega arith) (omega arith)

-- n rows from i on begin with the exact words of a name
abbrev pub Laid : (ℕ → ℕ) → ℕ → ℕ → ℕ → ℕ → Type 0
Laid w o s n i = Span (λ k. name_exact w (o + k * s) ≡ true) n i

exact_row : (w : ℕ → ℕ) (o s : ℕ) (xs : List ℕ) → same (tab w s o) (name_words (name_at w o) ++ xs) ≡ true → name_exact w o ≡ true
unfolding name_exact name_words
exact_row w o s xs h =
    let v = name_words (name_at w o) in
    stood w o 4 v refl (at_cut w o v xs (stands w o s (v ++ xs) h)).0

exact_rows : {R : Type 0} (enc : ℕ → R → List ℕ) (next : ℕ → R → ℕ) (dec : ℕ → R) (w : ℕ → ℕ) (o s : ℕ)
    → ((i σ : ℕ) → same (tab w s (o + i * s)) (enc σ (dec i)) ≡ true → name_exact w (o + i * s) ≡ true)
    → (n i σ : ℕ) → rows_ok enc next dec w o s n i σ ≡ true → Laid w o s n i
unfolding rows_ok
exact_rows enc next dec w o s f zero i σ h = no_span _ i
exact_rows enc next dec w o s f (suc n) i σ h =
    let c = both (same (tab w s (o + i * s)) (enc σ (dec i))) (rows_ok enc next dec w o s n (suc i) (next σ (dec i))) h in
    span (λ k. name_exact w (o + k * s) ≡ true) n i (f i σ c.0) (exact_rows enc next dec w o s f n (suc i) (next σ (dec i)) c.1)

module _ (w : ℕ → ℕ) where
  inputs_exact : input_rows w ≡ true → Laid w (w INPUT_TABLE) 7 (w INPUTS) 0
  unfolding input_rows input_at
  inputs_exact h = exact_rows input_row input_next (input_at w) w (w INPUT_TABLE) 7 (λ i σ e. exact_row w (w INPUT_TABLE + i * 7) 7 _ e) (w INPUTS) 0 0 h

  outputs_exact : output_rows w ≡ true → Laid w (w OUTPUT_TABLE) 11 (w OUTPUTS) 0
  unfolding output_rows output_at
  outputs_exact h = exact_rows output_row output_next (output_at w) w (w OUTPUT_TABLE) 11 (λ i σ e. exact_row w (w OUTPUT_TABLE + i * 11) 11 _ e) (w OUTPUTS) 0 (input_terms_in w) h

  input_terms_exact : input_term_rows w ≡ true → Laid w (w TERM_TABLE) 6 (input_terms_in w) 0
  unfolding input_term_rows term_at
  input_terms_exact h = exact_rows term_row term_next (term_at w) w (w TERM_TABLE) 6 (λ i σ e. exact_row w (w TERM_TABLE + i * 6) 6 _ e) (input_terms_in w) 0 0 h

  output_terms_exact : output_term_rows w ≡ true → Laid w (w TERM_TABLE) 6 (output_terms_in w) (input_terms_in w)
  unfolding output_term_rows singleton_at
  output_terms_exact h =
      exact_rows term_row term_next (output_term_at w) w (w TERM_TABLE) 6 (λ i σ e. exact_row w (w TERM_TABLE + i * 6) 6 _ e) (output_terms_in w) (input_terms_in w) (input_points_in w) h

  -- all names are exact
  pub record Names : Type 0 where
    pub inputs : Laid w (w INPUT_TABLE) 7 (w INPUTS) 0
    pub outputs : Laid w (w OUTPUT_TABLE) 11 (w OUTPUTS) 0
    pub input_terms : (i : ℕ) → i < w INPUTS → Laid w (w TERM_TABLE) 6 (input_count w i) (input_first w i)
    pub output_terms : (i : ℕ) → i < w OUTPUTS → Laid w (w TERM_TABLE) 6 (output_count w i) (output_first_at w i)

  pub exact_names : tables_ok w ≡ true → Names
  unfolding tables_ok
  exact_names h =
      let f = passed _ h in
      let ir = f.1.0 in
      let or = f.1.1.0 in
      let ti = input_terms_exact f.1.1.1.0 in
      let to = output_terms_exact f.1.1.1.1.0 in
      record {
        inputs = inputs_exact ir;
        outputs = outputs_exact or;
        input_terms = λ i l k a b.
            let q = run_ends (input_first w) (input_count w) (w INPUTS) 0 0 i (omega arith) (omega arith) (input_firsts_run w ir) in
            ti k (omega arith) (omega (arith, q.1));
        output_terms = λ i l k a b.
            let q = run_ends (output_first_at w) (output_count w) (w OUTPUTS) 0 (input_terms_in w) i (omega arith) (omega arith) (output_firsts_run w or) in
            to k (omega (arith, q.0)) (omega (arith, q.1));
      }
