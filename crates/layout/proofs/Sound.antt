-- What an accepted image says of its outputs: where their terms stand, how many they are, and that their positions are crisp.
use mathlib.Core.Path.{◌≡◌, sym, ap, ◌∙◌}
use mathlib.Core.Bool.{true, ◌&&◌}
use mathlib.Core.List.{List, []}
use Prim.Native.Nat.{ℕ, zero, suc, ◌+◌, ◌*◌, ◌-◌, ◌≤◌, ◌<◌}
use native.Mathlib.Nat.{zero-add, suc-mul}
use native.Mathlib.Omega.{arith}
use lib.Dec.{leb}
use lib.IntN.{ℤ, nat_abs}
use lib.ListN.{length, get_or}
use borrow.Author.Tests.{leb-true}
use Rattle.model.specs.Basic.{total, tab}
use Rattle.model.specs.Bounds.{crisp_limit, output_limit, term_limit, output_term_limit}
use Rattle.model.specs.Block.{Singleton, Output, input_terms, output_first, singletons_of, in_range}
use Rattle.model.specs.Tokens.{is_name, in_crisp}
use Rattle.model.specs.WellFormed.{output_ok, singleton_ok}
use Rattle.model.specs.Image.{term_at, singleton_at, output_at, decode, OUTPUT_TABLE, OUTPUTS}
use Rattle.laws.proofs.Lists.{map_tab, all_at}
use Rattle.laws.proofs.Tests.{both, passed}
use Rattle.laws.proofs.Places.{length_tab, tab_nth, take_tab}
use Rattle.layout.specs.Tables.{sums, output_count, output_first_at, input_terms_in}
use Rattle.layout.specs.Groups.{tables_ok, variables_ok, Sound}
use Rattle.layout.proofs.TableLaws.{Runs, total_sums}
use Rattle.layout.proofs.Parts.{output_firsts_run, input_terms_are}

-- one first of a run
pub runs_at : (f c : ℕ → ℕ) (k i p j : ℕ) → j < k → Runs f c k i p → f (i + j) ≡ p + sums c j i
unfolding Runs sums
runs_at f c zero i p j h r = absurd (omega arith)
runs_at f c (suc k) i p zero h r = ap f (omega arith) ∙ r.0 ∙ omega arith
runs_at f c (suc k) i p (suc j) h r = ap f (omega arith) ∙ runs_at f c k (suc i) (p + c i) j (omega arith) r.1 ∙ omega arith

-- sums of small counts
pub sums_le : (c : ℕ → ℕ) (m : ℕ) (k i : ℕ) → ((j : ℕ) → j < i + k → c j ≤ m) → sums c k i ≤ k * m
unfolding sums
sums_le c m zero i h = omega arith
sums_le c m (suc k) i h = omega (arith, h i (omega arith), sums_le c m k (suc i) (λ j l. h j (omega arith)), suc-mul k m)

pub own_few : (v : Output) → output_ok v ≡ true → length v.terms ≤ term_limit
unfolding output_ok
own_few v h =
    let n = length v.terms in
    leb-true n term_limit (both (leb 1 n) (leb n term_limit) (passed _ h).1.0).1

-- the terms of output o
pub output_terms_lem : (w : ℕ → ℕ) (o : ℕ) → o < w OUTPUTS → length (singletons_of o (decode w)) ≡ output_count w o
unfolding singletons_of decode output_at
output_terms_lem w o h =
    let own : ℕ → List Singleton = λ i. tab (singleton_at w) (output_count w i) (output_first_at w i) in
    ap (λ (l : List (List Singleton)). length (get_or l o [])) (map_tab (λ v. v.terms) (output_at w) (w OUTPUTS) 0)
    ∙ ap length (tab_nth own (w OUTPUTS) 0 o [] h ∙ ap own (zero-add o))
    ∙ length_tab (singleton_at w) (output_count w o) (output_first_at w o)

module _ (w : ℕ → ℕ) (frame : tables_ok w ≡ true) where
  pub input_terms_lem : length (input_terms (decode w)) ≡ input_terms_in w
  unfolding tables_ok
  input_terms_lem = ap length (input_terms_are w (passed _ frame).1.0) ∙ length_tab (term_at w) (input_terms_in w) 0

  firsts_run : Runs (output_first_at w) (output_count w) (w OUTPUTS) 0 (input_terms_in w)
  unfolding tables_ok
  firsts_run = output_firsts_run w (passed _ frame).1.1.0

  pub first_is : (i : ℕ) → i < w OUTPUTS → output_first_at w i ≡ input_terms_in w + sums (output_count w) i 0
  first_is i h = ap (output_first_at w) (omega arith) ∙ runs_at (output_first_at w) (output_count w) (w OUTPUTS) 0 (input_terms_in w) i h firsts_run

  -- it is the first that the block counts
  pub output_first_lem : (i : ℕ) → i < w OUTPUTS → output_first i (decode w) ≡ output_first_at w i
  unfolding output_first decode output_at
  output_first_lem i h =
      let size : Output → ℕ = λ v. length v.terms in
      let counts = total_sums size (output_at w) (output_count w) (λ j. length_tab (singleton_at w) (output_count w j) (output_first_at w j)) i 0 in
      (λ j. input_terms_lem j + total size (take_tab (output_at w) (w OUTPUTS) i 0 (omega arith) j))
      ∙ ap (λ (k : ℕ). input_terms_in w + k) counts
      ∙ sym (first_is i h)

module _ (w : ℕ → ℕ) (s : Sound w) where
  pub outputs_few : w OUTPUTS ≤ output_limit
  unfolding variables_ok decode
  outputs_few =
      let n = length (tab (output_at w) (w OUTPUTS) 0) in
      let l : n ≤ output_limit = leb-true _ _ (both (leb 1 n) (leb n output_limit) (passed _ s.variables).1.1.1.0).1 in
      omega (arith, length_tab (output_at w) (w OUTPUTS) 0)

  good : (i : ℕ) → i < w OUTPUTS → output_ok (output_at w i) ≡ true
  unfolding variables_ok decode
  good i h = ap (λ (k : ℕ). output_ok (output_at w k)) (omega arith) ∙ all_at output_ok (output_at w) (w OUTPUTS) 0 i h (passed _ s.variables).1.1.1.1.1.0

  pub terms_few : (i : ℕ) → i < w OUTPUTS → output_count w i ≤ term_limit
  unfolding output_at
  terms_few i h =
      let l = own_few (output_at w i) (good i h) in
      omega (arith, length_tab (singleton_at w) (w (w OUTPUT_TABLE + i * 11 + 5)) (w (w OUTPUT_TABLE + i * 11 + 4)))

  -- the terms before output i
  pub before_few : (i : ℕ) → i < w OUTPUTS → sums (output_count w) i 0 ≤ i * term_limit
  before_few i h = sums_le (output_count w) term_limit i 0 (λ j l. terms_few j (omega arith))

  pub positions_crisp : (i : ℕ) → i < w OUTPUTS → (k : ℕ) → k < output_count w i → nat_abs (singleton_at w (output_first_at w i + k)).at ≤ crisp_limit
  unfolding output_ok output_at singleton_ok
  positions_crisp i h k l =
      let g = (output_at w i).range in
      let a = all_at (singleton_ok g) (singleton_at w) (output_count w i) (output_first_at w i) k l (passed _ (good i h)).1.1.1.0 in
      leb-true _ _ (both (in_crisp x) (in_range g x) (both (is_name (singleton_at w (output_first_at w i + k)).name) (in_crisp x && in_range g x) a).1).0
    where
      x : ℤ
      x = (singleton_at w (output_first_at w i + k)).at

  -- in numbers
  pub output_numbers : (i : ℕ) → i < w OUTPUTS
      → (i < output_limit) × (output_count w i ≤ term_limit) × (input_terms_in w ≤ output_first_at w i)
      × (output_first_at w i - input_terms_in w + output_count w i ≤ output_term_limit)
  output_numbers i h = omega (arith, outputs_few, terms_few i h, first_is w s.frame i h, before_few i h)
