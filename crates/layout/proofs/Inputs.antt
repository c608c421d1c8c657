-- What an accepted image says of its inputs, and of a term's points.
use mathlib.Core.Path.{◌≡◌, sym, ap, ◌∙◌, subst}
use mathlib.Core.Bool.{true}
use Prim.Native.Nat.{ℕ, zero, suc, ◌+◌, ◌*◌, ◌≤◌, ◌<◌}
use native.Mathlib.Omega.{arith}
use borrow.Author.Tests.{leb-true}
use lib.Dec.{leb}
use lib.ListN.{length}
use Rattle.model.specs.Basic.{all, tab}
use Rattle.model.specs.Bounds.{input_limit, term_limit, point_least, point_limit, input_term_limit}
use Rattle.model.specs.WellFormed.{point_ok, term_ok, input_ok}
use Rattle.model.specs.Image.{point_at, term_at, input_at, decode, INPUTS, TERM_TABLE}
use Rattle.laws.proofs.Lists.{all_at}
use Rattle.laws.proofs.Tests.{both, passed}
use Rattle.laws.proofs.Places.{length_tab}
use Rattle.layout.specs.Tables.{sums, input_count, term_count, input_terms_in}
use Rattle.layout.specs.Groups.{Sound, tables_ok, variables_ok}
use Rattle.layout.proofs.Sound.{runs_at, sums_le}
use Rattle.layout.proofs.Parts.{input_first, input_firsts_run}

pub sums_last : (c : ℕ → ℕ) (k s : ℕ) → sums c (k + 1) s ≡ sums c k s + c (s + k)
unfolding sums
sums_last c zero s = let q : s + 0 ≡ s = omega arith in rw q (omega arith)
sums_last c (suc k) s =
    let e : suc k + 1 ≡ suc (k + 1) = omega arith in
    let q : s + suc k ≡ suc s + k = omega arith in
    rw (e, q) (omega (arith, sums_last c k (suc s)))

module _ (w : ℕ → ℕ) where
  pub input_limit_lem : Sound w → w INPUTS ≤ input_limit
  unfolding variables_ok decode
  input_limit_lem s =
      let v = passed _ s.variables in
      let n = length (tab (input_at w) (w INPUTS) 0) in
      omega (arith, length_tab (input_at w) (w INPUTS) 0, leb-true n input_limit (both (leb 1 n) (leb n input_limit) v.1.1.0).1)

  input_ok_lem : (i : ℕ) → Sound w → i < w INPUTS → input_ok (input_at w i) ≡ true
  unfolding variables_ok decode
  input_ok_lem i s h =
      let v = passed _ s.variables in
      let e : 0 + i ≡ i = omega arith in
      subst (λ (k : ℕ). input_ok (input_at w k) ≡ true) e (all_at input_ok (input_at w) (w INPUTS) 0 i h v.1.1.1.1.0)

  pub first_is : (i : ℕ) → Sound w → i < w INPUTS → input_first w i ≡ sums (input_count w) i 0
  unfolding tables_ok
  first_is i s h =
      let v = passed _ s.frame in
      let e : 0 + i ≡ i = omega arith in
      let q : 0 + sums (input_count w) i 0 ≡ sums (input_count w) i 0 = omega arith in
      ap (input_first w) (sym e) ∙ runs_at (input_first w) (input_count w) (w INPUTS) 0 0 i h (input_firsts_run w v.1.0) ∙ q

  terms_few : (i : ℕ) → input_ok (input_at w i) ≡ true → input_count w i ≤ term_limit
  unfolding input_ok input_at
  terms_few i h =
      let n = length (tab (term_at w) (input_count w i) (input_first w i)) in
      let few = leb-true n term_limit (both (leb 1 n) (leb n term_limit) (passed _ h).1.0).1 in
      omega (arith, length_tab (term_at w) (input_count w i) (input_first w i), few)

  terms_ok : (i : ℕ) → input_ok (input_at w i) ≡ true → all term_ok (tab (term_at w) (input_count w i) (input_first w i)) ≡ true
  unfolding input_ok input_at
  terms_ok i h = (passed _ h).1.1.0

  -- all of them
  pub input_terms_few : Sound w → input_terms_in w ≤ input_term_limit
  input_terms_few s =
      let few = sums_le (input_count w) term_limit (w INPUTS) 0 (λ j l. terms_few j (input_ok_lem j s (omega arith))) in
      omega (arith, few, input_limit_lem s)

  pub points_few : (t : ℕ) → term_ok (term_at w t) ≡ true → (1 ≤ term_count w t) × (term_count w t ≤ point_limit)
  unfolding term_ok term_at
  points_few t h =
      let n = length (tab (point_at w) (term_count w t) (w (w TERM_TABLE + t * 6 + 4))) in
      let e = length_tab (point_at w) (term_count w t) (w (w TERM_TABLE + t * 6 + 4)) in
      let b = both (leb point_least n) (leb n point_limit) (passed _ h).1.0 in
      (omega (arith, e, leb-true point_least n b.0), omega (arith, e, leb-true n point_limit b.1))

  pub points_ok : (t : ℕ) → term_ok (term_at w t) ≡ true → all point_ok (term_at w t).points ≡ true
  unfolding term_ok
  points_ok t h = (passed _ h).1.1.0

  -- the terms of input i, from its first on
  pub accepted_terms : (i first count : ℕ) → Sound w → i < w INPUTS → first ≡ sums (input_count w) i 0 → count ≡ input_count w i
      → (count ≤ term_limit) × (all term_ok (tab (term_at w) count first) ≡ true)
  accepted_terms i first count s h ef ec =
      let k = input_ok_lem i s h in
      let e = ef ∙ sym (first_is i s h) in
      (omega (arith, terms_few i k), (λ j. all term_ok (tab (term_at w) (ec j) (e j))) ∙ terms_ok i k)
