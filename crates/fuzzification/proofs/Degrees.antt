-- The degrees of the terms of the first inputs, and of one input more.
use mathlib.Core.Path.{◌≡◌, refl, sym, ap, ◌∙◌}
use mathlib.Core.List.{List, [], ◌∷◌, ◌++◌, map, append_assoc, append-nil, map-append}
use Prim.Native.Nat.{ℕ, zero, suc, ◌+◌, ◌-◌, ◌≤◌, ◌<◌}
use native.Mathlib.Omega.{arith}
use lib.IntN.{ℤ, pos}
use lib.ListN.{length, length-append, length-map, get_or, replicate}
use lib.Seq.{sets}
use Rattle.model.specs.Basic.{tab}
use Rattle.model.specs.Block.{Term, Input}
use Rattle.model.specs.Degrees.{term_degree}
use Rattle.model.specs.Evaluation.{term_degrees}
use Rattle.model.specs.Image.{term_at, input_at, INPUTS}
use Rattle.laws.proofs.Places.{length_tab}
use Rattle.layout.specs.Tables.{sums, input_count}
use Rattle.layout.specs.Groups.{Sound}
use Rattle.layout.proofs.Parts.{input_first}
use Rattle.layout.proofs.Inputs.{first_is}
use Rattle.input_values.specs.Filled.{filled}
use Rattle.input_values.proofs.Fill.{tab_more}
use Rattle.laws.proofs.Lists.{sets_append}

abbrev pub degrees_at : ℤ → List Term → List ℕ
degrees_at x ts = map (λ t. term_degree t.points x) ts

pub length_at : (x : ℤ) (f : ℕ → Term) (k s : ℕ) → length (degrees_at x (tab f k s)) ≡ k
length_at x f k s = length-map (tab f k s) (λ (t : Term). term_degree t.points x) ∙ length_tab f k s

pub term_more : (x : ℤ) (f : ℕ → Term) (k s : ℕ) → degrees_at x (tab f (k + 1) s) ≡ degrees_at x (tab f k s) ++ (term_degree (f (s + k)).points x ∷ [])
term_more x f k s = ap (degrees_at x) (tab_more f k s) ∙ map-append (λ (t : Term). term_degree t.points x) (tab f k s) (f (s + k) ∷ [])

degrees_more : (us : List Input) (v : Input) (xs : List ℤ) → length us < length xs
    → term_degrees (us ++ (v ∷ [])) xs ≡ term_degrees us xs ++ degrees_at (get_or xs (length us) (pos 0)) v.terms
unfolding term_degrees
degrees_more us v [] h = absurd (omega arith)
degrees_more [] v (x ∷ xs) h = append-nil (degrees_at x v.terms)
degrees_more (u ∷ us) v (x ∷ xs) h =
    let d = degrees_at x u.terms in
    ap (λ (l : List ℕ). d ++ l) (degrees_more us v xs (omega arith))
    ∙ sym (append_assoc d (term_degrees us xs) (degrees_at (get_or xs (length us) (pos 0)) v.terms))

module _ (w : ℕ → ℕ) where
  pub length_degrees : (k s : ℕ) (xs : List ℤ) → k ≤ length xs → length (term_degrees (tab (input_at w) k s) xs) ≡ sums (input_count w) k s
  unfolding term_degrees tab sums input_at
  length_degrees zero s xs h = refl
  length_degrees (suc k) s [] h = absurd (omega arith)
  length_degrees (suc k) s (x ∷ xs) h =
      length-append (degrees_at x (tab (term_at w) (input_count w s) (input_first w s))) (term_degrees (tab (input_at w) k (suc s)) xs)
      ∙ omega (arith, length_at x (term_at w) (input_count w s) (input_first w s), length_degrees k (suc s) xs (omega arith))

  degrees_next : (i : ℕ) (xs : List ℤ) → Sound w → i < w INPUTS → i < length xs
      → term_degrees (tab (input_at w) (i + 1) 0) xs
      ≡ term_degrees (tab (input_at w) i 0) xs ++ degrees_at (get_or xs i (pos 0)) (tab (term_at w) (input_count w i) (sums (input_count w) i 0))
  unfolding input_at
  degrees_next i xs s h k =
      let us = tab (input_at w) i 0 in
      let n : length us ≡ i = length_tab (input_at w) i 0 in
      let e : 0 + i ≡ i = omega arith in
      ap (λ (l : List Input). term_degrees l xs) (tab_more (input_at w) i 0)
      ∙ ap (λ (j : ℕ). term_degrees (us ++ (input_at w j ∷ [])) xs) e
      ∙ degrees_more us (input_at w i) xs (omega (arith, n))
      ∙ ap (λ (j : ℕ). term_degrees us xs ++ degrees_at (get_or xs j (pos 0)) (tab (term_at w) (input_count w i) (input_first w i))) n
      ∙ ap (λ (f : ℕ). term_degrees us xs ++ degrees_at (get_or xs i (pos 0)) (tab (term_at w) (input_count w i) f)) (first_is w i s h)

  -- one input more in an array, by the numbers that were read
  pub input_more : (i p n : ℕ) (x : ℤ) (xs : List ℤ) (l₀ ds ds' : List ℕ) → Sound w → i < w INPUTS → i < length xs
      → p ≡ sums (input_count w) i 0 → n ≡ input_count w i → x ≡ get_or xs i (pos 0)
      → ds ≡ sets l₀ 0 (term_degrees (tab (input_at w) i 0) xs) → ds' ≡ sets ds p (degrees_at x (tab (term_at w) n p))
      → ds' ≡ sets l₀ 0 (term_degrees (tab (input_at w) (i + 1) 0) xs)
  input_more i p n x xs l₀ ds ds' s h k ep en ex g g' =
      let d = term_degrees (tab (input_at w) i 0) xs in
      let m = degrees_at (get_or xs i (pos 0)) (tab (term_at w) (input_count w i) (sums (input_count w) i 0)) in
      let q : sums (input_count w) i 0 ≡ 0 + length d = omega (arith, length_degrees i 0 xs (omega arith)) in
      g'
      ∙ (λ j. sets (g j) (ep j) (degrees_at (ex j) (tab (term_at w) (en j) (ep j))))
      ∙ ap (λ (a : ℕ). sets (sets l₀ 0 d) a m) q
      ∙ sym (sets_append l₀ 0 d m)
      ∙ ap (λ (l : List ℕ). sets l₀ 0 l) (sym (degrees_next i xs s h k))

-- values past the inputs have no effect
past_inputs : (vs : List Input) (xs ys : List ℤ) → length vs ≤ length xs → term_degrees vs (xs ++ ys) ≡ term_degrees vs xs
unfolding term_degrees
past_inputs [] xs ys h = refl
past_inputs (v ∷ vs) [] ys h = absurd (omega arith)
past_inputs (v ∷ vs) (x ∷ xs) ys h = ap (λ (l : List ℕ). degrees_at x v.terms ++ l) (past_inputs vs xs ys (omega arith))

-- in an array of n
pub degrees_of_call : (vs : List Input) (n : ℕ) (xs ys : List ℤ) → xs ≡ filled n (pos 0) ys → length vs ≤ length ys → term_degrees vs xs ≡ term_degrees vs ys
degrees_of_call vs n xs ys e h = ap (term_degrees vs) e ∙ past_inputs vs ys (replicate (n - length ys) (pos 0)) h
