-- What an accepted image says of each rule's degree and of the terms that it concludes.
use mathlib.Core.Path.{◌≡◌, refl, ap, ◌∙◌}
use mathlib.Core.List.{List, [], ◌∷◌, map}
use mathlib.Core.Bool.{true}
use Prim.Native.Nat.{ℕ, zero, suc, ◌+◌, ◌*◌, ◌%◌, ◌≤◌, ◌<◌}
use native.Mathlib.Omega.{arith}
use borrow.Author.Tests.{leb-true, ltb-true}
use lib.Dec.{leb, eqb}
use lib.ListN.{length, take, get_or}
use Rattle.model.specs.Basic.{all, total}
use Rattle.model.specs.Bounds.{M, output_limit, term_limit, output_term_limit}
use Rattle.model.specs.declared.Pair.{Pair}
use Rattle.model.specs.Block.{Output, output_first, singletons_of}
use Rattle.model.specs.Degrees.{prod_of, condition_degree}
use Rattle.model.specs.Evaluation.{rule_degree}
use Rattle.model.specs.Image.{pair_of, decode, rule_place, rule_at, conclusion_place, conclusion_at, RULES, PAIR_WORD}
use Rattle.model.specs.WellFormed.{unit_ok, output_ok, conclusion_ok}
use Rattle.laws.proofs.Tests.{both, passed}
use Rattle.layout.specs.Tables.{input_terms_in}
use Rattle.layout.specs.Groups.{Sound, variables_ok}
use Rattle.layout.proofs.Sound.{own_few, input_terms_lem}
use Rattle.layout.proofs.Rules.{rule_parts, conclusion_good}

-- the terms of the outputs before o, and of o
terms_before : (vs : List Output) (o : ℕ) → all output_ok vs ≡ true
    → total (λ v. length v.terms) (take o vs) + length (get_or (map (λ v. v.terms) vs) o []) ≤ term_limit * length vs
unfolding all total
terms_before [] zero e = omega arith
terms_before [] (suc o) e = omega arith
terms_before (v ∷ vs) zero e = omega (arith, own_few v (both (output_ok v) (all output_ok vs) e).0)
terms_before (v ∷ vs) (suc o) e =
    let b = both (output_ok v) (all output_ok vs) e in
    omega (arith, own_few v b.0, terms_before vs o b.1)

-- by the degrees of the conditions
abbrev pub degree_by : (ℕ → ℕ) → List ℕ → ℕ → ℕ
degree_by w cs i = prod_of (get_or cs i 0) (rule_at w i).weight

pub rule_degree_is : (w : ℕ → ℕ) (cs ds : List ℕ) (p : Pair) (i : ℕ) → p ≡ pair_of (w PAIR_WORD)
    → get_or cs i 0 ≡ condition_degree p ds (rule_at w i).condition → degree_by w cs i ≡ rule_degree (decode w) ds (rule_at w i)
unfolding rule_degree decode
rule_degree_is w cs ds p i ep e = rw (e, ep) refl

module _ (w : ℕ → ℕ) (ok : Sound w) where
  outputs_few : (length (decode w).outputs ≤ output_limit) × (all output_ok (decode w).outputs ≡ true)
  unfolding variables_ok
  outputs_few =
      let q = (passed _ ok.variables).1.1.1 in
      let n = length (decode w).outputs in
      (leb-true n output_limit (both (leb 1 n) (leb n output_limit) q.0).1, q.1.1.0)

  module _ (i : ℕ) (h : i < w RULES) where
    abbrev row : ℕ
    row = rule_place w i

    pub weight_small : w (row + 5) ≤ M
    unfolding unit_ok rule_at
    weight_small = leb-true _ _ (both (leb (w (row + 5)) M) (eqb (w (row + 5) % 1000) 0) (rule_parts w ok i h).2).0

    -- a conclusion's term is an output's
    conclusion_term : (j : ℕ) → j < w (row + 4) →
        let t = (conclusion_at w (w (row + 3) + j)).term in
        (input_terms_in w ≤ t) × (t < input_terms_in w + output_term_limit)
    unfolding conclusion_ok output_first singletons_of rule_at
    conclusion_term j l =
        let k = conclusion_at w (w (row + 3) + j) in
        let q = passed _ (conclusion_good w ok i h j l) in
        let lo : output_first k.output (decode w) ≤ k.term = leb-true _ _ q.1.0 in
        let hi : k.term < output_first k.output (decode w) + length (singletons_of k.output (decode w)) = ltb-true _ _ q.1.1.0 in
        omega (arith, lo, hi, input_terms_lem w ok.frame, outputs_few.0, terms_before (decode w).outputs k.output outputs_few.1)

    pub term_read : (first n j t : ℕ) → first ≡ w (row + 3) → n ≡ w (row + 4) → j < n → t ≡ w (conclusion_place w (first + j) + 1)
        → (t ≡ (conclusion_at w (first + j)).term) × (input_terms_in w ≤ t) × (t < input_terms_in w + output_term_limit)
    unfolding conclusion_at
    term_read first n j t ef en l et =
        let q = conclusion_term j (omega (arith, en)) in
        let g : t ≡ (conclusion_at w (w (row + 3) + j)).term = et ∙ ap (λ (x : ℕ). w (conclusion_place w (x + j) + 1)) ef in
        (et, omega (arith, g, q.0), omega (arith, g, q.1))
