-- What an accepted image says of each rule.
use mathlib.Core.Path.{◌≡◌, refl, sym}
use mathlib.Core.Bool.{true}
use Prim.Native.Nat.{ℕ, ◌+◌, ◌≤◌, ◌<◌}
use native.Mathlib.Omega.{arith}
use borrow.Author.Tests.{leb-true}
use lib.Dec.{leb}
use lib.ListN.{length}
use Rattle.model.specs.Basic.{all, tab}
use Rattle.model.specs.Bounds.{rule_limit}
use Rattle.model.specs.Image.{decode, rule_place, rule_at, conclusion_at, RULES}
use Rattle.model.specs.WellFormed.{unit_ok, condition_ok, conclusion_ok, rule_ok}
use Rattle.laws.proofs.Lists.{all_at}
use Rattle.laws.proofs.Tests.{both, passed}
use Rattle.laws.proofs.Places.{length_tab}
use Rattle.layout.specs.Tables.{condition_rows, condition_exact}
use Rattle.layout.specs.Groups.{Sound, rules_ok}

module _ (w : ℕ → ℕ) (ok : Sound w) where
  pub rules_few : w RULES ≤ rule_limit
  unfolding rules_ok decode
  rules_few =
      let q = (passed _ ok.rules).1.1.1.1.0 in
      let n = length (tab (rule_at w) (w RULES) 0) in
      omega (arith, leb-true n rule_limit (both (leb 1 n) (leb n rule_limit) q).1, length_tab (rule_at w) (w RULES) 0)

  module _ (i : ℕ) (h : i < w RULES) where
    rule_good : rule_ok (decode w) (rule_at w i) ≡ true
    unfolding rules_ok decode
    rule_good =
        let e : 0 + i ≡ i = omega arith in
        rw (sym e) (all_at (rule_ok (decode w)) (rule_at w) (w RULES) 0 i h (passed _ ok.rules).1.1.1.1.1.0)

    pub condition_exact_lem : condition_exact w i ≡ true
    unfolding rules_ok condition_rows
    condition_exact_lem =
        let e : 0 + i ≡ i = omega arith in
        rw (sym e) (all_at (condition_exact w) (λ j. j) (w RULES) 0 i h (passed _ ok.rules).1.0)

    pub rule_parts : let r = rule_at w i in
        (condition_ok (decode w) r.condition ≡ true) × (all (conclusion_ok (decode w)) r.conclusions ≡ true) × (unit_ok r.weight ≡ true)
    unfolding rule_ok
    rule_parts = let q = passed _ rule_good in (q.1.0, q.1.1.1.0, q.1.1.1.1.0)

    pub conclusion_good : (j : ℕ) → let o = rule_place w i in
        j < w (o + 4) → conclusion_ok (decode w) (conclusion_at w (w (o + 3) + j)) ≡ true
    unfolding rule_at
    conclusion_good j l =
        let o = rule_place w i in
        all_at (conclusion_ok (decode w)) (conclusion_at w) (w (o + 4)) (w (o + 3)) j l rule_parts.1

    -- by the words that the code reads
    module _ (o first n : ℕ) (eo : o ≡ rule_place w i) (ef : first ≡ w (o + 3)) (en : n ≡ w (o + 4)) where
      pub rule_conclusions : tab (conclusion_at w) n first ≡ (rule_at w i).conclusions
      unfolding rule_at
      rule_conclusions = rw (ef, en, eo) refl

      pub conclusion_here : (j : ℕ) → j < n → conclusion_ok (decode w) (conclusion_at w (first + j)) ≡ true
      conclusion_here j l = rw (ef, eo) (conclusion_good j (rw (en, eo) at l))
