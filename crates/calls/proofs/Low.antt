-- Every degree of a well-formed block is at most 1: points and weights, and of any call input terms, conditions, rules, heights.
use Rattle.std.specs.Prelude.{if◌then◌else◌}
use mathlib.Core.Path.{◌≡◌}
use mathlib.Core.Bool.{Bool, true, false}
use mathlib.Core.List.{List, [], ◌∷◌, map}
use Prim.Native.Nat.{ℕ, ◌≤◌, ◌%◌}
use native.Mathlib.Omega.{arith}
use borrow.Author.Tests.{leb-true}
use lib.Dec.{leb, eqb}
use lib.IntN.{ℤ, pos}
use lib.ListN.{get_or}
use Rattle.model.specs.Basic.{all, gather}
use Rattle.model.specs.Bounds.{M}
use Rattle.model.specs.Tokens.{in_crisp}
use Rattle.model.specs.Block.{Point, Term, Input, Condition, term, neg, two, Conclusion, Rule, Block, input_terms, output_terms}
use Rattle.model.specs.Image.{points, singleton_term, terms}
use Rattle.model.specs.Degrees.{term_degree, condition_degree}
use Rattle.model.specs.WellFormed.{unit_ok, point_ok, term_ok, input_ok, output_ok, rule_ok, well_formed}
use Rattle.model.specs.Evaluation.{term_degrees, rule_degree, accumulated, accumulate_all, subconclusions, height}
use Rattle.model.specs.declared.Accumulation.{Accumulation}
use Rattle.laws.proofs.Each.{Each, each_passes, each_so, each_append, each_map, each_gather, each_at, each_always}
use Rattle.laws.proofs.Tests.{both, passed}
use Rattle.degrees.proofs.Laws.{prod_fits, pair_degree, accumulated_degree}
use Rattle.crisp.specs.Crisp.{InCrisp}
use Rattle.terms.proofs.Degree.{term_le}
use Rattle.demand_3.specs.Calls.{parts, degrees_of, degrees_in, output_term_places}

abbrev Low : ℕ → Type 0
Low d = d ≤ M

-- WELL FORMED
unit_low : (d : ℕ) → unit_ok d ≡ true → Low d
unfolding unit_ok
unit_low d e = leb-true d M (both (leb d M) (eqb (d % 1000) 0) e).0

abbrev PointLow : Point → Type 0
PointLow p = InCrisp p.at × Low p.degree

point_low : (p : Point) → point_ok p ≡ true → PointLow p
unfolding point_ok
point_low p e = let q = both (in_crisp p.at) (unit_ok p.degree) e in (leb-true _ _ q.0, unit_low p.degree q.1)

abbrev TermLow : Term → Type 0
TermLow t = Each PointLow t.points

term_low : (t : Term) → term_ok t ≡ true → TermLow t
unfolding term_ok
term_low t e = each_so point_low t.points (each_passes point_ok t.points (passed _ e).1.1.0)

input_low : (v : Input) → input_ok v ≡ true → Each TermLow v.terms
unfolding input_ok
input_low v e = each_so term_low v.terms (each_passes term_ok v.terms (passed _ e).1.1.0)

rule_low : (b : Block) (r : Rule) → rule_ok b r ≡ true → Low r.weight
unfolding rule_ok
rule_low b r e = unit_low r.weight (passed _ e).1.1.1.1.0

point_at_lem : (ps : List Point) → Each PointLow ps → (k : ℕ) → PointLow (get_or ps k (record { at = pos 0; degree = 0 }))
point_at_lem ps h k = each_at PointLow (record { at = pos 0; degree = 0 }) (omega arith, omega arith) ps h k

input_terms_low : (vs : List Input) (xs : List ℤ) → Each (λ v. Each TermLow v.terms) vs → Each Low (term_degrees vs xs)
unfolding term_degrees
input_terms_low [] xs h = tt
input_terms_low (v ∷ vs) [] h = tt
input_terms_low (v ∷ vs) (x ∷ xs) h =
    each_append Low (map (λ t. term_degree t.points x) v.terms) (term_degrees vs xs)
    (each_map Low (λ (t : Term). term_degree t.points x) v.terms
    (each_so (λ t q. term_le t.points x (λ k l. point_at_lem t.points q k)) v.terms h.0))
    (input_terms_low vs xs h.1)

module _ (b : Block) (ok : well_formed b ≡ true) where
  inputs_ok : Each (λ v. Each TermLow v.terms) b.inputs
  unfolding well_formed
  inputs_ok = each_so input_low b.inputs (each_passes input_ok b.inputs (passed _ ok).1.1.1.1.0)

  pub outputs_ok : all output_ok b.outputs ≡ true
  unfolding well_formed
  outputs_ok = (passed _ ok).1.1.1.1.1.0

  weights_low : Each (λ r. Low r.weight) b.rules
  unfolding well_formed
  weights_low = each_so (rule_low b) b.rules (each_passes (rule_ok b) b.rules (passed _ ok).1.1.1.1.1.1.1.1.0)

  pub block_low : Each Low (degrees_of b)
  unfolding degrees_of
  block_low =
      each_append Low (map (λ p. p.degree) (points b)) (map (λ r. r.weight) b.rules)
      (each_map Low (λ (p : Point). p.degree) (points b) (each_gather (λ (p : Point). Low p.degree) (λ (t : Term). t.points) (terms b) terms_low))
      (each_map Low (λ (r : Rule). r.weight) b.rules weights_low)
    where
      Points : Term → Type 0
      Points t = Each (λ p. Low p.degree) t.points

      terms_low : Each Points (terms b)
      terms_low =
          each_append Points (input_terms b) (map singleton_term (output_terms b))
          (each_gather Points (λ (v : Input). v.terms) b.inputs
          (each_so (λ v h. each_so (λ t q. each_so (λ p r. r.1) t.points q) v.terms h) b.inputs inputs_ok))
          (each_map Points singleton_term (output_terms b) (each_always (λ s. (omega arith, tt)) (output_terms b)))

  -- BY THE DEGREES OF THE INPUT TERMS
  module _ (ds : List ℕ) (low : Each Low ds) where
    condition_low : (c : Condition) → Low (condition_degree b.pair ds c)
    unfolding condition_degree
    condition_low (term t) = each_at Low 0 (omega arith) ds low t
    condition_low (neg c) = omega arith
    condition_low (two o x y) =
        pair_degree b.pair o (condition_degree b.pair ds x) (condition_degree b.pair ds y) (condition_low x) (condition_low y)

    rule_degree_low : (r : Rule) → Low r.weight → Low (rule_degree b ds r)
    unfolding rule_degree
    rule_degree_low r h =
        let d = condition_degree b.pair ds r.condition in
        omega (arith, h, condition_low r.condition, prod_fits d r.weight (condition_low r.condition) h)

    rules_low : Each (λ r. Low (rule_degree b ds r)) b.rules
    rules_low = each_so rule_degree_low b.rules weights_low

    subconclusions_low : (t : ℕ) → Each Low (subconclusions b ds t)
    unfolding subconclusions
    subconclusions_low t = each_gather Low _ b.rules (each_so one b.rules rules_low)
      where
        kept : (q : Bool) (d : ℕ) → Low d → Each Low (if q then d ∷ [] else [])
        kept true d h = (h, tt)
        kept false d h = tt

        one : (r : Rule) → Low (rule_degree b ds r) → Each Low (gather (λ k. if eqb k.term t then rule_degree b ds r ∷ [] else []) r.conclusions)
        one r h =
            each_gather Low (λ (k : Conclusion). if eqb k.term t then rule_degree b ds r ∷ [] else []) r.conclusions
            (each_always (λ k. kept (eqb k.term t) (rule_degree b ds r) h) r.conclusions)

    accumulate_low : (k : Accumulation) (h : ℕ) (es : List ℕ) → Low h → Each Low es → Low (accumulate_all k h es)
    unfolding accumulate_all
    accumulate_low k h [] p q = p
    accumulate_low k h (d ∷ es) p q = accumulate_low k (accumulated k h d) es (accumulated_degree k h d p q.0) q.1

    height_low : (t : ℕ) → Low (height b ds t)
    unfolding height
    height_low t = accumulate_low b.accu 0 (subconclusions b ds t) (omega arith) (subconclusions_low t)

    degrees_low : Each Low (degrees_in b ds)
    unfolding degrees_in
    degrees_low =
        let cs = gather (λ r. parts r.condition) b.rules in
        let D = condition_degree b.pair ds in
        let ts = output_term_places b in
        each_append Low ds _ low (
        each_append Low (map D cs) _ (each_map Low D cs (each_always condition_low cs)) (
        each_append Low (map (rule_degree b ds) b.rules) _ (each_map Low (rule_degree b ds) b.rules rules_low) (
        each_append Low (gather (subconclusions b ds) ts) _
        (each_gather Low (subconclusions b ds) ts (each_always subconclusions_low ts))
        (each_map Low (height b ds) ts (each_always height_low ts)))))

  pub call_low : (xs : List ℤ) → Each Low (degrees_in b (term_degrees b.inputs xs))
  call_low xs = degrees_low (term_degrees b.inputs xs) (input_terms_low b.inputs xs inputs_ok)
