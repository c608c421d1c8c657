-- What a well-formed block has, test by test.
use mathlib.Core.Path.{◌≡◌}
use mathlib.Core.Bool.{true, not}
use mathlib.Core.List.{List, [], ◌∷◌, ◌++◌, map}
use Prim.Native.Nat.{ℕ, ◌+◌, ◌≤◌, ◌<◌}
use borrow.Author.Tests.{leb-true, ltb-true, le-leb}
use lib.Dec.{leb, eqb}
use lib.ListN.{length}
use Rattle.model.specs.Basic.{between, is_empty, all, total, distinct}
use Rattle.model.specs.Bounds.{input_limit, output_limit, term_limit, point_least, point_limit, rule_limit, word_limit, conclusion_limit, name_limit, rule_number_least, rule_number_limit, depth_limit}
use Rattle.model.specs.Tokens.{is_name, same_name}
use Rattle.model.specs.Block.{Term, Input, Output, Conclusion, Rule, Block, input_terms, output_first, conclusions, size, singletons_of}
use Rattle.model.specs.Parentheses.{depth}
use Rattle.model.specs.WellFormed
use Rattle.laws.proofs.Tests.{both, passed}
use Rattle.laws.proofs.Finding.{all_split, distinct_front, distinct_back, distinct_split, named, none_of}
use Rattle.listing_laws.proofs.Pieces.{name_facts}

pub name_fits : (w : List ℕ) → is_name w ≡ true → leb (length w) name_limit ≡ true
name_fits w h = le-leb (length w) name_limit (name_facts w h).short

pub counted : (a m n : ℕ) → between a m n ≡ true → (a ≤ n) × (n ≤ m)
counted a m n h = let b = both (leb a n) (leb n m) h in (leb-true a n b.0, leb-true n m b.1)

pub record TermFacts (t : Term) : Type 0 where
  pub name : leb (length t.name) name_limit ≡ true
  pub count : (point_least ≤ length t.points) × (length t.points ≤ point_limit)
  pub points : all WellFormed.point_ok t.points ≡ true
  pub ordered : WellFormed.in_order [] (map (λ p. p.at) t.points) ≡ true

pub term_facts : (t : Term) → WellFormed.term_ok t ≡ true → TermFacts t
unfolding WellFormed.term_ok
term_facts t h =
    let c = passed _ h in
    record {
      name = name_fits t.name c.0;
      count = counted point_least point_limit (length t.points) c.1.0;
      points = c.1.1.0;
      ordered = c.1.1.1.0;
    }

pub record InputFacts (v : Input) : Type 0 where
  pub name : leb (length v.name) name_limit ≡ true
  pub count : (1 ≤ length v.terms) × (length v.terms ≤ term_limit)
  pub terms : all WellFormed.term_ok v.terms ≡ true
  pub apart : distinct same_name (map (λ t. t.name) v.terms) ≡ true

pub input_facts : (v : Input) → WellFormed.input_ok v ≡ true → InputFacts v
unfolding WellFormed.input_ok
input_facts v h =
    let c = passed _ h in
    record {
      name = name_fits v.name c.0;
      count = counted 1 term_limit (length v.terms) c.1.0;
      terms = c.1.1.0;
      apart = c.1.1.1.0;
    }

pub record OutputFacts (v : Output) : Type 0 where
  pub name : leb (length v.name) name_limit ≡ true
  pub count : (1 ≤ length v.terms) × (length v.terms ≤ term_limit)
  pub range : WellFormed.range_ok v.range ≡ true
  pub terms : all (WellFormed.singleton_ok v.range) v.terms ≡ true
  pub apart : distinct same_name (map (λ t. t.name) v.terms) ≡ true
  pub default : WellFormed.default_ok v.range v.default ≡ true

pub output_facts : (v : Output) → WellFormed.output_ok v ≡ true → OutputFacts v
unfolding WellFormed.output_ok
output_facts v h =
    let c = passed _ h in
    record {
      name = name_fits v.name c.0;
      count = counted 1 term_limit (length v.terms) c.1.0;
      range = c.1.1.0;
      terms = c.1.1.1.0;
      apart = c.1.1.1.1.0;
      default = c.1.1.1.1.1.0;
    }

pub record ConclusionFacts (b : Block) (k : Conclusion) : Type 0 where
  pub output : k.output < length b.outputs
  pub least : output_first k.output b ≤ k.term
  pub most : k.term < output_first k.output b + length (singletons_of k.output b)

pub conclusion_facts : (b : Block) (k : Conclusion) → WellFormed.conclusion_ok b k ≡ true → ConclusionFacts b k
unfolding WellFormed.conclusion_ok
conclusion_facts b k h =
    let c = passed _ h in
    record {
      output = ltb-true k.output (length b.outputs) c.0;
      least = leb-true (output_first k.output b) k.term c.1.0;
      most = ltb-true k.term (output_first k.output b + length (singletons_of k.output b)) c.1.1.0;
    }

pub record RuleFacts (b : Block) (r : Rule) : Type 0 where
  pub number : between rule_number_least rule_number_limit r.number ≡ true
  pub terms : WellFormed.terms_below (length (input_terms b)) r.condition ≡ true
  pub deep : depth r.condition ≤ depth_limit
  pub some : not (is_empty r.conclusions) ≡ true
  pub conclusions : all (WellFormed.conclusion_ok b) r.conclusions ≡ true
  pub weight : WellFormed.unit_ok r.weight ≡ true

pub rule_facts : (b : Block) (r : Rule) → WellFormed.rule_ok b r ≡ true → RuleFacts b r
unfolding WellFormed.rule_ok WellFormed.condition_ok
rule_facts b r h =
    let c = passed _ h in
    let d = both (WellFormed.terms_below (length (input_terms b)) r.condition) (leb (depth r.condition) depth_limit) c.1.0 in
    record {
      number = c.0;
      terms = d.0;
      deep = leb-true (depth r.condition) depth_limit d.1;
      some = c.1.1.0;
      conclusions = c.1.1.1.0;
      weight = c.1.1.1.1.0;
    }

pub record BlockFacts (b : Block) : Type 0 where
  pub name : leb (length b.name) name_limit ≡ true
  pub rule_block : leb (length b.rule_block) name_limit ≡ true
  pub inputs : (1 ≤ length b.inputs) × (length b.inputs ≤ input_limit)
  pub outputs : (1 ≤ length b.outputs) × (length b.outputs ≤ output_limit)
  pub inputs_ok : all WellFormed.input_ok b.inputs ≡ true
  pub outputs_ok : all WellFormed.output_ok b.outputs ≡ true
  pub apart : distinct same_name (map (λ v. v.name) b.inputs ++ map (λ v. v.name) b.outputs) ≡ true
  pub rules : (1 ≤ length b.rules) × (length b.rules ≤ rule_limit)
  pub rules_ok : all (WellFormed.rule_ok b) b.rules ≡ true
  pub numbers : distinct eqb (map (λ r. r.number) b.rules) ≡ true
  pub words : total (λ r. size r.condition) b.rules ≤ word_limit
  pub conclusions : length (conclusions b) ≤ conclusion_limit

pub block_facts : (b : Block) → WellFormed.well_formed b ≡ true → BlockFacts b
unfolding WellFormed.well_formed
block_facts b h =
    let c = passed _ h in
    let d = c.1.1.1.1.1.1 in
    record {
      name = name_fits b.name c.0;
      rule_block = name_fits b.rule_block c.1.0;
      inputs = counted 1 input_limit (length b.inputs) c.1.1.0;
      outputs = counted 1 output_limit (length b.outputs) c.1.1.1.0;
      inputs_ok = c.1.1.1.1.0;
      outputs_ok = c.1.1.1.1.1.0;
      apart = d.0;
      rules = counted 1 rule_limit (length b.rules) d.1.0;
      rules_ok = d.1.1.0;
      numbers = d.1.1.1.0;
      words = leb-true (total (λ r. size r.condition) b.rules) word_limit d.1.1.1.1.0;
      conclusions = leb-true (length (conclusions b)) conclusion_limit d.1.1.1.1.1.0;
    }

-- OF ITS VARIABLES
module _ (b : Block) (h : BlockFacts b) where
  pub inputs_apart : distinct same_name (map (λ v. v.name) b.inputs) ≡ true
  inputs_apart = distinct_front same_name (map (λ v. v.name) b.inputs) (map (λ v. v.name) b.outputs) h.apart

  pub outputs_apart : distinct same_name (map (λ v. v.name) b.outputs) ≡ true
  outputs_apart = distinct_back same_name (map (λ v. v.name) b.inputs) (map (λ v. v.name) b.outputs) h.apart

  module _ (ds : List Input) (v : Input) (es : List Input) (e : b.inputs ≡ ds ++ (v ∷ es)) where
    pub input_at : InputFacts v
    input_at = input_facts v (all_split WellFormed.input_ok ds v es e h.inputs_ok)

    pub input_new : none_of (named (λ u. u.name) v.name) ds ≡ true
    input_new = distinct_split (λ u. u.name) ds v es e inputs_apart

  module _ (ds : List Output) (v : Output) (es : List Output) (e : b.outputs ≡ ds ++ (v ∷ es)) where
    pub output_at : OutputFacts v
    output_at = output_facts v (all_split WellFormed.output_ok ds v es e h.outputs_ok)

    pub output_new : none_of (named (λ u. u.name) v.name) ds ≡ true
    output_new = distinct_split (λ u. u.name) ds v es e outputs_apart
