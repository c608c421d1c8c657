-- Sharp edges in whole texts: terms with a pair, read and loaded; the worked example of document 01 with a rectangle.
use mathlib.Core.Bool.{false}
use mathlib.Core.List.{List, [], ◌∷◌, ◌++◌, map}
use mathlib.Core.Path.{◌≡◌, refl}
use Prim.Native.Nat.{ℕ}
use Prim.Native.String.{String}
use lib.Ieee.{fin}
use lib.IntN.{ℤ, pos, negsuc}
use lib.ListN.{get_or, take, drop}
use Rattle.model.specs.declared.Reading.{Reading}
use Rattle.model.specs.declared.Reading.TheVariants.{Real}
use Rattle.model.specs.Basic.{bytes}
use Rattle.model.specs.Block.{Point, Input, Block}
use Rattle.model.specs.Outcome.{Outcome, accepted, refused, and_then}
use Rattle.model.specs.Reader.{reads}
use Rattle.model.specs.Image.{words, image, loads}
use Rattle.model.specs.Listing.{listing}
use Rattle.model.specs.Evaluation.{answers_after, evaluate, fresh_of, no_answer}
use Rattle.model.proofs.Opened.{opened}
use Rattle.model.proofs.Texts.{declared, rule_ended}
use Rattle.model.proofs.Example.{trust}
use Rattle.model.proofs.Edges.{at, shapes}

abbrev with_term : String → List ℕ
with_term w =
    rule_ended (declared ++ (bytes "FUZZIFY a TERM t := " ++ (bytes w
    ++ bytes "; END_FUZZIFY FUZZIFY n TERM v := (0,0),(1,1); END_FUZZIFY DEFUZZIFY y TERM k := 1; METHOD : CoGS; DEFAULT := NC; END_DEFUZZIFY RULEBLOCK r ACCU : MAX; ")))

-- the points of the first term of the first input
abbrev points_in : List Input → List (List Point)
points_in [] = []
points_in (v ∷ vs) = map (λ t. t.points) v.terms

abbrev points_read : Outcome Block → List (List Point)
points_read (accepted b) = points_in b.inputs
points_read (refused n p) = []

shapes_read : map (λ h. points_read (reads (with_term h.text))) shapes ≡ map (λ h. h.points ∷ []) shapes
unfolding opened
shapes_read = refl

-- the image of what was read passes, and stands for it
shapes_load : map (λ h. and_then (reads (with_term h.text)) (λ b. loads (image b))) shapes ≡ map (λ h. reads (with_term h.text)) shapes
unfolding opened
shapes_load = refl

-- THE WORKED EXAMPLE, sharp from 20 on and below 60
abbrev rectangle_text : List ℕ
rectangle_text =
    bytes "FUNCTION_BLOCK trust VAR_INPUT sharp: REAL; END_VAR VAR_OUTPUT grade: REAL; END_VAR FUZZIFY sharp TERM clear := (20,0),(20,1),(60,1),(60,0); END_FUZZIFY DEFUZZIFY grade TERM low := 0; TERM high := 100; METHOD : CoGS; DEFAULT := NC; END_DEFUZZIFY RULEBLOCK r ACCU : MAX; RULE 1: IF sharp IS clear THEN grade IS high; RULE 2: IF NOT sharp IS clear THEN grade IS low; END_RULEBLOCK END_FUNCTION_BLOCK\n"

abbrev sharp : Block
sharp = record {
  name = trust.name;
  inputs =
      map (λ v. record {
        name = v.name;
        type = v.type;
        terms =
            map (λ t. record { name = t.name; points = at (pos 20000) 0 ∷ at (pos 20000) 1000000 ∷ at (pos 60000) 1000000 ∷ at (pos 60000) 0 ∷ [] }) v.terms;
      }) trust.inputs;
  outputs = trust.outputs;
  rule_block = trust.rule_block;
  pair = trust.pair;
  act = trust.act;
  accu = trust.accu;
  rules = trust.rules;
}

sharp_reads : reads rectangle_text ≡ accepted sharp
unfolding opened
sharp_reads = refl

sharp_points : take 12 (drop 64 (words sharp))
    ≡ 20000 ∷ 0 ∷ 20000 ∷ 1000000 ∷ 60000 ∷ 1000000 ∷ 60000 ∷ 0 ∷ 0 ∷ 1000000 ∷ 100000 ∷ 1000000 ∷ []
unfolding opened
sharp_points = refl

sharp_again : and_then (loads (image sharp)) (λ b. reads (listing b)) ≡ accepted sharp
unfolding opened
sharp_again = refl

-- at 19.5, 20, 59.5 and 60
abbrev graded : Reading → ℤ
graded r = (get_or (answers_after (evaluate (image sharp) (r ∷ []) 1 (fresh_of sharp))) 0 no_answer).thousandths.0

sharp_answers : map (λ k. graded (Real (fin false k (negsuc 0)))) (39 ∷ 40 ∷ 119 ∷ 120 ∷ []) ≡ pos 0 ∷ pos 100000 ∷ pos 100000 ∷ pos 0 ∷ []
unfolding opened
sharp_answers = refl
