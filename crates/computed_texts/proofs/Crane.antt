-- The container crane of annex C of source 001, with commas between points.
use mathlib.Core.Bool.{true}
use mathlib.Core.List.{List, [], ◌∷◌, ◌++◌}
use mathlib.Core.Option.{none, some}
use mathlib.Core.Path.{◌≡◌, refl}
use Prim.Native.Nat.{ℕ}
use Prim.Native.String.{String}
use lib.Ieee.{binary32, binary64, of_int, of_bits}
use lib.IntN.{ℤ, pos, negsuc}
use lib.ListN.{length}
use Rattle.model.specs.Basic.{bytes}
use Rattle.model.specs.Bounds.{M}
use Rattle.model.specs.Block.{Point, Term, Singleton, Condition, term, two, and, Rule, Block}
use Rattle.model.specs.declared.InputType.TheVariants.{Real as real}
use Rattle.model.specs.declared.Pair.TheVariants.{MinMax as min-max}
use Rattle.model.specs.declared.Activation.TheVariants.{Min as by-min}
use Rattle.model.specs.declared.Accumulation.TheVariants.{Max as by-max}
use Rattle.model.specs.Outcome.{accepted, refused}
use Rattle.model.specs.Reader.{reads}
use Rattle.model.specs.Evaluation.{term_degrees, held_of, fresh_of, no_answer, padded, evaluate_block}
use Rattle.model.specs.declared.Answer.{Answer}
use Rattle.model.specs.declared.Mark.TheVariants.{Fired}
use Rattle.model.specs.declared.Reading.TheVariants.{Real}
use Rattle.model.proofs.Opened.{opened}
use Rattle.model.proofs.Texts.{is_accepted}

-- up to its rules
abbrev crane : List ℕ
crane =
    bytes "FUNCTION_BLOCK container_crane\nVAR_INPUT\n distance: REAL;\n angle: REAL;\nEND_VAR\nVAR_OUTPUT\n power: REAL;\nEND_VAR\n"
    ++ (bytes "FUZZIFY distance\n TERM too_far := (-5, 1), (0, 0);\n TERM zero := (-5, 0), (0, 1), (5,0);\n TERM close := (0, 0), (5, 1), (10,0);\n"
    ++ (bytes " TERM medium := (5, 0), (10, 1), (22,0);\n TERM far := (10, 0), (22,1);\nEND_FUZZIFY\n"
    ++ (bytes "FUZZIFY angle\n TERM neg_big := (-50, 1), (-5, 0);\n TERM neg_small := (-50, 0), (-5, 1), (0,0);\n TERM zero := (-5, 0), (0, 1), (5,0);\n"
    ++ (bytes " TERM pos_small := (0,0),(5,1),(50,0);\n TERM pos_big := (5, 0), (50, 1);\nEND_FUZZIFY\n"
    ++ (bytes "DEFUZZIFY power\n TERM neg_high := -27;\n TERM neg_medium := -9;\n TERM zero := 0;\n TERM pos_medium := 9;\n TERM pos_high := 27;\n"
    ++ bytes " METHOD: CoGS;\n DEFAULT:= 0;\nEND_DEFUZZIFY\nRULEBLOCK No1\n AND: MIN;\n ACCU: MAX;\n")))))

-- the printed rules up to the term that the second concludes, and from there on
abbrev first_rules : List ℕ
first_rules = bytes " RULE 1: IF distance IS far AND angle IS zero THEN power IS pos_medium;\n RULE 2: IF distance IS far AND angle IS neg_small THEN power IS "

abbrev last_rules : List ℕ
last_rules =
    bytes ";\n RULE 3: IF distance IS far AND angle IS neg_big THEN power IS pos_medium;\n RULE 4: IF distance IS medium AND angle IS neg_small THEN power IS neg_medium;\n"
    ++ (bytes " RULE 5: IF distance IS close AND angle IS pos_small THEN power IS pos_medium;\n RULE 6: IF distance IS zero AND angle IS zero THEN power IS zero;\n"
    ++ bytes "END_RULEBLOCK\nEND_FUNCTION_BLOCK\n")

-- as printed the second rule concludes pos_big, which power does not have
crane_as_printed : reads (crane ++ (first_rules ++ (bytes "pos_big" ++ last_rules))) ≡ refused 5 (some (length (crane ++ first_rules)))
unfolding opened
crane_as_printed = refl

-- with pos_high there it is read
crane_reads : is_accepted (reads (crane ++ (first_rules ++ (bytes "pos_high" ++ last_rules)))) ≡ true
unfolding opened
crane_reads = refl

-- the three rules of figure C.8
abbrev illustrated : List ℕ
illustrated =
    crane
    ++ (bytes " RULE 1: IF distance IS medium AND angle IS pos_small THEN power IS pos_medium;\n RULE 2: IF distance IS medium AND angle IS zero THEN power IS zero;\n"
    ++ bytes " RULE 3: IF distance IS far AND angle IS zero THEN power IS pos_medium;\nEND_RULEBLOCK\nEND_FUNCTION_BLOCK\n")

abbrev at : ℤ → ℕ → Point
at x d = record { at = x; degree = d }

abbrev named : String → List Point → Term
named w ps = record { name = bytes w; points = ps }

abbrev singleton : String → ℤ → Singleton
singleton w x = record { name = bytes w; at = x }

abbrev then_power : ℕ → Condition → ℕ → Rule
then_power n c t = record { number = n; condition = c; conclusions = record { output = 0; term = t } ∷ []; weight = M }

abbrev illustrated_block : Block
illustrated_block = record {
  name = bytes "container_crane";
  inputs =
      record {
        name = bytes "distance";
        type = real;
        terms =
            named "too_far" (at (negsuc 4999) M ∷ at (pos 0) 0 ∷ [])
            ∷ named "zero" (at (negsuc 4999) 0 ∷ at (pos 0) M ∷ at (pos 5000) 0 ∷ [])
            ∷ named "close" (at (pos 0) 0 ∷ at (pos 5000) M ∷ at (pos 10000) 0 ∷ [])
            ∷ named "medium" (at (pos 5000) 0 ∷ at (pos 10000) M ∷ at (pos 22000) 0 ∷ [])
            ∷ named "far" (at (pos 10000) 0 ∷ at (pos 22000) M ∷ []) ∷ [];
      }
      ∷ record {
        name = bytes "angle";
        type = real;
        terms =
            named "neg_big" (at (negsuc 49999) M ∷ at (negsuc 4999) 0 ∷ [])
            ∷ named "neg_small" (at (negsuc 49999) 0 ∷ at (negsuc 4999) M ∷ at (pos 0) 0 ∷ [])
            ∷ named "zero" (at (negsuc 4999) 0 ∷ at (pos 0) M ∷ at (pos 5000) 0 ∷ [])
            ∷ named "pos_small" (at (pos 0) 0 ∷ at (pos 5000) M ∷ at (pos 50000) 0 ∷ [])
            ∷ named "pos_big" (at (pos 5000) 0 ∷ at (pos 50000) M ∷ []) ∷ [];
      } ∷ [];
  outputs =
      record {
        name = bytes "power";
        terms =
            singleton "neg_high" (negsuc 26999) ∷ singleton "neg_medium" (negsuc 8999) ∷ singleton "zero" (pos 0)
            ∷ singleton "pos_medium" (pos 9000) ∷ singleton "pos_high" (pos 27000) ∷ [];
        range = none;
        default = some (pos 0);
      } ∷ [];
  rule_block = bytes "No1";
  pair = min-max;
  act = by-min;
  accu = by-max;
  rules = then_power 1 (two and (term 3) (term 8)) 13 ∷ then_power 2 (two and (term 3) (term 7)) 12 ∷ then_power 3 (two and (term 4) (term 7)) 13 ∷ [];
}

illustrated_reads : reads illustrated ≡ accepted illustrated_block
unfolding opened
illustrated_reads = refl

-- at distance 12, angle 4: medium 10/12 and far 2/12, zero 0.2 and pos_small 0.8
crane_degrees : term_degrees illustrated_block.inputs (pos 12000 ∷ pos 4000 ∷ [])
    ≡ 0 ∷ 0 ∷ 0 ∷ 833333 ∷ 166667 ∷ 0 ∷ 0 ∷ 200000 ∷ 800000 ∷ 0 ∷ []
unfolding opened
crane_degrees = refl

-- heights 0.8 at 9 and 0.2 at 0: 7.2
abbrev power : Answer
power = record { mark = Fired; thousandths = record { 0 = pos 7200 }; sum = 1000000; value = of_bits binary64 0x401ccccccccccccd }

crane_answers :
    evaluate_block illustrated_block (Real (of_int binary32 (pos 12)) ∷ Real (of_int binary32 (pos 4)) ∷ []) 2 (fresh_of illustrated_block)
    ≡ accepted (record { answers = padded no_answer (power ∷ []); held = held_of (pos 7200 ∷ []) })
unfolding opened
crane_answers = refl
