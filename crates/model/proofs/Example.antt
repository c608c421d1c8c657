-- The worked example of document 01: its text, the block, the image and the listing.
use mathlib.Core.Bool.{true}
use mathlib.Core.List.{List, [], ◌∷◌, ◌++◌}
use mathlib.Core.Option.{none}
use mathlib.Core.Path.{◌≡◌, refl}
use Prim.Native.Nat.{ℕ}
use lib.IntN.{pos}
use lib.ListN.{length, set, take, drop}
use Rattle.model.specs.Basic.{bytes}
use Rattle.model.specs.Block.{Point, Block, real, term, neg, min-max, by-min, by-max}
use Rattle.model.specs.Outcome.{accepted, refused}
use Rattle.model.specs.Reader.{reads}
use Rattle.model.specs.WellFormed.{well_formed}
use Rattle.model.specs.Image.{bytes_of, words, image, loads}
use Rattle.model.specs.Listing.{listing}
use Rattle.model.proofs.Opened.{opened}

abbrev pub example_text : List ℕ
example_text =
    bytes "FUNCTION_BLOCK trust VAR_INPUT sharp: REAL; END_VAR VAR_OUTPUT grade: REAL; END_VAR FUZZIFY sharp TERM clear := (20,0),(60.0,1); END_FUZZIFY DEFUZZIFY grade TERM low := 0; TERM high := 100; METHOD : CoGS; DEFAULT := NC; END_DEFUZZIFY RULEBLOCK r ACCU : MAX; RULE 1: IF sharp IS clear THEN grade IS high; RULE 2: IF NOT sharp IS clear THEN grade IS low; END_RULEBLOCK END_FUNCTION_BLOCK\n"

abbrev pub clear : List Point
clear = record { at = pos 20000; degree = 0 } ∷ record { at = pos 60000; degree = 1000000 } ∷ []

abbrev pub trust : Block
trust = record {
  name = bytes "trust";
  inputs = record { name = bytes "sharp"; type = real; terms = record { name = bytes "clear"; points = clear } ∷ [] } ∷ [];
  outputs =
      record {
        name = bytes "grade";
        terms = record { name = bytes "low"; at = pos 0 } ∷ record { name = bytes "high"; at = pos 100000 } ∷ [];
        range = none;
        default = none;
      } ∷ [];
  rule_block = bytes "r";
  pair = min-max;
  act = by-min;
  accu = by-max;
  rules =
      record { number = 1; condition = term 0; conclusions = record { output = 0; term = 2 } ∷ []; weight = 1000000 }
      ∷ record { number = 2; condition = neg (term 0); conclusions = record { output = 0; term = 1 } ∷ []; weight = 1000000 } ∷ [];
}

example_reads : reads example_text ≡ accepted trust
unfolding opened
example_reads = refl

example_well_formed : well_formed trust ≡ true
unfolding opened
example_well_formed = refl

example_size : length (words trust) ≡ 91
unfolding opened
example_size = refl

example_header : take 28 (words trust)
    ≡ 1 ∷ 91 ∷ 1 ∷ 1 ∷ 3 ∷ 4 ∷ 2 ∷ 3 ∷ 2
    ∷ 28 ∷ 35 ∷ 46 ∷ 64 ∷ 72 ∷ 84 ∷ 87
    ∷ 0 ∷ 0 ∷ 0 ∷ 0
    ∷ 0x73757274 ∷ 0x74 ∷ 0 ∷ 0 ∷ 0x72 ∷ 0 ∷ 0 ∷ 0 ∷ []
unfolding opened
example_header = refl

-- the input and the output: names, type, first term and term count; no RANGE, NC
example_variables : take 18 (drop 28 (words trust))
    ≡ 0x72616873 ∷ 0x70 ∷ 0 ∷ 0 ∷ 0 ∷ 0 ∷ 1
    ∷ 0x64617267 ∷ 0x65 ∷ 0 ∷ 0 ∷ 1 ∷ 2 ∷ 0 ∷ 0 ∷ 0 ∷ 0 ∷ 0 ∷ []
unfolding opened
example_variables = refl

example_terms : take 18 (drop 46 (words trust))
    ≡ 0x61656c63 ∷ 0x72 ∷ 0 ∷ 0 ∷ 0 ∷ 2
    ∷ 0x776f6c ∷ 0 ∷ 0 ∷ 0 ∷ 2 ∷ 1
    ∷ 0x68676968 ∷ 0 ∷ 0 ∷ 0 ∷ 3 ∷ 1 ∷ []
unfolding opened
example_terms = refl

example_points : take 8 (drop 64 (words trust)) ≡ 20000 ∷ 0 ∷ 60000 ∷ 1000000 ∷ 0 ∷ 1000000 ∷ 100000 ∷ 1000000 ∷ []
unfolding opened
example_points = refl

example_rules : take 12 (drop 72 (words trust)) ≡ 1 ∷ 0 ∷ 1 ∷ 0 ∷ 1 ∷ 1000000 ∷ 2 ∷ 1 ∷ 2 ∷ 1 ∷ 1 ∷ 1000000 ∷ []
unfolding opened
example_rules = refl

-- condition words, then conclusions
example_conditions : drop 84 (words trust) ≡ 16 ∷ 16 ∷ 0 ∷ 0 ∷ 2 ∷ 0 ∷ 1 ∷ []
unfolding opened
example_conditions = refl

-- little-endian bytes
example_bytes : take 8 (image trust) ≡ 1 ∷ 0 ∷ 0 ∷ 0 ∷ 91 ∷ 0 ∷ 0 ∷ 0 ∷ []
unfolding opened
example_bytes = refl

example_loads : loads (image trust) ≡ accepted trust
unfolding opened
example_loads = refl

-- the spare word has to be 0
example_spare : loads (bytes_of (set (words trust) 19 1)) ≡ refused 11 none
unfolding opened
example_spare = refl

abbrev pub example_listing : List ℕ
example_listing =
    bytes "FUNCTION_BLOCK trust\nVAR_INPUT\n  sharp : REAL;\nEND_VAR\nVAR_OUTPUT\n  grade : REAL;\nEND_VAR\n"
    ++ (bytes "FUZZIFY sharp\n  TERM clear := (20, 0), (60, 1);\nEND_FUZZIFY\n"
    ++ (bytes "DEFUZZIFY grade\n  TERM low := 0;\n  TERM high := 100;\n  METHOD : CoGS;\n  DEFAULT := NC;\nEND_DEFUZZIFY\n"
    ++ (bytes "RULEBLOCK r\n  AND : MIN;\n  OR : MAX;\n  ACT : MIN;\n  ACCU : MAX;\n"
    ++ (bytes "  RULE 1 : IF sharp IS clear THEN grade IS high;\n  RULE 2 : IF sharp IS NOT clear THEN grade IS low;\n"
    ++ bytes "END_RULEBLOCK\nEND_FUNCTION_BLOCK\n"))))

example_lists : listing trust ≡ example_listing
unfolding opened
example_lists = refl

example_again : reads example_listing ≡ accepted trust
unfolding opened
example_again = refl
