-- Listings of whole texts: one that is put into the order of its listing, each algorithm, and what the listing program
-- prints of the worked example.
use mathlib.Core.List.{List, [], ◌∷◌, ◌++◌, map}
use mathlib.Core.Path.{◌≡◌, refl}
use Prim.Native.Nat.{ℕ}
use Prim.Native.String.{String}
use Rattle.model.specs.Basic.{bytes}
use Rattle.model.specs.Outcome.{Outcome, accepted, and_then}
use Rattle.model.specs.Reader.{reads}
use Rattle.model.specs.Listing.{listing}
use Rattle.model.specs.Printed.{printed}
use Rattle.model.proofs.Opened.{opened}
use Rattle.model.proofs.Example.{example_text, example_listing}
use Rattle.model.proofs.Texts.{defuzzified, rule_ended}

abbrev listed : List ℕ → Outcome (List ℕ)
listed s = and_then (reads s) (λ b. accepted (listing b))

-- A TEXT that gives its parts in another order than declared, two names to a type, one algorithm, zeros that say nothing
abbrev turned : List ℕ
turned =
    bytes "FUNCTION_BLOCK f VAR_INPUT n, m: INT; a: REAL; END_VAR VAR_OUTPUT y, z: REAL; END_VAR"
    ++ (bytes " FUZZIFY a TERM t := (-0.50,0),(1.250,0.5),(+02,1),(4.05,0.100); TERM u:=(-1000000,1),(1000000,0); END_FUZZIFY"
    ++ (bytes " FUZZIFY m TERM u := (0,0),(2,1.000); END_FUZZIFY FUZZIFY n TERM v := (0,0),(3,1); END_FUZZIFY"
    ++ (bytes " DEFUZZIFY z RANGE(-0.5..10.10); TERM k := 4.05; TERM j := -0; METHOD : CoGS; DEFAULT := 0.500; END_DEFUZZIFY"
    ++ (bytes " DEFUZZIFY y TERM j := 2; METHOD : CoGS; DEFAULT := NC; END_DEFUZZIFY"
    ++ (bytes " RULEBLOCK r OR : BSUM; ACT : PROD; ACCU : BSUM; RULE 010: IF a IS t OR n IS v THEN z IS k, y IS j, z IS j WITH 0.50;"
    ++ bytes " RULE 2: IF (NOT (m IS u)) THEN y IS j WITH 1.000; RULE 1: IF a IS u THEN z IS j WITH 0; END_RULEBLOCK END_FUNCTION_BLOCK")))))

abbrev straight : List ℕ
straight =
    bytes "FUNCTION_BLOCK f\nVAR_INPUT\n  n : INT;\n  m : INT;\n  a : REAL;\nEND_VAR\nVAR_OUTPUT\n  y : REAL;\n  z : REAL;\nEND_VAR\n"
    ++ (bytes "FUZZIFY n\n  TERM v := (0, 0), (3, 1);\nEND_FUZZIFY\nFUZZIFY m\n  TERM u := (0, 0), (2, 1);\nEND_FUZZIFY\n"
    ++ (bytes "FUZZIFY a\n  TERM t := (-0.5, 0), (1.25, 0.5), (2, 1), (4.05, 0.1);\n  TERM u := (-1000000, 1), (1000000, 0);\nEND_FUZZIFY\n"
    ++ (bytes "DEFUZZIFY y\n  TERM j := 2;\n  METHOD : CoGS;\n  DEFAULT := NC;\nEND_DEFUZZIFY\n"
    ++ (bytes "DEFUZZIFY z\n  RANGE(-0.5..10.1);\n  TERM k := 4.05;\n  TERM j := 0;\n  METHOD : CoGS;\n  DEFAULT := 0.5;\nEND_DEFUZZIFY\n"
    ++ (bytes "RULEBLOCK r\n  AND : BDIF;\n  OR : BSUM;\n  ACT : PROD;\n  ACCU : BSUM;\n  RULE 10 : IF a IS t OR n IS v THEN z IS k, y IS j, z IS j WITH 0.5;\n"
    ++ bytes "  RULE 2 : IF m IS NOT u THEN y IS j;\n  RULE 1 : IF a IS u THEN z IS j WITH 0;\nEND_RULEBLOCK\nEND_FUNCTION_BLOCK\n")))))

turned_lists : listed turned ≡ accepted straight
unfolding opened
turned_lists = refl

straight_again : listed straight ≡ accepted straight
unfolding opened
straight_again = refl

-- ALGORITHMS: each pair, ACT and ACCU
abbrev given : String → List ℕ
given w = rule_ended (defuzzified ++ (bytes "RULEBLOCK r " ++ bytes w))

abbrev shown : String → List ℕ
shown w =
    bytes "FUNCTION_BLOCK f\nVAR_INPUT\n  a : REAL;\n  n : INT;\nEND_VAR\nVAR_OUTPUT\n  y : REAL;\nEND_VAR\nFUZZIFY a\n  TERM t := (0, 0), (1, 1);\n"
    ++ (bytes "  TERM u := (0, 1), (1, 0);\nEND_FUZZIFY\nFUZZIFY n\n  TERM v := (0, 0), (1, 1);\nEND_FUZZIFY\nDEFUZZIFY y\n  RANGE(-1..2);\n"
    ++ (bytes "  TERM k := 1;\n  METHOD : CoGS;\n  DEFAULT := NC;\nEND_DEFUZZIFY\nRULEBLOCK r\n  " ++ (bytes w
    ++ bytes ";\n  RULE 1 : IF a IS t THEN y IS k;\nEND_RULEBLOCK\nEND_FUNCTION_BLOCK\n")))

algorithm_lines :
    map (λ w. listed (given w)) ("ACT : PROD; ACCU : MAX; " ∷ "AND : PROD; ACCU : BSUM; " ∷ "AND : BDIF; ACCU : MAX; " ∷ [])
    ≡ map (λ w. accepted (shown w))
    ("AND : MIN;\n  OR : MAX;\n  ACT : PROD;\n  ACCU : MAX" ∷ "AND : PROD;\n  OR : ASUM;\n  ACT : MIN;\n  ACCU : BSUM"
    ∷ "AND : BDIF;\n  OR : BSUM;\n  ACT : MIN;\n  ACCU : MAX" ∷ [])
unfolding opened
algorithm_lines = refl

-- THE PROGRAM
prints_example : printed example_text ≡ example_listing
unfolding opened
prints_example = refl
