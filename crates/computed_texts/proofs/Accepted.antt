-- Texts that are accepted: at the bounds, in other spellings, conditions with the trees they read to and their listing, and
-- the text of the block that calls are made on.
use mathlib.Core.List.{List, [], ◌∷◌, ◌++◌, map}
use mathlib.Core.Option.{some}
use mathlib.Core.Path.{◌≡◌, refl}
use Prim.Native.Nat.{ℕ}
use Prim.Native.String.{String}
use lib.IntN.{pos}
use Rattle.model.specs.Basic.{bytes}
use Rattle.model.specs.Block.{Input, Output, Block, Condition, and, or, term, neg, two}
use Rattle.model.specs.declared.Pair.{Pair}
use Rattle.model.specs.declared.Pair.TheVariants.{MinMax as min-max, ProdAsum as prod-asum, BdifBsum as bdif-bsum}
use Rattle.model.specs.declared.Accumulation.{Accumulation}
use Rattle.model.specs.declared.Accumulation.TheVariants.{Max as by-max, Bsum as by-bsum}
use Rattle.model.specs.declared.Activation.{Activation}
use Rattle.model.specs.declared.Activation.TheVariants.{Min as by-min, Prod as by-prod}
use Rattle.model.specs.declared.InputType.TheVariants.{Real as real, Int as int}
use Rattle.model.specs.Outcome.{Outcome, accepted, refused}
use Rattle.model.specs.Reader.{reads}
use Rattle.model.specs.Parentheses.{depth}
use Rattle.model.specs.Listing.{input_term_name, condition_text}
use Rattle.model.proofs.Opened.{opened}
use Rattle.model.proofs.Texts.{opening, fuzzified, defuzzified, ruled, ended, rule_ended, one_rule, seven_terms, times, accepted_all, true_all}
use Rattle.demand_3.proofs.Calls.{block}

-- a text whose DEFUZZIFY has this in it, before and after METHOD
abbrev figures : String → String → List ℕ
figures t d =
    rule_ended (fuzzified ++ (bytes "DEFUZZIFY y " ++ (bytes t ++ (bytes " METHOD : CoGS; DEFAULT := " ++ (bytes d
    ++ bytes "; END_DEFUZZIFY RULEBLOCK r ACCU : MAX; ")))))

-- a text whose RULEBLOCK has these algorithms
abbrev algorithms : String → List ℕ
algorithms w = rule_ended (defuzzified ++ (bytes "RULEBLOCK r " ++ bytes w))

-- eight inputs of one term each, six outputs of one
abbrev input_part : String → List ℕ
input_part w = bytes "FUZZIFY " ++ (bytes w ++ bytes " TERM t := (0,0),(1,1); END_FUZZIFY ")

abbrev output_part : String → List ℕ
output_part w = bytes "DEFUZZIFY " ++ (bytes w ++ bytes " TERM k := 1; METHOD : CoGS; DEFAULT := NC; END_DEFUZZIFY ")

abbrev parts : (String → List ℕ) → List String → List ℕ
parts f [] = []
parts f (w ∷ ws) = f w ++ parts f ws

abbrev all_variables : List ℕ
all_variables =
    opening ++ (bytes "a, b, c, d: INT; e, g: REAL; h, i: INT; END_VAR VAR_OUTPUT y, z, u: REAL; v, w, x: REAL; END_VAR "
    ++ (parts input_part ("a" ∷ "b" ∷ "c" ∷ "d" ∷ "e" ∷ "g" ∷ "h" ∷ "i" ∷ [])
    ++ (parts output_part ("y" ∷ "z" ∷ "u" ∷ "v" ∷ "w" ∷ "x" ∷ []) ++ bytes "RULEBLOCK r ACCU : MAX; ")))

-- AT THE BOUNDS: seven terms, four points, 8 parentheses at once; names of 16 bytes; the ends of RANGE and of numbers;
-- AND BESIDE THEM: nine parentheses that are not open at once, names that are bound to nothing else, any byte in a comment, no blank at all
abbrev readable : List (List ℕ)
readable =
    one_rule (bytes "((((((((a IS t))))))))")
    ∷ one_rule (times 8 (bytes "(a IS t) OR ") ++ bytes "(a IS t)")
    ∷ one_rule (bytes "(((a IS t))) AND ((((((((a IS t))))) OR (((a IS u))))))")
    ∷ figures "RANGE(-1000000..1000000); TERM k := -1000000; TERM abcdefghijklmnop := 1000000.000;" "1000000"
    ∷ figures "RANGE(-1..2); TERM k := -1; TERM m := 2; TERM y := 0; TERM a := 0; TERM f := 0; TERM r := 0; TERM t := 0;" "-1"
    ∷ figures "TERM k := -0; TERM REALM := 0001.5; TERM _a := +2;" "NC"
    ∷ rule_ended all_variables
    ∷ rule_ended (opening ++ (bytes "f: REAL; a: REAL; END_VAR VAR_OUTPUT r, y: REAL; END_VAR " ++ (bytes "FUZZIFY f "
    ++ (seven_terms ++ (bytes "END_FUZZIFY FUZZIFY a " ++ (seven_terms ++ (bytes "END_FUZZIFY "
    ++ (parts output_part ("y" ∷ "r" ∷ []) ++ bytes "RULEBLOCK f ACCU : MAX; "))))))))
    ∷ one_rule (bytes "(*" ++ (0 ∷ 12 ∷ 228 ∷ 255 ∷ bytes "*) a IS t"))
    ∷ ended (ruled ++ bytes "RULE 0000007:IF(a IS t)AND(a IS u)THEN y IS k,y IS k WITH+0.5;(**)RULE 65535:IF NOT(a IS t)THEN y IS k WITH 0;")
    ∷ []

at_bounds : accepted_all readable ≡ true_all readable
unfolding opened
at_bounds = refl

-- the type stands for all names of its declaration
abbrev inputs_read : Outcome Block → List Input
inputs_read (accepted k) = k.inputs
inputs_read (refused n p) = []

types_read : map (λ v. v.type) (inputs_read (reads (rule_ended all_variables)))
    ≡ int ∷ int ∷ int ∷ int ∷ real ∷ real ∷ int ∷ int ∷ []
unfolding opened
types_read = refl

-- ALGORITHMS: one brings its partner, none means MIN/MAX, either order; ACT absent means MIN
pub record Chosen : Type 0 where
  pub pair : Pair
  pub act : Activation
  pub accu : Accumulation

abbrev chosen : Pair → Activation → Accumulation → List Chosen
chosen p a c = record { pair = p; act = a; accu = c } ∷ []

abbrev chosen_in : Outcome Block → List Chosen
chosen_in (accepted k) = chosen k.pair k.act k.accu
chosen_in (refused n p) = []

algorithms_read :
    map (λ w. chosen_in (reads (algorithms w)))
    ("ACCU : MAX; " ∷ "AND : MIN; ACCU : BSUM; " ∷ "OR : MAX; ACT : MIN; ACCU : MAX; " ∷ "AND : PROD; ACT : PROD; ACCU : MAX; "
    ∷ "OR : ASUM; ACCU : MAX; " ∷ "AND : BDIF; ACCU : MAX; " ∷ "OR : BSUM; ACCU : MAX; " ∷ "AND : MIN; OR : MAX; ACCU : MAX; "
    ∷ "OR : MAX; AND : MIN; ACCU : MAX; " ∷ "AND : PROD; OR : ASUM; ACCU : MAX; " ∷ "OR : ASUM; AND : PROD; ACCU : MAX; "
    ∷ "AND : BDIF; OR : BSUM; ACCU : MAX; " ∷ "OR : BSUM; AND : BDIF; ACT : PROD; ACCU : BSUM; " ∷ [])
    ≡ chosen min-max by-min by-max ∷ chosen min-max by-min by-bsum ∷ chosen min-max by-min by-max ∷ chosen prod-asum by-prod by-max
    ∷ chosen prod-asum by-min by-max ∷ chosen bdif-bsum by-min by-max ∷ chosen bdif-bsum by-min by-max ∷ chosen min-max by-min by-max
    ∷ chosen min-max by-min by-max ∷ chosen prod-asum by-min by-max ∷ chosen prod-asum by-min by-max
    ∷ chosen bdif-bsum by-min by-max ∷ chosen bdif-bsum by-prod by-bsum ∷ []
unfolding opened
algorithms_read = refl

-- OTHER SPELLINGS of one block: `0..100`, blanks, comments, signs and zeros that say nothing
abbrev outputs_read : Outcome Block → List Output
outputs_read (accepted k) = k.outputs
outputs_read (refused n p) = []

abbrev hundred : List Output
hundred =
    record {
      name = bytes "y";
      terms = record { name = bytes "k"; at = pos 5000 } ∷ [];
      range = some (record { least = pos 0; most = pos 100000 });
      default = some (pos 100000);
    } ∷ []

spelt_alike :
    map (λ s. outputs_read (reads s))
    (figures "RANGE(0..100); TERM k := 5;" "100" ∷ figures "(* 0. *) RANGE (\t-0 (**).. +100.0\r\n) ;TERM k:=05.00;" "0100" ∷ [])
    ≡ hundred ∷ hundred ∷ []
unfolding opened
spelt_alike = refl

-- CONDITIONS: a, b, c are the input terms `a IS t`, `a IS u`, `n IS v`
pub record Spelt : Type 0 where
  pub text : String
  pub tree : Condition
  pub listed : String

abbrev spelt : String → Condition → String → Spelt
spelt s c t = record { text = s; tree = c; listed = t }

abbrev a : Condition
a = term 0

abbrev b : Condition
b = term 1

abbrev c : Condition
c = term 2

abbrev conditions : List Spelt
conditions =
    spelt "a IS t OR a IS u AND n IS v" (two or a (two and b c)) "a IS t OR a IS u AND n IS v"
    ∷ spelt "a IS t AND a IS u OR n IS v" (two or (two and a b) c) "a IS t AND a IS u OR n IS v"
    ∷ spelt "(a IS t OR a IS u) AND n IS v" (two and (two or a b) c) "(a IS t OR a IS u) AND n IS v"
    ∷ spelt "a IS t AND a IS u AND n IS v" (two and (two and a b) c) "a IS t AND a IS u AND n IS v"
    ∷ spelt "a IS t AND (a IS u AND n IS v)" (two and a (two and b c)) "a IS t AND (a IS u AND n IS v)"
    ∷ spelt "a IS t OR (a IS u OR n IS v)" (two or a (two or b c)) "a IS t OR (a IS u OR n IS v)"
    ∷ spelt "((a IS t) OR (a IS u AND n IS v))" (two or a (two and b c)) "a IS t OR a IS u AND n IS v"
    ∷ spelt "NOT a IS t AND a IS u" (two and (neg a) b) "a IS NOT t AND a IS u"
    ∷ spelt "NOT (a IS t AND a IS u)" (neg (two and a b)) "NOT (a IS t AND a IS u)"
    ∷ spelt "NOT (a IS t)" (neg a) "a IS NOT t"
    ∷ spelt "NOT a IS NOT t" (neg (neg a)) "NOT a IS NOT t"
    ∷ spelt "NOT (NOT ((a IS t)))" (neg (neg a)) "NOT a IS NOT t"
    ∷ spelt "a IS t OR a IS u OR n IS v" (two or (two or a b) c) "a IS t OR a IS u OR n IS v"
    ∷ spelt "NOT a IS NOT t OR a IS u" (two or (neg (neg a)) b) "NOT a IS NOT t OR a IS u"
    ∷ spelt "NOT (a IS t OR a IS u) AND n IS NOT v" (two and (neg (two or a b)) (neg c)) "NOT (a IS t OR a IS u) AND n IS NOT v"
    ∷ spelt "a IS t AND NOT (a IS u AND n IS v)" (two and a (neg (two and b c))) "a IS t AND NOT (a IS u AND n IS v)"
    ∷ spelt "(a IS t OR a IS u) AND (n IS v OR a IS t)" (two and (two or a b) (two or c a)) "(a IS t OR a IS u) AND (n IS v OR a IS t)"
    ∷ spelt "(a IS t AND (a IS u OR n IS v)) OR a IS t" (two or (two and a (two or b c)) a) "a IS t AND (a IS u OR n IS v) OR a IS t"
    ∷ spelt "((a IS t OR a IS u) AND n IS v OR a IS t) AND a IS u" (two and (two or (two and (two or a b) c) a) b)
    "((a IS t OR a IS u) AND n IS v OR a IS t) AND a IS u"
    ∷ spelt "NOT (NOT a IS NOT t) OR n IS NOT v" (two or (neg (neg (neg a))) (neg c)) "NOT (NOT a IS NOT t) OR n IS NOT v"
    ∷ []

abbrev rule_trees : Outcome Block → List Condition
rule_trees (accepted k) = map (λ r. r.condition) k.rules
rule_trees (refused n p) = []

abbrev rule_texts : Outcome Block → List (List ℕ)
rule_texts (accepted k) = map (λ r. condition_text (input_term_name k) r.condition) k.rules
rule_texts (refused n p) = []

condition_trees : map (λ s. rule_trees (reads (one_rule (bytes s.text)))) conditions ≡ map (λ s. s.tree ∷ []) conditions
unfolding opened
condition_trees = refl

condition_listings : map (λ s. rule_texts (reads (one_rule (bytes s.text)))) conditions ≡ map (λ s. bytes s.listed ∷ []) conditions
unfolding opened
condition_listings = refl

-- parentheses open at once
condition_depths : map (λ s. depth s.tree) conditions ≡ 0 ∷ 0 ∷ 1 ∷ 0 ∷ 1 ∷ 1 ∷ 0 ∷ 0 ∷ 1 ∷ 0 ∷ 0 ∷ 0 ∷ 0 ∷ 0 ∷ 1 ∷ 1 ∷ 1 ∷ 1 ∷ 2 ∷ 1 ∷ []
unfolding opened
condition_depths = refl

-- THE BLOCK of the list of calls in `demand_3/proofs/Calls`
abbrev called : List ℕ
called =
    bytes "FUNCTION_BLOCK f VAR_INPUT a: REAL; n: INT; END_VAR VAR_OUTPUT y, z: REAL; END_VAR"
    ++ (bytes " FUZZIFY a TERM t := (0,0),(1,1); END_FUZZIFY FUZZIFY n TERM v := (-1,0),(1,0.5),(2,1),(3,0); END_FUZZIFY"
    ++ (bytes " DEFUZZIFY y RANGE(10..20); TERM k := 10; TERM m := 20; METHOD : CoGS; DEFAULT := NC; END_DEFUZZIFY"
    ++ (bytes " DEFUZZIFY z RANGE(-5..-2); TERM k := -4.5; METHOD : CoGS; DEFAULT := -3; END_DEFUZZIFY"
    ++ (bytes " RULEBLOCK r AND : PROD; ACCU : BSUM; RULE 1: IF a IS t AND n IS v THEN y IS m, z IS k WITH 0.5;"
    ++ bytes " RULE 2: IF n IS v THEN y IS k, y IS k; END_RULEBLOCK END_FUNCTION_BLOCK"))))

block_reads : reads called ≡ accepted block
unfolding opened
block_reads = refl
