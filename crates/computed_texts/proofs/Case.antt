-- Texts and images with names and keywords in any case.
use mathlib.Core.List.{List, [], ◌∷◌, ◌++◌, map}
use mathlib.Core.Option.{none}
use mathlib.Core.Path.{◌≡◌, refl}
use Prim.Native.Nat.{ℕ}
use Rattle.model.specs.Basic.{bytes}
use Rattle.model.specs.Block.{Block}
use Rattle.model.specs.Outcome.{accepted, refused}
use Rattle.model.specs.Reader.{reads}
use Rattle.model.specs.Image.{image, loads}
use Rattle.model.proofs.Opened.{opened}
use Rattle.model.proofs.Texts.{opening, declared, fuzzified, defuzzified, ruled, rule_ended, one_rule, Cut, behind, answers, refused_by, true_all, accepted_all}
use Rattle.model.proofs.Example.{example_text, trust}
use Rattle.model.proofs.Case.{small, named, mixed}

-- TEXTS: the worked example as one maker's editor writes it, names in capitals in the rules
editor_reads :
    reads (bytes "FUNCTION_BLOCK trust VAR_INPUT sharp: REAL; END_VAR VAR_OUTPUT grade: REAL; END_VAR FUZZIFY sharp TERM clear := (20,0),(60.0,1); END_FUZZIFY DEFUZZIFY grade TERM low := 0; TERM high := 100; METHOD : CoGS; DEFAULT := NC; END_DEFUZZIFY RULEBLOCK r ACCU : MAX; RULE 1: IF SHARP IS CLEAR THEN GRADE IS HIGH; RULE 2: IF NOT SHARP IS CLEAR THEN GRADE IS LOW; END_RULEBLOCK END_FUNCTION_BLOCK")
    ≡ accepted trust
unfolding opened
editor_reads = refl

-- all of it in small letters
small_reads : reads (map small example_text) ≡ accepted trust
unfolding opened
small_reads = refl

-- names that are bound to nothing else: terms of different variables, the names of the blocks
abbrev readable : List (List ℕ)
readable =
    rule_ended (declared ++ (bytes "FUZZIFY a TERM t := (0,0),(1,1); END_FUZZIFY FUZZIFY n TERM T := (0,0),(1,1); END_FUZZIFY "
    ++ bytes "DEFUZZIFY y TERM k := 1; TERM T := 1; METHOD : CoGS; DEFAULT := NC; END_DEFUZZIFY RULEBLOCK r ACCU : MAX; "))
    ∷ rule_ended (bytes "FUNCTION_BLOCK A VAR_INPUT a: REAL; END_VAR VAR_OUTPUT y: REAL; END_VAR FUZZIFY A TERM A := (0,0),(1,1); TERM t := (0,0),(1,1); END_FUZZIFY "
    ++ bytes "DEFUZZIFY Y TERM k := 1; METHOD : CoGS; DEFAULT := NC; END_DEFUZZIFY RULEBLOCK Y ACCU : MAX; ")
    ∷ one_rule (bytes "A IS T OR N IS NOT V")
    ∷ []

bound_alone : accepted_all readable ≡ true_all readable
unfolding opened
bound_alone = refl

-- 4: two inputs, an input and an output, two outputs, two terms of an input or of an output, FUZZIFY and DEFUZZIFY again
abbrev repeated_texts : List Cut
repeated_texts =
    behind opening "a, " "A: REAL;"
    ∷ behind opening "Ab: REAL; " "aB: INT;"
    ∷ behind opening "a: REAL; END_VAR VAR_OUTPUT " "A: REAL;"
    ∷ behind opening "a: REAL; END_VAR VAR_OUTPUT y, " "Y: REAL;"
    ∷ behind declared "FUZZIFY a TERM t := (0,0),(1,1); TERM " "T := (0,0)"
    ∷ behind fuzzified "DEFUZZIFY y TERM K := 1; TERM " "k := 2;"
    ∷ behind fuzzified "FUZZIFY " "N TERM w := (0,0)"
    ∷ behind defuzzified "DEFUZZIFY " "Y TERM k := 1;"
    ∷ []

repeated : answers repeated_texts ≡ refused_by 4 repeated_texts
unfolding opened
repeated = refl

-- 2: a keyword in other letters wherever a name is wanted, before 4, 5 and 6; misplaced underscores
abbrev keyword_texts : List Cut
keyword_texts =
    behind [] "FUNCTION_BLOCK " "rule VAR_INPUT"
    ∷ behind [] "FUNCTION_BLOCK " "end_function_block VAR_INPUT"
    ∷ behind opening "" "If: REAL;"
    ∷ behind opening "a, b, c, d, e, g, h, i, " "coa: REAL;"
    ∷ behind opening "a: REAL; END_VAR VAR_OUTPUT " "rEAL: REAL;"
    ∷ behind declared "FUZZIFY " "var TERM"
    ∷ behind declared "FUZZIFY a TERM " "max := (0,0),(1,1);"
    ∷ behind fuzzified "DEFUZZIFY " "Nc TERM"
    ∷ behind fuzzified "DEFUZZIFY y TERM " "cogs := 1;"
    ∷ behind defuzzified "RULEBLOCK " "accu ACCU : MAX;"
    ∷ behind ruled "RULE 1: IF " "is IS t"
    ∷ behind ruled "RULE 1: IF a IS " "then THEN"
    ∷ behind ruled "RULE 1: IF a IS t THEN " "With IS k;"
    ∷ behind ruled "RULE 1: IF a IS t THEN y IS " "lm;"
    ∷ behind opening "a: REAL; " "end__var"
    ∷ []

keyword_named : answers keyword_texts ≡ refused_by 2 keyword_texts
unfolding opened
keyword_named = refl

-- IMAGES: names in any case pass, as they are; two that are one, or a keyword in other letters, do not
mixed_loads : loads (image mixed) ≡ accepted mixed
unfolding opened
mixed_loads = refl

abbrev unreadable : List Block
unreadable =
    named "trust" "sharp" "clear" "grade" "low" "LOW" "r"
    ∷ named "trust" "Grade" "clear" "gRADE" "low" "high" "r"
    ∷ named "rule" "sharp" "clear" "grade" "low" "high" "r"
    ∷ named "trust" "Real" "clear" "grade" "low" "high" "r"
    ∷ named "trust" "sharp" "max" "grade" "low" "high" "r"
    ∷ named "trust" "sharp" "clear" "Var_Output" "low" "high" "r"
    ∷ named "trust" "sharp" "clear" "grade" "cogs" "high" "r"
    ∷ named "trust" "sharp" "clear" "grade" "low" "high" "If"
    ∷ []

unreadable_refused : map (λ b. loads (image b)) unreadable ≡ map (λ b. refused 11 none) unreadable
unfolding opened
unreadable_refused = refl
