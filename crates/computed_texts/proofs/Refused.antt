-- Texts that are refused. Each is cut where its refusal stands, so the place is the length of what stands before.
use mathlib.Core.List.{List, [], ◌∷◌, ◌++◌, map}
use mathlib.Core.Option.{some}
use mathlib.Core.Path.{◌≡◌, refl}
use Prim.Native.Nat.{ℕ, ◌<◌}
use Prim.Native.String.{String}
use borrow.Author.Tests.{lt-ltb}
use lib.ListN.{length}
use Rattle.model.specs.Basic.{bytes}
use Rattle.model.specs.Outcome.{refused}
use Rattle.model.specs.Reader.{reads}
use Rattle.model.proofs.Opened.{opened}
use Rattle.model.proofs.Texts.{opening, declared, fuzzified, defuzzified, ruled, whole, seven_terms, Cut, cut, behind, answers, refused_by}

-- 1: a text of more than 65,536 bytes, at 0
text_too_long : (s : List ℕ) → 65536 < length s → reads s ≡ refused 1 (some 0)
unfolding reads
text_too_long s h = simp (lt-ltb 65536 (length s) h)

-- 2: the text ends early; a byte, a comment, a word or a sign that is wrong
abbrev wrong_text_texts : List Cut
wrong_text_texts =
    behind [] "" ""
    ∷ behind [] " \n" ""
    ∷ behind [] "FUNCTION_BLOCK f" ""
    ∷ behind [] "" "functionblock f"
    ∷ behind [] "FUNCTION_BLOCK " "RULE VAR_INPUT"
    ∷ behind [] "FUNCTION_BLOCK " "1 VAR_INPUT"
    ∷ behind [] "FUNCTION_BLOCK f " "(* open"
    ∷ behind [] "FUNCTION_BLOCK f " "(*) VAR_INPUT"
    ∷ behind [] "(* one (* two *) " "*) FUNCTION_BLOCK"
    ∷ behind [] "FUNCTION_BLOCK " "a__b VAR_INPUT"
    ∷ behind [] "FUNCTION_BLOCK " "a_ VAR_INPUT"
    ∷ behind [] "FUNCTION_BLOCK " "_ VAR_INPUT"
    ∷ behind fuzzified "DEFUZZIFY y TERM k := 5" ".; "
    ∷ behind fuzzified "DEFUZZIFY y TERM k := " "- 5;"
    ∷ behind fuzzified "DEFUZZIFY y TERM k := " ".5;"
    ∷ behind fuzzified "DEFUZZIFY y RANGE(0.100" ");"
    ∷ behind fuzzified "DEFUZZIFY y RANGE(0" ". .100);"
    ∷ behind ruled "RULE 1: IF a IS t THEN y IS k; END_RULEBLOCK " ""
    ∷ behind whole "" "(* open"
    ∷ cut (bytes "FUNCTION_BLOCK a") (228 ∷ bytes " VAR_INPUT")
    ∷ cut (bytes "FUNCTION_BLOCK f") (0 ∷ bytes " VAR_INPUT")
    ∷ []

wrong_text : answers wrong_text_texts ≡ refused_by 2 wrong_text_texts
unfolding opened
wrong_text = refl

-- 2: the reserved words that the reader never asks for, as a name; bytes that are no blank and no letter
abbrev unasked : List String
unasked = "CoA" ∷ "CoG" ∷ "END_OPTIONS" ∷ "LM" ∷ "NSUM" ∷ "OPTIONS" ∷ "RM" ∷ "VAR" ∷ []

abbrev reserved_texts : List Cut
reserved_texts = map (λ w. cut (bytes "FUNCTION_BLOCK ") (bytes w ++ bytes " VAR_INPUT")) unasked

reserved : answers reserved_texts ≡ refused_by 2 reserved_texts
unfolding opened
reserved = refl

abbrev strange_texts : List Cut
strange_texts = map (λ c. cut [] (c ∷ bytes "FUNCTION_BLOCK f VAR_INPUT")) (0 ∷ 11 ∷ 12 ∷ 34 ∷ 64 ∷ 96 ∷ 123 ∷ 133 ∷ 160 ∷ 228 ∷ 255 ∷ [])

strange : answers strange_texts ≡ refused_by 2 strange_texts
unfolding opened
strange = refl

-- 2: a token that may not stand where it stands, also where it is too long besides
abbrev wrong_token_texts : List Cut
wrong_token_texts =
    behind [] "FUNCTION_BLOCK f " "a_name_of_over_16_bytes"
    ∷ behind [] "FUNCTION_BLOCK f " "12345678"
    ∷ behind opening "" "END_VAR"
    ∷ behind opening "a: " "BOOL;"
    ∷ behind opening "a: REAL; END_VAR VAR_OUTPUT y: " "INT;"
    ∷ behind opening "a: REAL; END_VAR " "VAR z: REAL; END_VAR"
    ∷ behind declared "FUZZIFY a " "END_FUZZIFY"
    ∷ behind declared "FUZZIFY a TERM t := (0,0) " "(1,1);"
    ∷ behind declared "FUZZIFY a TERM t := " "3;"
    ∷ behind declared "FUZZIFY a TERM t := (" "a,0);"
    ∷ behind fuzzified "DEFUZZIFY y " "METHOD : CoGS;"
    ∷ behind fuzzified "DEFUZZIFY y TERM k := 1; METHOD : " "CoG;"
    ∷ behind fuzzified "DEFUZZIFY y TERM k := 1; METHOD : " "LM;"
    ∷ behind defuzzified "RULEBLOCK r AND : MIN; " "AND : MIN;"
    ∷ behind defuzzified "RULEBLOCK r " "RULE 1:"
    ∷ behind defuzzified "RULEBLOCK r ACCU : " "NSUM;"
    ∷ behind defuzzified "RULEBLOCK r AND : " "MAX;"
    ∷ behind defuzzified "RULEBLOCK r ACCU : MAX; " "ACT : MIN;"
    ∷ behind ruled "" "END_RULEBLOCK"
    ∷ behind ruled "RULE 1: IF a " "THEN"
    ∷ behind ruled "RULE 1: IF NOT " "NOT a IS t"
    ∷ behind ruled "RULE 1: IF (a IS t " "THEN"
    ∷ behind ruled "RULE 1: IF a IS t THEN y IS k WITH " "a;"
    ∷ behind whole "" "OPTIONS"
    ∷ behind whole "(* the end *) " "x"
    ∷ behind whole "" "END_FUNCTION_BLOCK"
    ∷ []

-- sections, lines and entries that are missing, repeated or not in their order
abbrev wrong_order_texts : List Cut
wrong_order_texts =
    behind [] "FUNCTION_BLOCK f " "VAR_OUTPUT y: REAL; END_VAR"
    ∷ behind opening "a: REAL; END_VAR " "VAR_INPUT b: REAL; END_VAR"
    ∷ behind opening "a: REAL; END_VAR VAR_OUTPUT " "END_VAR"
    ∷ behind opening "a: REAL; END_VAR " "FUZZIFY a"
    ∷ behind opening "a, " ": REAL;"
    ∷ behind opening "a" "; END_VAR"
    ∷ behind opening "a " "b: REAL;"
    ∷ behind declared "" "DEFUZZIFY y"
    ∷ behind declared "FUZZIFY a TERM t := " "; END_FUZZIFY"
    ∷ behind declared "FUZZIFY a TERM t := (0,0)," "; END_FUZZIFY"
    ∷ behind declared "FUZZIFY a TERM t := (0,0),(1,1) " "END_FUZZIFY"
    ∷ behind declared "FUZZIFY a TERM t := (0" ");"
    ∷ behind declared "FUZZIFY a TERM t := (0,0" ",0);"
    ∷ behind fuzzified "" "RULEBLOCK r"
    ∷ behind fuzzified "DEFUZZIFY y TERM k := 1; " "RANGE(0..2);"
    ∷ behind fuzzified "DEFUZZIFY y RANGE(0..2); " "RANGE(0..2);"
    ∷ behind fuzzified "DEFUZZIFY y TERM k := " "a;"
    ∷ behind fuzzified "DEFUZZIFY y TERM k := " "(1,1);"
    ∷ behind fuzzified "DEFUZZIFY y TERM k := 1; " "DEFAULT := NC; METHOD : CoGS;"
    ∷ behind fuzzified "DEFUZZIFY y TERM k := 1; METHOD : CoGS; " "END_DEFUZZIFY"
    ∷ behind fuzzified "DEFUZZIFY y TERM k := 1; METHOD : CoGS; DEFAULT := " "a;"
    ∷ behind fuzzified "DEFUZZIFY y TERM k := 1; METHOD : CoGS; DEFAULT := NC; " "TERM m := 1;"
    ∷ behind defuzzified "" "FUZZIFY n"
    ∷ behind defuzzified "" "END_FUNCTION_BLOCK"
    ∷ behind ruled "RULE 1: IF a IS t THEN y IS k; END_RULEBLOCK " "RULEBLOCK s"
    ∷ []

wrong_order : answers wrong_order_texts ≡ refused_by 2 wrong_order_texts
unfolding opened
wrong_order = refl

-- algorithms that are not of their line, and lines that stand twice
abbrev wrong_line_texts : List Cut
wrong_line_texts =
    behind defuzzified "RULEBLOCK r AND : " "ASUM;"
    ∷ behind defuzzified "RULEBLOCK r AND : " "BSUM;"
    ∷ behind defuzzified "RULEBLOCK r OR : " "MIN;"
    ∷ behind defuzzified "RULEBLOCK r OR : " "PROD;"
    ∷ behind defuzzified "RULEBLOCK r OR : " "BDIF;"
    ∷ behind defuzzified "RULEBLOCK r AND : MIN; OR : " "MIN;"
    ∷ behind defuzzified "RULEBLOCK r OR : MAX; " "OR : MAX;"
    ∷ behind defuzzified "RULEBLOCK r AND : MIN; OR : MAX; " "AND : MIN;"
    ∷ behind defuzzified "RULEBLOCK r OR : MAX; AND : MIN; " "OR : MAX;"
    ∷ behind defuzzified "RULEBLOCK r ACT : " "MAX;"
    ∷ behind defuzzified "RULEBLOCK r ACT : MIN; " "ACT : MIN;"
    ∷ behind defuzzified "RULEBLOCK r ACT : MIN; " "AND : MIN;"
    ∷ behind defuzzified "RULEBLOCK r ACT : MIN; " "RULE 1:"
    ∷ behind defuzzified "RULEBLOCK r ACCU : " "MIN;"
    ∷ behind defuzzified "RULEBLOCK r ACCU : " "ASUM;"
    ∷ behind ruled "" "ACCU : MAX;"
    ∷ []

wrong_line : answers wrong_line_texts ≡ refused_by 2 wrong_line_texts
unfolding opened
wrong_line = refl

-- in a rule
abbrev wrong_rule_texts : List Cut
wrong_rule_texts =
    behind ruled "RULE " "a: IF"
    ∷ behind ruled "RULE " ": IF"
    ∷ behind ruled "RULE 1 " "IF a IS t"
    ∷ behind ruled "RULE 1: " "a IS t"
    ∷ behind ruled "RULE 1: IF " "THEN"
    ∷ behind ruled "RULE 1: IF (" ") THEN"
    ∷ behind ruled "RULE 1: IF a IS NOT " "NOT t"
    ∷ behind ruled "RULE 1: IF a IS " "(t)"
    ∷ behind ruled "RULE 1: IF a IS t " "a IS u"
    ∷ behind ruled "RULE 1: IF a IS t AND " "THEN"
    ∷ behind ruled "RULE 1: IF a IS t" ") THEN"
    ∷ behind ruled "RULE 1: IF a IS t " "; "
    ∷ behind ruled "RULE 1: IF a IS t THEN " "; "
    ∷ behind ruled "RULE 1: IF a IS t THEN y IS " "NOT k;"
    ∷ behind ruled "RULE 1: IF a IS t THEN " "NOT y IS k;"
    ∷ behind ruled "RULE 1: IF a IS t THEN " "(y IS k);"
    ∷ behind ruled "RULE 1: IF a IS t THEN y IS k " "AND y IS k;"
    ∷ behind ruled "RULE 1: IF a IS t THEN y IS k, " "; "
    ∷ behind ruled "RULE 1: IF a IS t THEN y IS k WITH 0.5" ", y IS k;"
    ∷ behind ruled "RULE 1: IF a IS t THEN y IS k WITH 0.5 " "WITH 0.5;"
    ∷ behind ruled "RULE 1: IF a IS t THEN y IS k " "END_RULEBLOCK"
    ∷ []

wrong_rule : answers wrong_rule_texts ≡ refused_by 2 wrong_rule_texts
unfolding opened
wrong_rule = refl

wrong_token : answers wrong_token_texts ≡ refused_by 2 wrong_token_texts
unfolding opened
wrong_token = refl

-- 3: too many digits, out of bounds, or a rule number with a sign or a point
abbrev wrong_number_texts : List Cut
wrong_number_texts =
    behind declared "FUZZIFY a TERM t := (" "12345678,0)"
    ∷ behind declared "FUZZIFY a TERM t := (" "0.1234,0)"
    ∷ behind declared "FUZZIFY a TERM t := (" "1000000.001,0)"
    ∷ behind declared "FUZZIFY a TERM t := (" "-1000000.001,0)"
    ∷ behind declared "FUZZIFY a TERM t := (0,0),(0,1),(" "0.0000,0)"
    ∷ behind declared "FUZZIFY a TERM t := (0," "1.001)"
    ∷ behind declared "FUZZIFY a TERM t := (0," "-0.001)"
    ∷ behind fuzzified "DEFUZZIFY y RANGE(" "9999999..2)"
    ∷ behind fuzzified "DEFUZZIFY y TERM k := 1; METHOD : CoGS; DEFAULT := " "0.0000;"
    ∷ behind ruled "RULE " "0: IF"
    ∷ behind ruled "RULE " "65536: IF"
    ∷ behind ruled "RULE " "+1: IF"
    ∷ behind ruled "RULE " "1.0: IF"
    ∷ behind ruled "RULE " "00000001: IF"
    ∷ behind ruled "RULE " "-1: IF"
    ∷ behind ruled "RULE 1: IF a IS t THEN y IS k WITH " "1.5;"
    ∷ behind ruled "RULE 1: IF a IS t THEN y IS k WITH " "-0.5;"
    ∷ behind ruled "RULE 1: IF a IS t THEN y IS k WITH " "0.5000;"
    ∷ behind declared "FUZZIFY a TERM t := (0," "00000001)"
    ∷ behind fuzzified "DEFUZZIFY y RANGE(0.." "1000000.001)"
    ∷ behind fuzzified "DEFUZZIFY y TERM k := " "-1000000.001;"
    ∷ []

wrong_number : answers wrong_number_texts ≡ refused_by 3 wrong_number_texts
unfolding opened
wrong_number = refl

-- 4: a name of 17 bytes; a variable, a term, a rule number, a FUZZIFY or a DEFUZZIFY repeated
abbrev wrong_name_texts : List Cut
wrong_name_texts =
    behind [] "FUNCTION_BLOCK " "abcdefghijklmnopq VAR_INPUT"
    ∷ behind opening "" "abcdefghijklmnopq: REAL;"
    ∷ behind ruled "RULE 1: IF " "abcdefghijklmnopq IS t"
    ∷ behind opening "a, " "a: REAL;"
    ∷ behind opening "a: REAL; END_VAR VAR_OUTPUT " "a: REAL;"
    ∷ behind declared "FUZZIFY a TERM t := (0,0),(1,1); TERM " "t := (0,0)"
    ∷ behind fuzzified "DEFUZZIFY y TERM k := 1; TERM " "k := 2;"
    ∷ behind fuzzified "FUZZIFY " "n TERM w := (0,0)"
    ∷ behind defuzzified "DEFUZZIFY " "y TERM k := 1;"
    ∷ behind ruled "RULE 7: IF a IS t THEN y IS k; RULE " "007: IF"
    ∷ behind opening "a: REAL; " "a: INT;"
    ∷ behind opening "a: REAL; END_VAR VAR_OUTPUT y, " "y: REAL;"
    ∷ behind opening "a: REAL; END_VAR VAR_OUTPUT y: REAL; " "y: REAL;"
    ∷ behind opening "a: REAL; END_VAR VAR_OUTPUT " "abcdefghijklmnopq: REAL;"
    ∷ behind declared "FUZZIFY a TERM " "abcdefghijklmnopq := (0,0)"
    ∷ behind declared "FUZZIFY a TERM t := (0,0),(1,1); END_FUZZIFY FUZZIFY " "a TERM t := (0,0)"
    ∷ behind fuzzified "DEFUZZIFY y TERM " "abcdefghijklmnopq := 1;"
    ∷ behind defuzzified "RULEBLOCK " "abcdefghijklmnopq ACCU"
    ∷ []

wrong_name : answers wrong_name_texts ≡ refused_by 4 wrong_name_texts
unfolding opened
wrong_name = refl

-- 5: a name that is not declared for this use, also a term of another variable
abbrev outputs : List ℕ
outputs =
    opening ++ bytes "a: REAL; END_VAR VAR_OUTPUT y, z: REAL; END_VAR FUZZIFY a TERM t := (0,0),(1,1); END_FUZZIFY DEFUZZIFY y TERM k := 1; "
    ++ bytes "METHOD : CoGS; DEFAULT := NC; END_DEFUZZIFY DEFUZZIFY z TERM m := 1; METHOD : CoGS; DEFAULT := NC; END_DEFUZZIFY "
    ++ bytes "RULEBLOCK r ACCU : MAX; RULE 1: IF a IS t THEN "

abbrev not_declared_texts : List Cut
not_declared_texts =
    behind declared "FUZZIFY " "z TERM"
    ∷ behind declared "FUZZIFY " "y TERM"
    ∷ behind fuzzified "DEFUZZIFY " "a TERM"
    ∷ behind ruled "RULE 1: IF " "y IS k"
    ∷ behind ruled "RULE 1: IF a IS " "v THEN"
    ∷ behind ruled "RULE 1: IF a IS NOT " "k THEN"
    ∷ behind ruled "RULE 1: IF " "b IS t"
    ∷ behind ruled "RULE 1: IF a IS t THEN " "a IS t;"
    ∷ behind ruled "RULE 1: IF a IS t THEN y IS " "t;"
    ∷ behind ruled "RULE 1: IF n IS " "t THEN"
    ∷ behind ruled "RULE 1: IF a IS " "tt THEN"
    ∷ behind ruled "RULE 1: IF " "f IS t"
    ∷ behind ruled "RULE 1: IF a IS t THEN " "r IS k;"
    ∷ behind ruled "RULE 1: IF a IS t AND " "y IS k"
    ∷ behind fuzzified "DEFUZZIFY " "z TERM"
    ∷ behind outputs "z IS " "k;"
    ∷ behind outputs "y IS " "m;"
    ∷ []

not_declared : answers not_declared_texts ≡ refused_by 5 not_declared_texts
unfolding opened
not_declared = refl

-- 6: the ninth input, the seventh output, the eighth term, the fifth point, the ninth open parenthesis
abbrev too_many_texts : List Cut
too_many_texts =
    behind opening "a, b, c, d, e, g, h, i, " "j: REAL;"
    ∷ behind opening "a: REAL; END_VAR VAR_OUTPUT b, c, d, e, g, h, " "i: REAL;"
    ∷ cut (declared ++ (bytes "FUZZIFY a " ++ seven_terms)) (bytes "TERM z := (0,0),(1,1);")
    ∷ behind fuzzified "DEFUZZIFY y TERM a := 0; TERM b := 0; TERM c := 0; TERM d := 0; TERM e := 0; TERM g := 0; TERM h := 0; " "TERM i := 0;"
    ∷ behind declared "FUZZIFY a TERM t := (0,0),(1,1),(2,0),(3,1)," "(4,0);"
    ∷ behind declared "FUZZIFY a TERM t := (0,0),(0,1),(1,1),(1,0)," "(1,0);"
    ∷ behind ruled "RULE 1: IF a IS t OR ((((((((" "(a IS t)"
    ∷ []

too_many : answers too_many_texts ≡ refused_by 6 too_many_texts
unfolding opened
too_many = refl

-- 7: a position that falls, a third at one position, a singleton or a default outside RANGE, an empty RANGE, one point only
abbrev wrong_position_texts : List Cut
wrong_position_texts =
    behind declared "FUZZIFY a TERM t := (0,0),(" "-0.001,1);"
    ∷ behind declared "FUZZIFY a TERM t := (0,0),(1,1),(" "0.999,1);"
    ∷ behind declared "FUZZIFY a TERM t := (0,0),(0,1),(" "0,0);"
    ∷ behind declared "FUZZIFY a TERM t := (0,0),(0,0),(" "+0.0,0),(0,0);"
    ∷ behind declared "FUZZIFY a TERM t := (0,0),(1,1),(1,0),(" "1,1);"
    ∷ behind declared "FUZZIFY a TERM t := (0,0),(0,1),(" "-0.001,0);"
    ∷ behind declared "FUZZIFY a TERM t := (0,0),(0,1),(1,1),(" "0,0);"
    ∷ behind declared "FUZZIFY a TERM t := (0,0),(0,1),(" "0;0)"
    ∷ behind declared "FUZZIFY a TERM t := (0,0)" "; TERM"
    ∷ behind fuzzified "DEFUZZIFY y RANGE(0.." "0);"
    ∷ behind fuzzified "DEFUZZIFY y RANGE(0.." "-1);"
    ∷ behind fuzzified "DEFUZZIFY y RANGE(0..100); TERM k := " "100.001;"
    ∷ behind fuzzified "DEFUZZIFY y RANGE(0..100); TERM k := 100; METHOD : CoGS; DEFAULT := " "-0.001;"
    ∷ behind declared "FUZZIFY a TERM t := (0,0),(5,1),(" "3,1);"
    ∷ behind fuzzified "DEFUZZIFY y RANGE(0..100); TERM k := " "-0.001;"
    ∷ behind fuzzified "DEFUZZIFY y RANGE(0..100); TERM k := 0; METHOD : CoGS; DEFAULT := " "100.001;"
    ∷ behind fuzzified "DEFUZZIFY y RANGE(-2..-1); TERM k := -1; TERM m := " "0;"
    ∷ []

wrong_position : answers wrong_position_texts ≡ refused_by 7 wrong_position_texts
unfolding opened
wrong_position = refl

-- 8: the second algorithm is not of the pair of the first
abbrev unpaired_texts : List Cut
unpaired_texts =
    behind defuzzified "RULEBLOCK r AND : MIN; OR : " "ASUM;"
    ∷ behind defuzzified "RULEBLOCK r AND : MIN; OR : " "BSUM;"
    ∷ behind defuzzified "RULEBLOCK r AND : PROD; OR : " "MAX;"
    ∷ behind defuzzified "RULEBLOCK r AND : PROD; OR : " "BSUM;"
    ∷ behind defuzzified "RULEBLOCK r AND : BDIF; OR : " "MAX;"
    ∷ behind defuzzified "RULEBLOCK r AND : BDIF; OR : " "ASUM;"
    ∷ behind defuzzified "RULEBLOCK r OR : MAX; AND : " "PROD;"
    ∷ behind defuzzified "RULEBLOCK r OR : MAX; AND : " "BDIF;"
    ∷ behind defuzzified "RULEBLOCK r OR : ASUM; AND : " "MIN;"
    ∷ behind defuzzified "RULEBLOCK r OR : BSUM; AND : " "PROD;"
    ∷ []

unpaired : answers unpaired_texts ≡ refused_by 8 unpaired_texts
unfolding opened
unpaired = refl

-- 9: an input or an output without its part, before anything behind the block
abbrev without_fuzzify : List ℕ
without_fuzzify =
    declared ++ bytes "FUZZIFY a TERM t := (0,0),(1,1); END_FUZZIFY DEFUZZIFY y TERM k := 1; METHOD : CoGS; DEFAULT := NC; END_DEFUZZIFY "
    ++ bytes "RULEBLOCK r ACCU : MAX; RULE 1: IF a IS t THEN y IS k; END_RULEBLOCK "

abbrev without_defuzzify : List ℕ
without_defuzzify =
    opening ++ bytes "a: REAL; END_VAR VAR_OUTPUT y, z: REAL; END_VAR FUZZIFY a TERM t := (0,0),(1,1); END_FUZZIFY DEFUZZIFY z TERM k := 1; "
    ++ bytes "METHOD : CoGS; DEFAULT := NC; END_DEFUZZIFY RULEBLOCK r ACCU : MAX; RULE 1: IF a IS t THEN z IS k; END_RULEBLOCK "

abbrev part_missing_texts : List Cut
part_missing_texts = cut without_fuzzify (bytes "END_FUNCTION_BLOCK x") ∷ cut without_defuzzify (bytes "END_FUNCTION_BLOCK") ∷ []

part_missing : answers part_missing_texts ≡ refused_by 9 part_missing_texts
unfolding opened
part_missing = refl

-- THE ORDER OF CHECKS at one token

-- 3: a number out of bounds does not rise, is outside RANGE or is repeated either
abbrev number_before_position_texts : List Cut
number_before_position_texts =
    behind declared "FUZZIFY a TERM t := (1,0),(" "-1000001,1);"
    ∷ behind fuzzified "DEFUZZIFY y RANGE(0..1); TERM k := " "1000001;"
    ∷ behind fuzzified "DEFUZZIFY y RANGE(0.." "-1000001);"
    ∷ behind ruled "RULE 1: IF a IS t THEN y IS k; RULE " "00000001: IF"
    ∷ []

number_before_position : answers number_before_position_texts ≡ refused_by 3 number_before_position_texts
unfolding opened
number_before_position = refl

-- 4: a name too long is not declared either
abbrev long_before_declared_texts : List Cut
long_before_declared_texts =
    behind ruled "RULE 1: IF a IS " "abcdefghijklmnopq THEN"
    ∷ behind fuzzified "DEFUZZIFY " "abcdefghijklmnopq TERM"
    ∷ behind declared "FUZZIFY " "abcdefghijklmnopq TERM"
    ∷ behind ruled "RULE 1: IF a IS t THEN " "abcdefghijklmnopq IS k;"
    ∷ behind ruled "RULE 1: IF a IS t THEN y IS " "abcdefghijklmnopq;"
    ∷ []

long_before_declared : answers long_before_declared_texts ≡ refused_by 4 long_before_declared_texts
unfolding opened
long_before_declared = refl

-- 4: a ninth input or a seventh output of a name that is there or too long
abbrev repeated_before_count_texts : List Cut
repeated_before_count_texts =
    behind opening "a, b, c, d, e, g, h, i, " "a: REAL;"
    ∷ behind opening "a, b, c, d, e, g, h, i, " "abcdefghijklmnopq: REAL;"
    ∷ behind opening "a: REAL; END_VAR VAR_OUTPUT b, c, d, e, g, h, " "h: REAL;"
    ∷ behind opening "a: REAL; END_VAR VAR_OUTPUT b, c, d, e, g, h, " "a: REAL;"
    ∷ []

repeated_before_count : answers repeated_before_count_texts ≡ refused_by 4 repeated_before_count_texts
unfolding opened
repeated_before_count = refl

-- 2: a token that may not stand there, before any count
abbrev token_before_count_texts : List Cut
token_before_count_texts =
    behind opening "a, b, c, d, e, g, h, i, " "1: REAL;"
    ∷ behind declared "FUZZIFY a TERM t := (0,0),(1,1),(2,0),(3,1)," "4;"
    ∷ behind ruled "RULE 1: IF ((((((((" ")"
    ∷ []

token_before_count : answers token_before_count_texts ≡ refused_by 2 token_before_count_texts
unfolding opened
token_before_count = refl
