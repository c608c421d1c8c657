-- Words, names, numbers and tokens: every byte by its class, the keywords, and texts with their tokens.
use Rattle.std.specs.Prelude.{if◌then◌else◌}
use mathlib.Core.Bool.{Bool, true}
use mathlib.Core.List.{List, [], ◌∷◌, ◌++◌, map}
use mathlib.Core.Path.{◌≡◌, refl}
use Prim.Native.Nat.{ℕ}
use Prim.Native.String.{String}
use lib.IntN.{pos, negsuc}
use Rattle.model.specs.Basic.{bytes, gather}
use Rattle.model.specs.Keywords
use Rattle.model.specs.Keywords.{keywords, END, WRONG, NAME, NUMBER, ASSIGN, DOTS, OPEN, CLOSE, COLON, SEMICOLON}
use Rattle.model.specs.Tokens.{is_blank, is_digit, starts_name, is_name_byte, is_sign, is_mark, same_name, is_name, value_of, is_crisp, is_unit, unit_of, is_rule_number, word_kind, Token, token, tokens}
use Rattle.model.proofs.Opened.{opened}
use Rattle.model.proofs.Texts.{true_all, false_all, numbers_from}

-- BYTES, each from 0 to 255
abbrev those : (ℕ → Bool) → List ℕ
those f = gather (λ c. if f c then c ∷ [] else []) (numbers_from 256 0)

byte_blanks : those is_blank ≡ 9 ∷ 10 ∷ 13 ∷ 32 ∷ []
unfolding opened
byte_blanks = refl

byte_digits : those is_digit ≡ numbers_from 10 48
unfolding opened
byte_digits = refl

-- ASCII letters and the underscore
byte_starts : those starts_name ≡ numbers_from 26 65 ++ (95 ∷ numbers_from 26 97)
unfolding opened
byte_starts = refl

byte_names : those is_name_byte ≡ numbers_from 10 48 ++ (numbers_from 26 65 ++ (95 ∷ numbers_from 26 97))
unfolding opened
byte_names = refl

byte_signs : those is_sign ≡ bytes "+-"
unfolding opened
byte_signs = refl

byte_marks : those is_mark ≡ bytes "(),:;"
unfolding opened
byte_marks = refl

-- KEYWORDS: Table 7 of source 001, then REAL and INT
abbrev table7 : List String
table7 =
    "ACCU" ∷ "ACT" ∷ "AND" ∷ "ASUM" ∷ "BDIF" ∷ "BSUM" ∷ "CoA" ∷ "CoG" ∷ "CoGS" ∷ "DEFAULT" ∷ "DEFUZZIFY" ∷ "END_DEFUZZIFY"
    ∷ "END_FUNCTION_BLOCK" ∷ "END_FUZZIFY" ∷ "END_OPTIONS" ∷ "END_RULEBLOCK" ∷ "END_VAR" ∷ "FUNCTION_BLOCK" ∷ "FUZZIFY" ∷ "IF"
    ∷ "IS" ∷ "LM" ∷ "MAX" ∷ "METHOD" ∷ "MIN" ∷ "NC" ∷ "NOT" ∷ "NSUM" ∷ "OPTIONS" ∷ "OR" ∷ "PROD" ∷ "RANGE" ∷ "RM" ∷ "RULE"
    ∷ "RULEBLOCK" ∷ "TERM" ∷ "THEN" ∷ "VAR" ∷ "VAR_INPUT" ∷ "VAR_OUTPUT" ∷ "WITH" ∷ []

keyword_list : keywords ≡ map bytes table7 ++ (bytes "REAL" ∷ bytes "INT" ∷ [])
unfolding opened
keyword_list = refl

-- the kinds that the reader asks for; the reserved words that it never asks for by their place
keyword_kinds : map word_kind keywords
    ≡ Keywords.ACCU ∷ Keywords.ACT ∷ Keywords.AND ∷ Keywords.ASUM ∷ Keywords.BDIF ∷ Keywords.BSUM ∷ 134 ∷ 135 ∷ Keywords.CoGS
    ∷ Keywords.DEFAULT ∷ Keywords.DEFUZZIFY ∷ Keywords.END_DEFUZZIFY ∷ Keywords.END_FUNCTION_BLOCK ∷ Keywords.END_FUZZIFY ∷ 142
    ∷ Keywords.END_RULEBLOCK ∷ Keywords.END_VAR ∷ Keywords.FUNCTION_BLOCK ∷ Keywords.FUZZIFY ∷ Keywords.IF ∷ Keywords.IS ∷ 149
    ∷ Keywords.MAX ∷ Keywords.METHOD ∷ Keywords.MIN ∷ Keywords.NC ∷ Keywords.NOT ∷ 155 ∷ 156 ∷ Keywords.OR ∷ Keywords.PROD
    ∷ Keywords.RANGE ∷ 160 ∷ Keywords.RULE ∷ Keywords.RULEBLOCK ∷ Keywords.TERM ∷ Keywords.THEN ∷ 165 ∷ Keywords.VAR_INPUT
    ∷ Keywords.VAR_OUTPUT ∷ Keywords.WITH ∷ Keywords.REAL ∷ Keywords.INT ∷ []
unfolding opened
keyword_kinds = refl

-- each kind is one of its own
keyword_kinds_apart : map word_kind keywords ≡ numbers_from 43 128
unfolding opened
keyword_kinds_apart = refl

-- WORDS that are names, and words with misplaced underscores
abbrev name_words : List String
name_words = "a" ∷ "_a" ∷ "a_1" ∷ "IFF" ∷ "I" ∷ "BOOL" ∷ "_IF" ∷ "END" ∷ "abcdefghijklmnopq" ∷ []

words_names : map (λ w. word_kind (bytes w)) name_words ≡ map (λ w. NAME) name_words
unfolding opened
words_names = refl

abbrev wrong_words : List String
wrong_words = "_" ∷ "a_" ∷ "a__b" ∷ "__a" ∷ "IF_" ∷ "VAR__INPUT" ∷ []

words_wrong : map (λ w. word_kind (bytes w)) wrong_words ≡ map (λ w. WRONG) wrong_words
unfolding opened
words_wrong = refl

-- NAMES, as a stored block has them too
abbrev names : List (List ℕ)
names = map bytes ("a" ∷ "Z" ∷ "_a" ∷ "a1_b" ∷ "REALM" ∷ "abcdefghijklmnop" ∷ [])

names_good : map is_name names ≡ true_all names
unfolding opened
names_good = refl

-- empty, a digit first, a blank, a byte above 127, underscores, too long, keywords
abbrev no_names : List (List ℕ)
no_names =
    (97 ∷ 228 ∷ []) ∷ (228 ∷ 97 ∷ [])
    ∷ map bytes ("" ∷ "1a" ∷ "a b" ∷ "a-b" ∷ "a__b" ∷ "a_" ∷ "_" ∷ "abcdefghijklmnopq" ∷ "IF" ∷ "VAR" ∷ "INT" ∷ [])

names_bad : map is_name no_names ≡ false_all no_names
unfolding opened
names_bad = refl

-- one shorter, one longer, another last byte
abbrev others : List String
others = "abcdefghijklmno" ∷ "abcdefghijklmnopq" ∷ "abcdefghijklmnoq" ∷ "" ∷ []

names_apart : map (λ w. same_name (bytes "abcdefghijklmnop") (bytes w)) ("abcdefghijklmnop" ∷ others) ≡ true ∷ false_all others
unfolding opened
names_apart = refl

-- NUMBERS
values :
    map (λ w. value_of (bytes w)) ("0" ∷ "-0" ∷ "7" ∷ "+7" ∷ "-7" ∷ "0.5" ∷ "0.05" ∷ "0.005" ∷ "-0.25" ∷ "0012.340" ∷ "-1000000" ∷ [])
    ≡ pos 0 ∷ pos 0 ∷ pos 7000 ∷ pos 7000 ∷ negsuc 6999 ∷ pos 500 ∷ pos 50 ∷ pos 5 ∷ negsuc 249 ∷ pos 12340 ∷ negsuc 999999999 ∷ []
unfolding opened
values = refl

-- 7 digits and 3, leading zeros counted, and no more than a million
abbrev crisps : List String
crisps = "1000000" ∷ "-1000000" ∷ "+1000000.000" ∷ "-999999.999" ∷ "0000001" ∷ "0.000" ∷ []

crisps_good : map (λ w. is_crisp (bytes w)) crisps ≡ true_all crisps
unfolding opened
crisps_good = refl

abbrev no_crisps : List String
no_crisps = "1000000.001" ∷ "-1000000.001" ∷ "9999999" ∷ "00000001" ∷ "-00000000" ∷ "0.1234" ∷ "0.0000" ∷ []

crisps_bad : map (λ w. is_crisp (bytes w)) no_crisps ≡ false_all no_crisps
unfolding opened
crisps_bad = refl

-- degrees and weights
abbrev units : List String
units = "0" ∷ "-0" ∷ "0.001" ∷ "0.999" ∷ "1" ∷ "+1.000" ∷ "0000001" ∷ []

units_good : map (λ w. is_unit (bytes w)) units ≡ true_all units
unfolding opened
units_good = refl

abbrev no_units : List String
no_units = "1.001" ∷ "2" ∷ "-0.001" ∷ "-1" ∷ "00000001" ∷ "0.0000" ∷ []

units_bad : map (λ w. is_unit (bytes w)) no_units ≡ false_all no_units
unfolding opened
units_bad = refl

units_millionths : map (λ w. unit_of (bytes w)) ("0" ∷ "0.001" ∷ "0.5" ∷ "+1" ∷ []) ≡ 0 ∷ 1000 ∷ 500000 ∷ 1000000 ∷ []
unfolding opened
units_millionths = refl

abbrev rule_numbers : List String
rule_numbers = "1" ∷ "65535" ∷ "0065535" ∷ "0000001" ∷ []

rule_numbers_good : map (λ w. is_rule_number (bytes w)) rule_numbers ≡ true_all rule_numbers
unfolding opened
rule_numbers_good = refl

abbrev no_rule_numbers : List String
no_rule_numbers = "0" ∷ "65536" ∷ "00065535" ∷ "00000001" ∷ "+1" ∷ "-1" ∷ "1.0" ∷ "1.5" ∷ []

rule_numbers_bad : map (λ w. is_rule_number (bytes w)) no_rule_numbers ≡ false_all no_rule_numbers
unfolding opened
rule_numbers_bad = refl

-- TOKENS with their places, the longest possible; the last is the end of the text
abbrev at : ℕ → String → ℕ → Token
at k w p = token k (bytes w) p

abbrev Scanned : String → List Token → Type 0
Scanned s ts = tokens (bytes s) ≡ ts

tokens_joined : Scanned "ab:=+1.5 ..-2.(*)*)x_1;"
    (at NAME "ab" 0 ∷ at ASSIGN ":=" 2 ∷ at NUMBER "+1.5" 4 ∷ at DOTS ".." 9 ∷ at NUMBER "-2" 11 ∷ at WRONG "." 13
    ∷ at NAME "x_1" 19 ∷ at SEMICOLON ";" 22 ∷ at END "" 23 ∷ [])
unfolding opened
tokens_joined = refl

tokens_points : Scanned "1..2...3 1.2.3"
    (at NUMBER "1" 0 ∷ at DOTS ".." 1 ∷ at NUMBER "2" 3 ∷ at DOTS ".." 4 ∷ at WRONG "." 6 ∷ at NUMBER "3" 7
    ∷ at NUMBER "1.2" 9 ∷ at WRONG "." 12 ∷ at NUMBER "3" 13 ∷ at END "" 14 ∷ [])
unfolding opened
tokens_points = refl

tokens_signs : Scanned "+-1 5-3 - 4 12ab IF1"
    (at WRONG "+" 0 ∷ at NUMBER "-1" 1 ∷ at NUMBER "5" 4 ∷ at NUMBER "-3" 5 ∷ at WRONG "-" 8 ∷ at NUMBER "4" 10
    ∷ at NUMBER "12" 12 ∷ at NAME "ab" 14 ∷ at NAME "IF1" 17 ∷ at END "" 20 ∷ [])
unfolding opened
tokens_signs = refl

tokens_marks : Scanned ":== : =( *"
    (at ASSIGN ":=" 0 ∷ at WRONG "=" 2 ∷ at COLON ":" 4 ∷ at WRONG "=" 6 ∷ at OPEN "(" 7 ∷ at WRONG "*" 9 ∷ at END "" 10 ∷ [])
unfolding opened
tokens_marks = refl

-- comments part tokens, hold any byte, end at the first `*)` and do not nest
tokens_comments : tokens (bytes "a(**)b(***)c(* **)d(*(*" ++ (0 ∷ 40 ∷ 228 ∷ 255 ∷ bytes "*)*)"))
    ≡ at NAME "a" 0 ∷ at NAME "b" 5 ∷ at NAME "c" 11 ∷ at NAME "d" 18 ∷ at WRONG "*" 29 ∷ at CLOSE ")" 30 ∷ at END "" 31 ∷ []
unfolding opened
tokens_comments = refl

-- not closed, it is wrong from its start to the end
tokens_unclosed : Scanned "a (*)b" (at NAME "a" 0 ∷ at WRONG "(*)b" 2 ∷ at END "" 6 ∷ [])
unfolding opened
tokens_unclosed = refl
