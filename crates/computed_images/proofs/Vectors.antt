-- Cases worked out by another implementation: one block with its image, fresh record and calls, and four texts with their listing.
use mathlib.Core.List.{List, [], ◌∷◌, ◌++◌}
use mathlib.Core.Option.{none}
use mathlib.Core.Path.{◌≡◌, refl}
use Prim.Native.Nat.{ℕ}
use lib.Ieee.{binary32, binary64, of_bits}
use lib.IntN.{ℤ, pos, negsuc}
use Rattle.model.specs.Basic.{bytes}
use Rattle.model.specs.Outcome.{Outcome, accepted, refused, and_then}
use Rattle.model.specs.Reader.{reads}
use Rattle.model.specs.Image.{words, bytes_of}
use Rattle.model.specs.Listing.{listing}
use Rattle.model.specs.Evaluation.{held_of, no_answer, padded, CallResult, evaluate, fresh}
use Rattle.model.specs.declared.Answer.{Answer}
use Rattle.model.specs.declared.Mark.{Mark}
use Rattle.model.specs.declared.Mark.TheVariants.{Fired, Default}
use Rattle.model.specs.declared.Reading.{Reading}
use Rattle.model.specs.declared.Reading.TheVariants.{Real}
use Rattle.model.proofs.Opened.{opened}

abbrev words_read : List ℕ → Outcome (List ℕ)
words_read s = and_then (reads s) (λ b. accepted (words b))

abbrev listed : List ℕ → Outcome (List ℕ)
listed s = and_then (reads s) (λ b. accepted (listing b))

abbrev block : List ℕ
block =
    bytes "FUNCTION_BLOCK zZF59_v7L8i74_sK\nVAR_INPUT\n  B : REAL;\nEND_VAR\nVAR_OUTPUT\n  wV8IHwEMBdHLGVHq : REAL;\n  _2sab : REAL;\n  vuiV "
    ++ (bytes ": REAL;\nEND_VAR\nFUZZIFY B\n  TERM swRITdOXqsp5x746 := (8.167, 1), (62, 0), (65, 0.233);\nEND_FUZZIFY\nDEFUZZIFY wV8IHwEMBdHLGVHq\n"
    ++ (bytes "  TERM S := -1000000;\n  METHOD : CoGS;\n  DEFAULT := 17;\nEND_DEFUZZIFY\nDEFUZZIFY _2sab\n  RANGE(-95.984..87.152);\n  TERM OaQu "
    ++ (bytes ":= -64.397;\n  TERM sDBe := 4.151;\n  TERM QU := -89.893;\n  METHOD : CoGS;\n  DEFAULT := NC;\nEND_DEFUZZIFY\nDEFUZZIFY vuiV\n "
    ++ (bytes " TERM KaHqcTLN5iYQsgv6 := 72;\n  TERM HcgHSF := -816467.107;\n  TERM qm := -53145.711;\n  METHOD : CoGS;\n  DEFAULT := NC;\nEND_DEFUZZIFY\n"
    ++ (bytes "RULEBLOCK J\n  AND : PROD;\n  OR : ASUM;\n  ACT : PROD;\n  ACCU : BSUM;\n  RULE 18 : IF NOT (B IS swRITdOXqsp5x746 OR B IS swRITdOXqsp5x746 "
    ++ (bytes "OR B IS NOT swRITdOXqsp5x746 OR B IS swRITdOXqsp5x746 AND B IS swRITdOXqsp5x746 AND (B IS swRITdOXqsp5x746 OR B IS swRITdOXqsp5x746) "
    ++ (bytes "OR ((B IS swRITdOXqsp5x746 OR B IS swRITdOXqsp5x746) AND B IS swRITdOXqsp5x746 OR B IS swRITdOXqsp5x746)) THEN _2sab IS "
    ++ (bytes "QU, _2sab IS QU;\n  RULE 12 : IF B IS swRITdOXqsp5x746 AND (B IS swRITdOXqsp5x746 OR B IS swRITdOXqsp5x746 OR B IS swRITdOXqsp5x746) "
    ++ (bytes "THEN vuiV IS KaHqcTLN5iYQsgv6, _2sab IS QU WITH 0.001;\nEND_RULEBLOCK\nEND_FUNCTION_BLOCK\n")))))))))

abbrev block_words : List ℕ
block_words =
    1 ∷ 186 ∷ 1 ∷ 3 ∷ 8 ∷ 10 ∷ 2 ∷ 30 ∷ 4 ∷ 28 ∷ 35 ∷ 68 ∷ 116 ∷ 136 ∷ 148 ∷ 178
    ∷ 1 ∷ 1 ∷ 1 ∷ 0 ∷ 893803130 ∷ 930504505 ∷ 929642572 ∷ 1265852212 ∷ 74 ∷ 0 ∷ 0 ∷ 0 ∷ 66 ∷ 0 ∷ 0 ∷ 0
    ∷ 0 ∷ 0 ∷ 1 ∷ 1228428919 ∷ 1296398152 ∷ 1279812674 ∷ 1900566087 ∷ 1 ∷ 1 ∷ 0 ∷ 0 ∷ 0 ∷ 1 ∷ 17000 ∷ 1634939487 ∷ 98
    ∷ 0 ∷ 0 ∷ 2 ∷ 3 ∷ 1 ∷ 4294871312 ∷ 87152 ∷ 0 ∷ 0 ∷ 1449751926 ∷ 0 ∷ 0 ∷ 0 ∷ 5 ∷ 3 ∷ 0
    ∷ 0 ∷ 0 ∷ 0 ∷ 0 ∷ 1230141299 ∷ 1481598036 ∷ 896562033 ∷ 909391736 ∷ 0 ∷ 3 ∷ 83 ∷ 0 ∷ 0 ∷ 0 ∷ 3 ∷ 1
    ∷ 1968267599 ∷ 0 ∷ 0 ∷ 0 ∷ 4 ∷ 1 ∷ 1698841715 ∷ 0 ∷ 0 ∷ 0 ∷ 5 ∷ 1 ∷ 21841 ∷ 0 ∷ 0 ∷ 0
    ∷ 6 ∷ 1 ∷ 1900568907 ∷ 1313625187 ∷ 1364814133 ∷ 913729395 ∷ 7 ∷ 1 ∷ 1214735176 ∷ 18003 ∷ 0 ∷ 0 ∷ 8 ∷ 1 ∷ 28017 ∷ 0
    ∷ 0 ∷ 0 ∷ 9 ∷ 1 ∷ 8167 ∷ 1000000 ∷ 62000 ∷ 0 ∷ 65000 ∷ 233000 ∷ 3294967296 ∷ 1000000 ∷ 4294902899 ∷ 1000000 ∷ 4151 ∷ 1000000
    ∷ 4294877403 ∷ 1000000 ∷ 72000 ∷ 1000000 ∷ 3478500189 ∷ 1000000 ∷ 4241821585 ∷ 1000000 ∷ 18 ∷ 0 ∷ 23 ∷ 0 ∷ 2 ∷ 1000000 ∷ 12 ∷ 23
    ∷ 7 ∷ 2 ∷ 2 ∷ 1000 ∷ 16 ∷ 16 ∷ 2 ∷ 16 ∷ 0 ∷ 2 ∷ 16 ∷ 16 ∷ 1 ∷ 16 ∷ 16 ∷ 2
    ∷ 1 ∷ 2 ∷ 16 ∷ 16 ∷ 2 ∷ 16 ∷ 1 ∷ 16 ∷ 2 ∷ 2 ∷ 0 ∷ 16 ∷ 16 ∷ 16 ∷ 2 ∷ 16
    ∷ 2 ∷ 1 ∷ 1 ∷ 4 ∷ 1 ∷ 4 ∷ 2 ∷ 5 ∷ 1 ∷ 4 ∷ []

block_words_lem : words_read block ≡ accepted block_words
unfolding opened
block_words_lem = refl

block_listing : listed block ≡ accepted block
unfolding opened
block_listing = refl

block_fresh : fresh (bytes_of block_words) ≡ accepted (held_of (pos 0 ∷ pos 0 ∷ pos 0 ∷ pos 0 ∷ pos 0 ∷ pos 0 ∷ []))
unfolding opened
block_fresh = refl

abbrev real : ℕ → Reading
real n = Real (of_bits binary32 n)

abbrev on : List Reading → List ℤ → Outcome CallResult
on rs held = evaluate (bytes_of block_words) rs 1 (held_of held)

abbrev answer : Mark → ℤ → ℕ → ℕ → Answer
answer m t s f = record { mark = m; thousandths = record { 0 = t }; sum = s; value = of_bits binary64 f }

abbrev after : List Answer → List ℤ → Outcome CallResult
after given held = accepted (record { answers = padded no_answer given; held = held_of held })

call_1 : on (real 1741667632 ∷ []) (pos 0 ∷ pos 0 ∷ pos 0 ∷ pos 0 ∷ pos 0 ∷ pos 0 ∷ [])
    ≡ after
    (answer Default (pos 17000) 0 4625478292286210048 ∷ answer Fired (negsuc 89892) 185974 13859398111312008446 ∷ answer Fired
    (pos 72000) 128 4634766966517661696 ∷ [])
    (pos 17000 ∷ negsuc 89892 ∷ pos 72000 ∷ pos 0 ∷ pos 0 ∷ pos 0 ∷ [])
unfolding opened
call_1 = refl

call_2 : on (real 1115160314 ∷ []) (pos 17000 ∷ pos 1000000001 ∷ pos 72000 ∷ pos 0 ∷ pos 0 ∷ pos 0 ∷ [])
    ≡ refused 13 none
unfolding opened
call_2 = refl

call_3 : on (real 1091906181 ∷ []) (pos 17000 ∷ negsuc 89892 ∷ pos 72000 ∷ pos 0 ∷ pos 0 ∷ pos 0 ∷ [])
    ≡ after
    (answer Default (pos 17000) 0 4625478292286210048 ∷ answer Fired (negsuc 89892) 979 13859398111312008446 ∷ answer Fired
    (pos 72000) 979 4634766966517661696 ∷ [])
    (pos 17000 ∷ negsuc 89892 ∷ pos 72000 ∷ pos 0 ∷ pos 0 ∷ pos 0 ∷ [])
unfolding opened
call_3 = refl

call_4 : on (real 1101483818 ∷ []) (pos 17000 ∷ negsuc 89892 ∷ pos 72000 ∷ pos 0 ∷ pos 0 ∷ pos 0 ∷ [])
    ≡ after
    (answer Default (pos 17000) 0 4625478292286210048 ∷ answer Fired (negsuc 89892) 3303 13859398111312008446 ∷ answer Fired
    (pos 72000) 753 4634766966517661696 ∷ [])
    (pos 17000 ∷ negsuc 89892 ∷ pos 72000 ∷ pos 0 ∷ pos 0 ∷ pos 0 ∷ [])
unfolding opened
call_4 = refl

call_5 : on (real 1107765864 ∷ []) (pos 17000 ∷ negsuc 89892 ∷ pos 72000 ∷ pos 0 ∷ pos 0 ∷ pos 0 ∷ [])
    ≡ after
    (answer Default (pos 17000) 0 4625478292286210048 ∷ answer Fired (negsuc 89892) 53407 13859398111312008446 ∷ answer Fired
    (pos 72000) 467 4634766966517661696 ∷ [])
    (pos 17000 ∷ negsuc 89892 ∷ pos 72000 ∷ pos 0 ∷ pos 0 ∷ pos 0 ∷ [])
unfolding opened
call_5 = refl

call_6 : on (real 1090693104 ∷ []) (pos 17000 ∷ negsuc 89892 ∷ pos 72000 ∷ pos 0 ∷ pos 0 ∷ pos 0 ∷ [])
    ≡ after
    (answer Default (pos 17000) 0 4625478292286210048 ∷ answer Fired (negsuc 89892) 1000 13859398111312008446 ∷ answer Fired
    (pos 72000) 1000 4634766966517661696 ∷ [])
    (pos 17000 ∷ negsuc 89892 ∷ pos 72000 ∷ pos 0 ∷ pos 0 ∷ pos 0 ∷ [])
unfolding opened
call_6 = refl

abbrev nots : List ℕ
nots =
    bytes "FUNCTION_BLOCK f VAR_INPUT a: REAL; END_VAR VAR_OUTPUT g: REAL; END_VAR FUZZIFY a TERM t := (0,0),(1,1); END_FUZZIFY DEFUZZIFY "
    ++ (bytes "g TERM u := 1; METHOD : CoGS; DEFAULT := NC; END_DEFUZZIFY RULEBLOCK r ACCU : MAX; RULE 1: IF NOT (NOT (NOT (NOT (NOT (NOT "
    ++ (bytes "(NOT (NOT (a IS NOT t)))))))) THEN g IS u; END_RULEBLOCK END_FUNCTION_BLOCK"))

abbrev nots_listing : List ℕ
nots_listing =
    bytes "FUNCTION_BLOCK f\nVAR_INPUT\n  a : REAL;\nEND_VAR\nVAR_OUTPUT\n  g : REAL;\nEND_VAR\nFUZZIFY a\n  TERM t := (0, 0), (1, 1);\nEND_FUZZIFY\n"
    ++ (bytes "DEFUZZIFY g\n  TERM u := 1;\n  METHOD : CoGS;\n  DEFAULT := NC;\nEND_DEFUZZIFY\nRULEBLOCK r\n  AND : MIN;\n  OR : MAX;\n  ACT : "
    ++ (bytes "MIN;\n  ACCU : MAX;\n  RULE 1 : IF NOT (NOT (NOT (NOT (NOT (NOT (NOT (NOT a IS NOT t))))))) THEN g IS u;\nEND_RULEBLOCK\nEND_FUNCTION_BLOCK\n"))

nots_listing_lem : listed nots ≡ accepted nots_listing
unfolding opened
nots_listing_lem = refl

abbrev groups : List ℕ
groups =
    bytes "FUNCTION_BLOCK f VAR_INPUT a: REAL; END_VAR VAR_OUTPUT g: REAL; END_VAR FUZZIFY a TERM t := (0,0),(1,1); END_FUZZIFY DEFUZZIFY "
    ++ (bytes "g TERM u := 1; METHOD : CoGS; DEFAULT := NC; END_DEFUZZIFY RULEBLOCK r ACCU : MAX; RULE 1: IF a IS t AND (a IS t AND (a "
    ++ (bytes "IS t AND (a IS t AND (a IS t AND (a IS t AND (a IS t AND (a IS t AND ( a IS t)))))))) THEN g IS u; END_RULEBLOCK END_FUNCTION_BLOCK"))

abbrev groups_listing : List ℕ
groups_listing =
    bytes "FUNCTION_BLOCK f\nVAR_INPUT\n  a : REAL;\nEND_VAR\nVAR_OUTPUT\n  g : REAL;\nEND_VAR\nFUZZIFY a\n  TERM t := (0, 0), (1, 1);\nEND_FUZZIFY\n"
    ++ (bytes "DEFUZZIFY g\n  TERM u := 1;\n  METHOD : CoGS;\n  DEFAULT := NC;\nEND_DEFUZZIFY\nRULEBLOCK r\n  AND : MIN;\n  OR : MAX;\n  ACT : "
    ++ (bytes "MIN;\n  ACCU : MAX;\n  RULE 1 : IF a IS t AND (a IS t AND (a IS t AND (a IS t AND (a IS t AND (a IS t AND (a IS t AND (a IS "
    ++ (bytes "t AND a IS t))))))) THEN g IS u;\nEND_RULEBLOCK\nEND_FUNCTION_BLOCK\n")))

groups_listing_lem : listed groups ≡ accepted groups_listing
unfolding opened
groups_listing_lem = refl

abbrev again : List ℕ
again =
    bytes "FUNCTION_BLOCK f VAR_INPUT a: REAL; END_VAR VAR_OUTPUT g: REAL; END_VAR FUZZIFY a TERM t := (0,0),(1,1); END_FUZZIFY DEFUZZIFY "
    ++ (bytes "g TERM u := 1; METHOD : CoGS; DEFAULT := NC; END_DEFUZZIFY RULEBLOCK r ACCU : MAX; RULE 1: IF a IS t THEN g IS u, g IS u "
    ++ (bytes "WITH 0.125; END_RULEBLOCK END_FUNCTION_BLOCK"))

abbrev again_listing : List ℕ
again_listing =
    bytes "FUNCTION_BLOCK f\nVAR_INPUT\n  a : REAL;\nEND_VAR\nVAR_OUTPUT\n  g : REAL;\nEND_VAR\nFUZZIFY a\n  TERM t := (0, 0), (1, 1);\nEND_FUZZIFY\n"
    ++ (bytes "DEFUZZIFY g\n  TERM u := 1;\n  METHOD : CoGS;\n  DEFAULT := NC;\nEND_DEFUZZIFY\nRULEBLOCK r\n  AND : MIN;\n  OR : MAX;\n  ACT : "
    ++ (bytes "MIN;\n  ACCU : MAX;\n  RULE 1 : IF a IS t THEN g IS u, g IS u WITH 0.125;\nEND_RULEBLOCK\nEND_FUNCTION_BLOCK\n"))

again_listing_lem : listed again ≡ accepted again_listing
unfolding opened
again_listing_lem = refl

abbrev number : List ℕ
number =
    bytes "FUNCTION_BLOCK f VAR_INPUT a: REAL; END_VAR VAR_OUTPUT g: REAL; END_VAR FUZZIFY a TERM t := (0,0),(1,1); END_FUZZIFY DEFUZZIFY "
    ++ (bytes "g TERM u := 1; METHOD : CoGS; DEFAULT := NC; END_DEFUZZIFY RULEBLOCK r ACCU : MAX; RULE 65535: IF a IS t THEN g IS u; END_RULEBLOCK "
    ++ (bytes "END_FUNCTION_BLOCK"))

abbrev number_listing : List ℕ
number_listing =
    bytes "FUNCTION_BLOCK f\nVAR_INPUT\n  a : REAL;\nEND_VAR\nVAR_OUTPUT\n  g : REAL;\nEND_VAR\nFUZZIFY a\n  TERM t := (0, 0), (1, 1);\nEND_FUZZIFY\n"
    ++ (bytes "DEFUZZIFY g\n  TERM u := 1;\n  METHOD : CoGS;\n  DEFAULT := NC;\nEND_DEFUZZIFY\nRULEBLOCK r\n  AND : MIN;\n  OR : MAX;\n  ACT : "
    ++ (bytes "MIN;\n  ACCU : MAX;\n  RULE 65535 : IF a IS t THEN g IS u;\nEND_RULEBLOCK\nEND_FUNCTION_BLOCK\n"))

number_listing_lem : listed number ≡ accepted number_listing
unfolding opened
number_listing_lem = refl
