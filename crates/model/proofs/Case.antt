-- Names and keywords without case: the bytes that have one, words that are alike, keywords, and a text with names and
-- keywords in any case.
use Rattle.std.specs.Prelude.{if◌then◌else◌}
use mathlib.Core.Bool.{true, false}
use mathlib.Core.List.{List, [], ◌∷◌, ◌++◌, map}
use mathlib.Core.Option.{none}
use mathlib.Core.Path.{◌≡◌, refl}
use Prim.Native.Nat.{ℕ, ◌+◌}
use Prim.Native.String.{String}
use lib.IntN.{pos}
use Rattle.model.specs.Basic.{bytes, between, capital, capitals}
use Rattle.model.specs.Keywords
use Rattle.model.specs.Keywords.{keywords, NAME}
use Rattle.model.specs.Tokens.{same_name, is_name, word_kind}
use Rattle.model.specs.Block.{Block, real, term, neg, min-max, by-min, by-max}
use Rattle.model.specs.Outcome.{accepted}
use Rattle.model.specs.Reader.{reads}
use Rattle.model.specs.Listing.{listing}
use Rattle.model.specs.Case.{in_capitals}
use Rattle.model.proofs.Opened.{opened}
use Rattle.model.proofs.Texts.{true_all, false_all, numbers_from}
use Rattle.model.proofs.Example.{clear}

-- BYTES, each from 0 to 255: the small letters alone have another capital
byte_capitals : map capital (numbers_from 256 0) ≡ numbers_from 97 0 ++ (numbers_from 26 65 ++ numbers_from 133 123)
unfolding opened
byte_capitals = refl

-- WORDS
abbrev pub small : ℕ → ℕ
small c = if between 65 90 c then c + 32 else c

-- one name
abbrev ones : List String
ones = "abcdefghijklmnop" ∷ "abcdefghijklmnoP" ∷ "Abcdefghijklmnop" ∷ "ABCDEFGHIJKLMNOP" ∷ "aBcDeFgHiJkLmNoP" ∷ []

names_one : map (λ w. same_name (bytes "abcdefghijklmnop") (bytes w)) ones ≡ true_all ones
unfolding opened
names_one = refl

-- from either side, and in digits and underscores nothing else
names_either : map (λ w. same_name (bytes w) (bytes "Z_9a")) ("Z_9a" ∷ "z_9A" ∷ "z_9a" ∷ "Z_8a" ∷ "Z-9a" ∷ "Z_9" ∷ [])
    ≡ true ∷ true ∷ true ∷ false ∷ false ∷ false ∷ []
unfolding opened
names_either = refl

-- bytes that lie 32 apart and are no letters: `@` and a backquote, `[` and `{`, `^` and `~`, `_` and 127, 0 and 16
names_no_letters : map (λ (p : ℕ × ℕ). same_name (97 ∷ p.0 ∷ []) (97 ∷ p.1 ∷ []))
    ((64, 96) ∷ (96, 64) ∷ (91, 123) ∷ (123, 91) ∷ (94, 126) ∷ (95, 127) ∷ (48, 16) ∷ (228, 196) ∷ [])
    ≡ false ∷ false ∷ false ∷ false ∷ false ∷ false ∷ false ∷ false ∷ []
unfolding opened
names_no_letters = refl

-- KEYWORDS in small letters, in capitals, mixed
keywords_small : map (λ w. word_kind (map small w)) keywords ≡ numbers_from 43 128
unfolding opened
keywords_small = refl

keywords_capital : map (λ w. word_kind (capitals w)) keywords ≡ numbers_from 43 128
unfolding opened
keywords_capital = refl

keywords_mixed : map (λ w. word_kind (bytes w)) ("If" ∷ "iF" ∷ "cOgS" ∷ "COGS" ∷ "coA" ∷ "End_Function_Block" ∷ "rEAL" ∷ [])
    ≡ Keywords.IF ∷ Keywords.IF ∷ Keywords.CoGS ∷ Keywords.CoGS ∷ 134 ∷ Keywords.END_FUNCTION_BLOCK ∷ Keywords.REAL ∷ []
unfolding opened
keywords_mixed = refl

-- no keywords, and so names
abbrev others : List String
others = "iff" ∷ "i" ∷ "end" ∷ "_if" ∷ "if1" ∷ "cogss" ∷ "realm" ∷ []

keywords_not : map (λ w. word_kind (bytes w)) others ≡ map (λ w. NAME) others
unfolding opened
keywords_not = refl

-- keywords, and so no names
abbrev no_names : List String
no_names = "if" ∷ "If" ∷ "REAl" ∷ "cogs" ∷ "COGS" ∷ "lm" ∷ "Var" ∷ "ruleblock" ∷ []

names_not : map (λ w. is_name (bytes w)) no_names ≡ false_all no_names
unfolding opened
names_not = refl

-- A TEXT: the worked example's block with these names
abbrev pub named : String → String → String → String → String → String → String → Block
named f a t y k m r = record {
  name = bytes f;
  inputs = record { name = bytes a; type = real; terms = record { name = bytes t; points = clear } ∷ [] } ∷ [];
  outputs =
      record {
        name = bytes y;
        terms = record { name = bytes k; at = pos 0 } ∷ record { name = bytes m; at = pos 100000 } ∷ [];
        range = none;
        default = none;
      } ∷ [];
  rule_block = bytes r;
  pair = min-max;
  act = by-min;
  accu = by-max;
  rules =
      record { number = 1; condition = term 0; conclusions = record { output = 0; term = 2 } ∷ []; weight = 1000000 }
      ∷ record { number = 2; condition = neg (term 0); conclusions = record { output = 0; term = 1 } ∷ []; weight = 1000000 } ∷ [];
}

-- a name is kept as it is declared, not in capitals and not as it is used, first or last
abbrev pub mixed : Block
mixed = named "Trust" "shARp" "Clear" "grADE" "lOW" "High" "R"

mixed_in_capitals : in_capitals mixed ≡ named "TRUST" "SHARP" "CLEAR" "GRADE" "LOW" "HIGH" "R"
mixed_in_capitals = refl

mixed_reads :
    reads (bytes "Function_Block Trust Var_Input shARp: Real; End_Var var_output grADE: rEAL; end_var fuzzify SHARP term Clear := (20,0),(60.0,1); end_fuzzify DEFUZZIFY Grade TERM lOW := 0; TERM High := 100; Method : COGS; Default := nc; end_defuzzify ruleblock R accu : max; rule 1: if SHARP is CLEAR then GRADE is HIGH; Rule 2: If Not sharp Is clear Then grade Is low; end_ruleblock end_function_block")
    ≡ accepted mixed
unfolding opened
mixed_reads = refl

-- the listing has keywords as document 01 spells them, and names as they are declared
mixed_lists : listing mixed
    ≡ bytes "FUNCTION_BLOCK Trust\nVAR_INPUT\n  shARp : REAL;\nEND_VAR\nVAR_OUTPUT\n  grADE : REAL;\nEND_VAR\nFUZZIFY shARp\n  TERM Clear := (20, 0), (60, 1);\nEND_FUZZIFY\nDEFUZZIFY grADE\n  TERM lOW := 0;\n  TERM High := 100;\n  METHOD : CoGS;\n  DEFAULT := NC;\nEND_DEFUZZIFY\nRULEBLOCK R\n  AND : MIN;\n  OR : MAX;\n  ACT : MIN;\n  ACCU : MAX;\n  RULE 1 : IF shARp IS Clear THEN grADE IS High;\n  RULE 2 : IF shARp IS NOT Clear THEN grADE IS lOW;\nEND_RULEBLOCK\nEND_FUNCTION_BLOCK\n"
unfolding opened
mixed_lists = refl
