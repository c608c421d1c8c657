-- Keywords: the words of Table 7 of source 001 in its order, then REAL and INT. They are compared without case.
use Rattle.std.specs.Prelude.{Bool, List, [], ◌∷◌, ℕ, ◌+◌, ltb, length}
use Prim.Native.String.{String}
use Rattle.model.specs.Basic.{bytes, alike, index_of}

abbrev pub keywords : List (List ℕ)
keywords =
    bytes "ACCU" ∷ bytes "ACT" ∷ bytes "AND" ∷ bytes "ASUM" ∷ bytes "BDIF" ∷ bytes "BSUM" ∷ bytes "CoA" ∷
    bytes "CoG" ∷ bytes "CoGS" ∷ bytes "DEFAULT" ∷ bytes "DEFUZZIFY" ∷ bytes "END_DEFUZZIFY" ∷
    bytes "END_FUNCTION_BLOCK" ∷ bytes "END_FUZZIFY" ∷ bytes "END_OPTIONS" ∷ bytes "END_RULEBLOCK" ∷
    bytes "END_VAR" ∷ bytes "FUNCTION_BLOCK" ∷ bytes "FUZZIFY" ∷ bytes "IF" ∷ bytes "IS" ∷ bytes "LM" ∷
    bytes "MAX" ∷ bytes "METHOD" ∷ bytes "MIN" ∷ bytes "NC" ∷ bytes "NOT" ∷ bytes "NSUM" ∷ bytes "OPTIONS" ∷
    bytes "OR" ∷ bytes "PROD" ∷ bytes "RANGE" ∷ bytes "RM" ∷ bytes "RULE" ∷ bytes "RULEBLOCK" ∷ bytes "TERM" ∷
    bytes "THEN" ∷ bytes "VAR" ∷ bytes "VAR_INPUT" ∷ bytes "VAR_OUTPUT" ∷ bytes "WITH" ∷ bytes "REAL" ∷
    bytes "INT" ∷ []

-- the keyword's place in the list; its length for any other word
abbrev pub keyword_at : List ℕ → ℕ
keyword_at w = index_of (alike w) keywords

unfoldable pub is_keyword : List ℕ → Bool
is_keyword w = ltb (keyword_at w) (length keywords)

-- The kinds of tokens. The end of the text, a wrong byte or word, a name, a number; `:=` and `..`; blanks and comments.

abbrev pub END : ℕ
END = 0

abbrev pub WRONG : ℕ
WRONG = 1

abbrev pub NAME : ℕ
NAME = 2

abbrev pub NUMBER : ℕ
NUMBER = 3

abbrev pub ASSIGN : ℕ
ASSIGN = 4

abbrev pub DOTS : ℕ
DOTS = 5

abbrev pub BLANK : ℕ
BLANK = 6

-- marks are of the kind of their byte

abbrev pub OPEN : ℕ
OPEN = 40

abbrev pub CLOSE : ℕ
CLOSE = 41

abbrev pub COMMA : ℕ
COMMA = 44

abbrev pub COLON : ℕ
COLON = 58

abbrev pub SEMICOLON : ℕ
SEMICOLON = 59

-- keywords are of kind 128 and their place in the list; CoA, CoG, END_OPTIONS, LM, NSUM, OPTIONS, RM and VAR are
-- reserved: no rule asks for them, so they have no name here

abbrev pub kind_of : String → ℕ
kind_of w = 128 + keyword_at (bytes w)

abbrev pub ACCU : ℕ
ACCU = kind_of "ACCU"

abbrev pub ACT : ℕ
ACT = kind_of "ACT"

abbrev pub AND : ℕ
AND = kind_of "AND"

abbrev pub ASUM : ℕ
ASUM = kind_of "ASUM"

abbrev pub BDIF : ℕ
BDIF = kind_of "BDIF"

abbrev pub BSUM : ℕ
BSUM = kind_of "BSUM"

abbrev pub CoGS : ℕ
CoGS = kind_of "CoGS"

abbrev pub DEFAULT : ℕ
DEFAULT = kind_of "DEFAULT"

abbrev pub DEFUZZIFY : ℕ
DEFUZZIFY = kind_of "DEFUZZIFY"

abbrev pub END_DEFUZZIFY : ℕ
END_DEFUZZIFY = kind_of "END_DEFUZZIFY"

abbrev pub END_FUNCTION_BLOCK : ℕ
END_FUNCTION_BLOCK = kind_of "END_FUNCTION_BLOCK"

abbrev pub END_FUZZIFY : ℕ
END_FUZZIFY = kind_of "END_FUZZIFY"

abbrev pub END_RULEBLOCK : ℕ
END_RULEBLOCK = kind_of "END_RULEBLOCK"

abbrev pub END_VAR : ℕ
END_VAR = kind_of "END_VAR"

abbrev pub FUNCTION_BLOCK : ℕ
FUNCTION_BLOCK = kind_of "FUNCTION_BLOCK"

abbrev pub FUZZIFY : ℕ
FUZZIFY = kind_of "FUZZIFY"

abbrev pub IF : ℕ
IF = kind_of "IF"

abbrev pub IS : ℕ
IS = kind_of "IS"

abbrev pub MAX : ℕ
MAX = kind_of "MAX"

abbrev pub METHOD : ℕ
METHOD = kind_of "METHOD"

abbrev pub MIN : ℕ
MIN = kind_of "MIN"

abbrev pub NC : ℕ
NC = kind_of "NC"

abbrev pub NOT : ℕ
NOT = kind_of "NOT"

abbrev pub OR : ℕ
OR = kind_of "OR"

abbrev pub PROD : ℕ
PROD = kind_of "PROD"

abbrev pub RANGE : ℕ
RANGE = kind_of "RANGE"

abbrev pub RULE : ℕ
RULE = kind_of "RULE"

abbrev pub RULEBLOCK : ℕ
RULEBLOCK = kind_of "RULEBLOCK"

abbrev pub TERM : ℕ
TERM = kind_of "TERM"

abbrev pub THEN : ℕ
THEN = kind_of "THEN"

abbrev pub VAR_INPUT : ℕ
VAR_INPUT = kind_of "VAR_INPUT"

abbrev pub VAR_OUTPUT : ℕ
VAR_OUTPUT = kind_of "VAR_OUTPUT"

abbrev pub WITH : ℕ
WITH = kind_of "WITH"

abbrev pub REAL : ℕ
REAL = kind_of "REAL"

abbrev pub INT : ℕ
INT = kind_of "INT"
