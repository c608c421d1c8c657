-- Text: blanks, comments, names, numbers, and the tokens of a text, each with its place, the longest possible.
use Rattle.std.specs.Prelude.{Bool, true, false, ◌&&◌, ◌||◌, not, List, [], ◌∷◌, ◌++◌, ℕ, zero, suc, ◌+◌, ◌*◌, ◌-◌, leb, eqb, ℤ, pos, neg_ℤ, nat_abs, length, take, drop, if◌then◌else◌}
use Rattle.std.proofs.Math.Option.{Option, none, some}
use Rattle.std.specs.Int.Signed.{le_z}
use Rattle.model.specs.Basic.{bytes, between, all, run, alike}
use Rattle.model.specs.Bounds.{crisp_limit, name_limit, digit_limit, fraction_limit, rule_number_least, rule_number_limit}
use Rattle.model.specs.Keywords.{keyword_at, is_keyword, END, WRONG, NAME, NUMBER, ASSIGN, DOTS, BLANK, OPEN, CLOSE, COMMA, COLON, SEMICOLON}

-- BYTES
-- space, tab, CR, LF
abbrev pub is_blank : ℕ → Bool
is_blank c = eqb c 32 || (eqb c 9 || (eqb c 13 || eqb c 10))

abbrev pub is_digit : ℕ → Bool
is_digit c = between 48 57 c

abbrev pub is_underscore : ℕ → Bool
is_underscore c = eqb c 95

-- a letter or an underscore
abbrev pub starts_name : ℕ → Bool
starts_name c = between 65 90 c || (between 97 122 c || is_underscore c)

abbrev pub is_name_byte : ℕ → Bool
is_name_byte c = starts_name c || is_digit c

abbrev pub is_sign : ℕ → Bool
is_sign c = eqb c 43 || eqb c 45

abbrev pub is_mark : ℕ → Bool
is_mark c = eqb c OPEN || (eqb c CLOSE || (eqb c COMMA || (eqb c COLON || eqb c SEMICOLON)))

-- the first byte passes
abbrev pub starts : (ℕ → Bool) → List ℕ → Bool
starts f [] = false
starts f (c ∷ s) = f c

-- NAMES
-- no two underscores together and none last
unfoldable pub tidy : List ℕ → Bool
tidy [] = true
tidy (c ∷ []) = not (is_underscore c)
tidy (c ∷ d ∷ s) = not (is_underscore c && is_underscore d) && tidy (d ∷ s)

-- names are compared without case
unfoldable pub same_name : List ℕ → List ℕ → Bool
same_name v w = alike v w

-- what may stand as a name
unfoldable pub is_name : List ℕ → Bool
is_name w =
    starts starts_name w && (all is_name_byte w && (tidy w && (leb (length w) name_limit && not (is_keyword w))))

-- NUMBERS, by their text: a sign or none, digits, or digits, a point and digits
abbrev pub unsigned : List ℕ → List ℕ
unsigned [] = []
unsigned (c ∷ s) = if is_sign c then s else c ∷ s

abbrev pub whole : List ℕ → List ℕ
whole w = take (run is_digit (unsigned w)) (unsigned w)

abbrev pub fraction : List ℕ → List ℕ
fraction w = drop (suc (run is_digit (unsigned w))) (unsigned w)

unfoldable pub decimal_from : ℕ → List ℕ → ℕ
decimal_from n [] = n
decimal_from n (c ∷ s) = decimal_from (n * 10 + (c - 48)) s

abbrev pub decimal : List ℕ → ℕ
decimal s = decimal_from 0 s

-- without its sign, in thousandths
unfoldable pub magnitude : List ℕ → ℕ
magnitude w = decimal (whole w) * 1000 + decimal (take 3 (fraction w ++ bytes "000"))

-- in thousandths
unfoldable pub value_of : List ℕ → ℤ
value_of w = if starts (eqb 45) w then neg_ℤ (pos (magnitude w)) else pos (magnitude w)

-- 1 to 7 digits, and after a point 1 to 3
abbrev pub digits_fit : List ℕ → Bool
digits_fit w = leb (length (whole w)) digit_limit && leb (length (fraction w)) fraction_limit

abbrev pub in_crisp : ℤ → Bool
in_crisp z = leb (nat_abs z) crisp_limit

unfoldable pub is_crisp : List ℕ → Bool
is_crisp w = digits_fit w && in_crisp (value_of w)

-- a degree or a weight: 0 to 1
unfoldable pub is_unit : List ℕ → Bool
is_unit w = digits_fit w && (le_z (pos 0) (value_of w) && le_z (value_of w) (pos 1000))

-- in millionths
unfoldable pub unit_of : List ℕ → ℕ
unit_of w = magnitude w * 1000

-- neither sign nor point
unfoldable pub is_rule_number : List ℕ → Bool
is_rule_number w =
    all is_digit w && (leb (length w) digit_limit && between rule_number_least rule_number_limit (decimal w))

-- TOKENS
pub record Token : Type 0 where
  pub kind : ℕ
  pub text : List ℕ
  pub place : ℕ

abbrev pub token : ℕ → List ℕ → ℕ → Token
token k w p = record { kind = k; text = w; place = p }

-- what begins at a byte: its kind, and how many more bytes belong to it
pub record Piece : Type 0 where
  pub kind : ℕ
  pub more : ℕ

abbrev pub piece : ℕ → ℕ → Piece
piece k n = record { kind = k; more = n }

unfoldable pub word_kind : List ℕ → ℕ
word_kind w =
    if not (tidy w) then WRONG else
    if is_keyword w then 128 + keyword_at w else NAME

-- a point belongs to the number only if a digit follows it
abbrev pub point_part : List ℕ → ℕ
point_part [] = 0
point_part (c ∷ s) = if eqb c 46 && starts is_digit s then suc (run is_digit s) else 0

-- the bytes of a number after its sign or its first digit
unfoldable pub number_part : List ℕ → ℕ
number_part s = run is_digit s + point_part (drop (run is_digit s) s)

-- the bytes up to the end of a comment, `*)` included
unfoldable pub comment_part : List ℕ → Option ℕ
comment_part [] = none
comment_part (c ∷ []) = none
comment_part (c ∷ d ∷ s) = elim (eqb c 42 && eqb d 41) [
  | true ↦ some 2
  | false ↦ elim (comment_part (d ∷ s)) [ none ↦ none | some n ↦ some (suc n) ]
]

-- from behind `(*` on; a comment that is not closed is wrong, up to the end of the text
abbrev pub comment_piece : List ℕ → Option ℕ → Piece
comment_piece s none = piece WRONG (suc (length s))
comment_piece s (some n) = piece BLANK (suc n)

unfoldable pub word_piece : ℕ → List ℕ → Piece
word_piece c s = piece (word_kind (c ∷ take (run is_name_byte s) s)) (run is_name_byte s)

unfoldable pub piece_at : ℕ → List ℕ → Piece
piece_at c s =
    if is_blank c then piece BLANK 0 else
    if starts_name c then word_piece c s else
    if is_digit c then piece NUMBER (number_part s) else
    if is_sign c && starts is_digit s then piece NUMBER (number_part s) else
    if eqb c 40 && starts (eqb 42) s then comment_piece (drop 1 s) (comment_part (drop 1 s)) else
    if eqb c 58 && starts (eqb 61) s then piece ASSIGN 1 else
    if eqb c 46 && starts (eqb 46) s then piece DOTS 1 else
    if is_mark c then piece c 0 else
    piece WRONG 0

abbrev pub placed : Piece → ℕ → List ℕ → List Token → List Token
placed q p s ts = if eqb q.kind BLANK then ts else token q.kind (take (suc q.more) s) p ∷ ts

-- n bytes belong to the piece before, and p is the place of the next byte; the end is a token of its own
unfoldable pub scan : ℕ → ℕ → List ℕ → List Token
scan n p [] = token END [] p ∷ []
scan (suc n) p (c ∷ s) = scan n (suc p) s
scan zero p (c ∷ s) = placed (piece_at c s) p (c ∷ s) (scan (piece_at c s).more (suc p) s)

unfoldable pub tokens : List ℕ → List Token
tokens s = scan 0 0 s
