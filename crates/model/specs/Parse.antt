-- How far a text is read, and the steps that every part of the reader's rules is made of.
-- A refusal drops the tokens that are left, so no later step finds what it asks for.
use Rattle.std.specs.Prelude.{Bool, true, false, List, [], ◌∷◌, ℕ, zero, suc, leb, eqb, ℤ, length, if◌then◌else◌}
use Rattle.model.specs.Basic.{◌▸◌}
use Rattle.model.specs.Bounds.{name_limit}
use Rattle.model.specs.Keywords.{END, NAME, NUMBER, COMMA}
use Rattle.model.specs.Tokens.{is_crisp, is_unit, value_of, Token, token}
use Rattle.model.specs.Block.{Block}

-- rest: from the current token on; why: 0, or the number of the first refusal, at place;
-- block: what was read; words: the condition words that were read
pub record Parse : Type 0 where
  pub rest : List Token
  pub why : ℕ
  pub place : ℕ
  pub block : Block
  pub words : ℕ

-- a step of reading
abbrev pub Part : Type 0
Part = Parse → Parse

abbrev pub no_token : Token
no_token = token END [] 0

abbrev pub head_of : List Token → Token
head_of [] = no_token
head_of (t ∷ ts) = t

abbrev pub rest_of : List Token → List Token
rest_of [] = []
rest_of (t ∷ ts) = ts

unfoldable pub kind : Parse → ℕ
kind r = (head_of r.rest).kind

unfoldable pub text : Parse → List ℕ
text r = (head_of r.rest).text

unfoldable pub here : Parse → ℕ
here r = (head_of r.rest).place

abbrev pub is : ℕ → Parse → Bool
is k r = eqb (kind r) k

unfoldable pub refuse : ℕ → Part
refuse n r =
    if eqb r.why 0
    then record { rest = no_token ∷ []; why = n; place = here r; block = r.block; words = r.words }
    else r

unfoldable pub advance : Part
advance r = record { rest = rest_of r.rest; why = r.why; place = r.place; block = r.block; words = r.words }

unfoldable pub change : (Block → Block) → Part
change f r =
    if eqb r.why 0
    then record { rest = r.rest; why = r.why; place = r.place; block = f r.block; words = r.words }
    else r

-- the checks of a token in their order, each with the number it is refused by
abbrev pub Checks : Type 0
Checks = List (Bool × ℕ)

-- where all pass, what follows
unfoldable pub judged : Checks → Parse → Parse → Parse
judged [] r next = next
judged ((ok, n) ∷ cs) r next = if ok then judged cs r next else refuse n r

unfoldable pub expect : ℕ → Part
expect k r = if is k r then advance r else refuse 2 r

-- part again and again, while the current token is of kind k; never more often than there are tokens left
unfoldable pub repeat_on : ℕ → ℕ → Part → Part
repeat_on zero k part r = r
repeat_on (suc n) k part r = elim (is k r) [ true ↦ repeat_on n k part (part r) | false ↦ r ]

unfoldable pub repeated : ℕ → Part → Part
repeated k part r = repeat_on (suc (length r.rest)) k part r

-- part, and part again after each comma
unfoldable pub listed : Part → Part
listed part r = r ▸ part ▸ repeated COMMA (λ q. q ▸ expect COMMA ▸ part)

-- what a name and a number are checked for before anything else
abbrev pub a_name : Parse → Checks → Checks
a_name r cs = (is NAME r, 2) ∷ (leb (length (text r)) name_limit, 4) ∷ cs

abbrev pub a_crisp : Parse → Checks → Checks
a_crisp r cs = (is NUMBER r, 2) ∷ (is_crisp (text r), 3) ∷ cs

-- a degree or a weight
abbrev pub a_unit : Parse → Checks
a_unit r = (is NUMBER r, 2) ∷ (is_unit (text r), 3) ∷ []

-- the crisp value that stands here
abbrev pub value_here : Parse → ℤ
value_here r = value_of (text r)

-- a name of its own: of the function block, of the rule block
unfoldable pub own_name : (List ℕ → Block → Block) → Part
own_name with r = judged (a_name r []) r (advance (change (with (text r)) r))
