-- A helper: what a cursor stands for: how far the text is read, beside a block and a number of condition words. `Step`
-- ties a move of the cursor to a part of the rules, a `Part` of the model.
use Rattle.std.specs.Prelude.{◌≡◌, Option, Some, None, Result, Ok, Err, is_none, List, [], ◌∷◌, ℕ, zero, suc, ◌-◌, ◌≤◌, ◌<◌, eqb, leb, length, if◌then◌else◌}
use Rattle.std.proofs.Math.Nat.{zero-lt-suc}
use Rattle.std.proofs.Math.Seq.{slice}
use Rattle.model.specs.Bounds.{name_limit}
use Rattle.model.specs.Keywords.{END, NAME}
use Rattle.model.specs.Block.{Block}
use Rattle.model.specs.Parse.{Parse, Part, Checks}
use Rattle.tokens.specs.Tokens.{token_of, after}
use Rattle.tokens.specs.declared.Token.{Token}
use Rattle.refusals.specs.declared.Fault.{Fault}
use Rattle.refusals.specs.Faults.{number}
use Rattle.cursor.specs.declared.Cursor.{Cursor}
use Rattle.cursor.specs.declared.refusal.Refused.{Refused}

abbrev pub current : Cursor → Token
current c = record { kind = c.kind; start = c.start; end = c.end }

-- the bytes of the current token
abbrev pub text_of : List ℕ → Cursor → List ℕ
text_of s c = slice c.start c.end s

-- by which number reading was refused; 0 where it was not
abbrev pub why_of : Option Refused → ℕ
why_of None = 0
why_of (Some r) = r.why

unfoldable pub seen : List ℕ → Cursor → Block → ℕ → Parse
seen s c b n = record {
  rest = token_of s (current c) ∷ after s (current c);
  why = why_of c.refused;
  place = c.place;
  block = b;
  words = n;
}

-- the current token lies in the text, and a refused reading stands at an end
pub record Fits (s : List ℕ) (c : Cursor) : Type 0 where
  pub order : c.start ≤ c.end
  pub inside : c.end ≤ length s
  pub halted : (c.kind ≡ END → ⊥) → c.refused ≡ None

-- how many tokens are left, the end apart
unfoldable pub left : List ℕ → Cursor → ℕ
left s c = if eqb c.kind END then 0 else suc (length (after s (current c)))

-- before a token, at least one is passed or reading is refused
abbrev pub Moves : List ℕ → Cursor → Cursor → Type 0
Moves s c r = (c.kind ≡ END → ⊥) → left s r < left s c

-- from c to r a part of the rules was read that looks at no block and at no words
pub record Step (part : Part) (s : List ℕ) (c r : Cursor) : Type 0 where
  pub reads : (b : Block) (n : ℕ) → seen s r b n ≡ part (seen s c b n)
  pub fewer : left s r ≤ left s c
  pub fits : Fits s r
  pub sticky : r.refused ≡ None → c.refused ≡ None

-- the number of the first check that fails; 0 where all pass
unfoldable pub fault : Checks → ℕ
fault [] = 0
fault ((ok, n) ∷ cs) = if ok then fault cs else n

-- the number of the fault that is found, 0 where there is none
abbrev pub number_of : {A : Type 0} → Result A Fault → ℕ
number_of (Ok x) = 0
number_of (Err f) = number f

-- by a number; by 0 nothing is refused
abbrev pub refused_by : ℕ → Option Refused
refused_by zero = None
refused_by (suc w) = Some (record { why = suc w; above = zero-lt-suc w })

-- c refused by w, where it is not refused yet
unfoldable pub refused_at : Cursor → ℕ → Cursor
refused_at c w = if is_none c.refused then record { kind = END; start = 0; end = 0; place = c.start; refused = refused_by w } else c

-- by which number the current token is refused as a name
unfoldable pub name_fault : Cursor → ℕ
name_fault c = fault ((eqb c.kind NAME, 2) ∷ (leb (c.end - c.start) name_limit, 4) ∷ [])
