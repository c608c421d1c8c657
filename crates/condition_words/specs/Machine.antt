-- A helper: one word of a pass over postfix words with a stack, for any meaning of a term, NOT and the operators.
-- `pass_postfix` and `pass_one` of proofs/Passes tie the whole pass to model's `postfix`.
use Rattle.std.specs.Prelude.{List, [], ◌∷◌, Bool, ℕ, zero, suc, ◌+◌, ◌*◌, ◌-◌, leb, ltb, eqb, length, get_or, if◌then◌else◌}
use Rattle.std.proofs.Math.Option.{Option, none, some}
use Rattle.model.specs.Bounds.{depth_limit}
use Rattle.model.specs.Block.{Op, and, or}
use Rattle.model.specs.Image.{NOT_WORD, TERM_WORD, op_word}

-- the operator of a word that is neither NOT nor a term
abbrev pub operator_of : ℕ → Op
operator_of w = if eqb w (op_word and) then and else or

-- known: which terms there are; fine: what may stand on the stack; places: how many on the stack
pub record Meaning (A : Type 0) : Type 0 where
  pub leaf : ℕ → A
  pub no : A → A
  pub join : Op → A → A → A
  pub fine : A → Bool
  pub known : ℕ → Bool
  pub places : ℕ

-- no condition of eight parentheses needs more places
abbrev pub room : ℕ
room = 2 * depth_limit + 3

unfoldable pub added : {A : Type 0} → Meaning A → A → List A → Option (List A)
added g x st = if g.fine x then (if ltb (length st) g.places then some (x ∷ st) else none) else none

unfoldable pub unary : {A : Type 0} → Meaning A → List A → Option (List A)
unary g [] = none
unary g (a ∷ st) = added g (g.no a) st

unfoldable pub binary : {A : Type 0} → Meaning A → Op → List A → Option (List A)
binary g o [] = none
binary g o (b ∷ []) = none
binary g o (b ∷ a ∷ st) = added g (g.join o a b) st

unfoldable pub step : {A : Type 0} → Meaning A → ℕ → List A → Option (List A)
step g w st =
    if leb TERM_WORD w then (if g.known (w - TERM_WORD) then added g (g.leaf (w - TERM_WORD)) st else none) else
    if eqb w NOT_WORD then unary g st else
    if eqb w (op_word and) then binary g and st else
    if eqb w (op_word or) then binary g or st else none

unfoldable pub turn : {A : Type 0} → Meaning A → ℕ → Option (List A) → Option (List A)
turn g w none = none
turn g w (some st) = step g w st

-- the first n of an array as a stack, the last on top
unfoldable pub stack_of : {A : Type 0} → A → List A → ℕ → List A
stack_of d l zero = []
stack_of d l (suc n) = get_or l n d ∷ stack_of d l n
