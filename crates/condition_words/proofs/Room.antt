-- How many places on the stack a condition needs, by its form and depth.
use mathlib.Core.Path.{◌≡◌, refl}
use mathlib.Core.Bool.{Bool, true, false}
use Prim.Native.Nat.{ℕ, suc, ◌+◌, ◌*◌, ◌-◌, ◌≤◌, ◌<◌, max}
use native.Mathlib.Omega.{arith}
use borrow.Author.Tests.{ltb-false}
use lib.Dec.{ltb, eqb}
use Rattle.model.specs.Bounds.{depth_limit}
use Rattle.model.specs.Block.{Op, and, or, Condition, term, neg, two}
use Rattle.model.specs.Parentheses.{rank, negated_form, form, bare_behind_not, bare_left, bare_right, opened, depth}
use Rattle.condition_words.specs.Machine.{room}

negated_form_lem : (k : ℕ) → negated_form k ≤ 2
negated_form_lem k = go (eqb k 0) refl
  where
    go : (b : Bool) → eqb k 0 ≡ b → negated_form k ≤ 2
    go true e = rw e (omega arith)
    go false e = rw e (omega arith)

rank_le : (o : Op) → rank o ≤ 4
rank_le and = omega arith
rank_le or = omega arith

pub form_le : (c : Condition) → form c ≤ 4
unfolding form
form_le (term t) = omega arith
form_le (neg c) = omega (arith, negated_form_lem (form c))
form_le (two o a b) = rank_le o

unfoldable pub need : ℕ → ℕ → ℕ
need k d = 2 * d + max 1 (k - 1)

pub opened_ge : (l k d : ℕ) → d ≤ opened l k d
opened_ge l k d = go (ltb l k) refl
  where
    go : (b : Bool) → ltb l k ≡ b → d ≤ opened l k d
    go true e = rw e (omega arith)
    go false e = rw e (omega arith)

opened_need : (l : ℕ) (c : Condition) → need (form c) (depth c) ≤ need l (opened l (form c) (depth c))
unfolding need
opened_need l c = go (ltb l (form c)) refl
  where
    go : (b : Bool) → ltb l (form c) ≡ b → need (form c) (depth c) ≤ need l (opened l (form c) (depth c))
    go true e = rw e (omega (arith, form_le c))
    go false e = rw e (omega (arith, ltb-false l (form c) e))

-- operands have the room that they need, where the whole has it
module _ (places : ℕ) where
  left : (o : Op) (x u v n : ℕ) → x ≤ need (bare_left o) u → need (rank o) (max u v) + n ≤ places → x + n ≤ places
  unfolding need
  left and x u v n p h = omega arith
  left or x u v n p h = omega arith

  right : (o : Op) (x u v n : ℕ) → x ≤ need (bare_right o) v → need (rank o) (max u v) + n ≤ places → x + suc n ≤ places
  unfolding need
  right and x u v n p h = omega arith
  right or x u v n p h = omega arith

  negated : (k x u n : ℕ) → x ≤ need bare_behind_not u → need (negated_form k) u + n ≤ places → x + n ≤ places
  unfolding need
  negated k x u n p h = omega (arith, negated_form_lem k)

  -- the condition c has room above n
  unfoldable pub HasRoom : Condition → ℕ → Type 0
  HasRoom c n = need (form c) (depth c) + n ≤ places

  pub fits_left : (o : Op) (a b : Condition) (n : ℕ) → HasRoom (two o a b) n → HasRoom a n
  unfolding HasRoom form depth
  fits_left o a b n h = left o _ _ (opened (bare_right o) (form b) (depth b)) n (opened_need (bare_left o) a) h

  pub fits_right : (o : Op) (a b : Condition) (n : ℕ) → HasRoom (two o a b) n → HasRoom b (suc n)
  unfolding HasRoom form depth
  fits_right o a b n h = right o _ (opened (bare_left o) (form a) (depth a)) _ n (opened_need (bare_right o) b) h

  pub fits_neg : (c : Condition) (n : ℕ) → HasRoom (neg c) n → HasRoom c n
  unfolding HasRoom form depth
  fits_neg c n h = negated (form c) _ _ n (opened_need bare_behind_not c) h

  pub fits_one : (c : Condition) (n : ℕ) → HasRoom c n → n < places
  unfolding HasRoom need
  fits_one c n h = omega arith

  -- no condition of eight parentheses needs more than `room`
  pub fits : (c : Condition) (n : ℕ) → depth c ≤ depth_limit → n + room ≤ places → HasRoom c n
  unfolding HasRoom need
  fits c n d h = omega (arith, form_le c)
