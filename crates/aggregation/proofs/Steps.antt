-- One word of the pass: what the stack must hold, and what it holds then.
use mathlib.Core.Path.{◌≡◌, refl, sym, ap, ◌∙◌}
use mathlib.Core.List.{List, [], ◌∷◌}
use mathlib.Core.Bool.{Bool, true, false}
use mathlib.Core.Option.{some}
use Prim.Native.Nat.{ℕ, ◌-◌, ◌≤◌, ◌<◌}
use native.Mathlib.Omega.{arith}
use borrow.Author.Tests.{le-leb, lt-leb, ltb-true, ne_eqb}
use lib.Dec.{eqb, ltb}
use lib.ListN.{length, get_or}
use Rattle.model.specs.declared.Pair.{Pair}
use Rattle.model.specs.Block.{Op, and, or}
use Rattle.model.specs.Degrees.{not_of, pairs}
use Rattle.model.specs.Image.{NOT_WORD, TERM_WORD, op_word}
use Rattle.condition_words.specs.Machine.{operator_of, Meaning, unary, binary, step, turn, stack_of}
use Rattle.condition_words.proofs.Passes.{none_some, added_in}
use Rattle.condition_words.proofs.Stacks.{length_stack}
use Rattle.aggregation.specs.Stacks.{places, by_degrees}

module _ (p : Pair) (ds : List ℕ) (m : ℕ) (st : List ℕ) (w : ℕ) (s : List ℕ) (e : turn (by_degrees p ds m) w (some st) ≡ some s) where
  abbrev g : Meaning ℕ
  g = by_degrees p ds m

  pub term_in : TERM_WORD ≤ w → (w - TERM_WORD < m) × (length st < places) × (s ≡ get_or ds (w - TERM_WORD) 0 ∷ st)
  unfolding turn step
  term_in h = go (ltb (w - TERM_WORD) m) refl
    where
      go : (b : Bool) → ltb (w - TERM_WORD) m ≡ b → (w - TERM_WORD < m) × (length st < places) × (s ≡ get_or ds (w - TERM_WORD) 0 ∷ st)
      go true r =
          let q = added_in g (get_or ds (w - TERM_WORD) 0) st s (simp (le-leb TERM_WORD w h, r) at e) in
          (ltb-true (w - TERM_WORD) m r, q.2, q.1)
      go false r = absurd (none_some s (simp (le-leb TERM_WORD w h, r) at e))

  -- a stack with an operand, and what NOT makes of it
  abbrev One : List ℕ → Type 0
  One st = (0 < length st) × ((a : ℕ) (l : List ℕ) → st ≡ a ∷ l → (length l < places) × (s ≡ not_of a ∷ l))

  pub not_in : w ≡ NOT_WORD → One st
  unfolding turn step unary
  not_in h = go st (rw h at e)
    where
      go : (st : List ℕ) → unary g st ≡ some s → One st
      go [] q = absurd (none_some s q)
      go (b ∷ k) q =
          let r = added_in g (not_of b) k s q in
          (omega arith, λ a l i. let ea : b ≡ a = cc in let el : k ≡ l = cc in (rw el at r.2, rw (ea, el) at r.1))

  -- a stack with two operands, and what an operator makes of them
  abbrev Two : Op → List ℕ → Type 0
  Two o st = (2 ≤ length st) × ((a b : ℕ) (l : List ℕ) → st ≡ b ∷ a ∷ l → (length l < places) × (s ≡ pairs p o a b ∷ l))

  binary_in : (o : Op) (st : List ℕ) → binary g o st ≡ some s → Two o st
  unfolding binary
  binary_in o [] q = absurd (none_some s q)
  binary_in o (x ∷ []) q = absurd (none_some s q)
  binary_in o (y ∷ x ∷ k) q =
      let r = added_in g (pairs p o x y) k s q in
      (omega arith, λ a b l i. let ea : x ≡ a = cc in let eb : y ≡ b = cc in let el : k ≡ l = cc in (rw el at r.2, rw (ea, eb, el) at r.1))

  pub two_in : w < TERM_WORD → (w ≡ NOT_WORD → ⊥) → Two (operator_of w) st
  unfolding turn step
  two_in h h₀ = go (eqb w (op_word and)) (eqb w (op_word or)) refl refl
    where
      go : (b₁ b₂ : Bool) → eqb w (op_word and) ≡ b₁ → eqb w (op_word or) ≡ b₂ → Two (operator_of w) st
      go true b₂ e₁ e₂ = rw e₁ (binary_in and st (simp (lt-leb TERM_WORD w h, ne_eqb w NOT_WORD h₀, e₁) at e))
      go false true e₁ e₂ = rw e₁ (binary_in or st (simp (lt-leb TERM_WORD w h, ne_eqb w NOT_WORD h₀, e₁, e₂) at e))
      go false false e₁ e₂ = absurd (none_some s (simp (lt-leb TERM_WORD w h, ne_eqb w NOT_WORD h₀, e₁, e₂) at e))

-- the height of a stack by what it holds
pub height_is : (l : List ℕ) (h : ℕ) (st : List ℕ) → stack_of 0 l h ≡ st → h ≡ length st
height_is l h st e = sym (length_stack 0 l h) ∙ ap length e
