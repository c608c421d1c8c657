-- The code's places against the machine on forms and depths.
use mathlib.Core.Path.{◌≡◌, refl, sym, ap, ◌∙◌}
use mathlib.Core.List.{List}
use mathlib.Core.Bool.{false}
use mathlib.Core.Option.{none, some}
use Prim.Native.Nat.{ℕ, zero, suc, ◌≤◌, ◌<◌}
use native.Mathlib.Omega.{arith}
use borrow.Author.Tests.{ne_eqb}
use lib.Dec.{eqb}
use Rattle.model.specs.Basic.{tab}
use Rattle.model.specs.Block.{Op}
use Rattle.condition_words.specs.Machine.{binary, stack_of}
use Rattle.condition_stack.specs.declared.Shape.{Shape}
use Rattle.condition_stack.specs.Shapes.{shapes, held}
use Rattle.condition_stack.specs.Stored.{condition_stored}
use Rattle.condition_words.proofs.Passes.{Left, left_end, left_none}
use Rattle.condition_stack.proofs.Accepted.{is_one, accepts, accepts_is}

-- an operator that finds fewer than two subtrees
pub one_operand : (m : ℕ) (o : Op) (l : List Shape) (n : ℕ) → n < 2 → none ≡ binary (shapes m) o (held l n)
unfolding binary stack_of
one_operand m o l zero h = refl
one_operand m o l (suc zero) h = refl
one_operand m o l (suc (suc n)) h = absurd (omega arith)

one_stack : (l : List Shape) (n : ℕ) → is_one (some (held l n)) ≡ eqb n 1
unfolding stack_of
one_stack l zero = refl
one_stack l (suc zero) = refl
one_stack l (suc (suc n)) = sym (ne_eqb (suc (suc n)) 1 (λ e. omega arith))

module _ (w : ℕ → ℕ) (d n m i : ℕ) where
  -- i words are read, and the last is refused
  pub fails : Left (shapes m) w d n i none → false ≡ condition_stored w d n m
  unfolding accepts condition_stored
  fails q = ap is_one (sym (left_none (shapes m) w d n i q)) ∙ accepts_is m (tab w n d)

  pub ends : (l : List Shape) (k : ℕ) → n ≤ i → Left (shapes m) w d n i (some (held l k)) → eqb k 1 ≡ condition_stored w d n m
  unfolding accepts condition_stored
  ends l k h q = sym (one_stack l k) ∙ ap is_one (left_end (shapes m) w d n i (some (held l k)) h q) ∙ accepts_is m (tab w n d)
