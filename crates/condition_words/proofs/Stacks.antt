-- The first n of an array as a stack.
use mathlib.Core.Path.{◌≡◌, refl, ap, ◌∙◌}
use mathlib.Core.List.{List, ◌∷◌}
use Prim.Native.Nat.{ℕ, zero, suc, ◌+◌, ◌-◌, ◌≤◌, ◌<◌}
use native.Mathlib.Omega.{arith}
use native.Mathlib.Numerals.{add-one}
use lib.ListN.{length, get_or, set}
use lib.Seq.{get_or-set_same, get_or-set_other}
use Rattle.condition_words.specs.Machine.{stack_of}

module _ {A : Type 0} (d : A) where
  pub length_stack : (l : List A) (n : ℕ) → length (stack_of d l n) ≡ n
  unfolding stack_of
  length_stack l zero = refl
  length_stack l (suc n) = ap suc (length_stack l n)

  stack_set : (l : List A) (k : ℕ) (v : A) (n : ℕ) → n ≤ k → stack_of d (set l k v) n ≡ stack_of d l n
  unfolding stack_of
  stack_set l k v zero h = refl
  stack_set l k v (suc n) h = rw (get_or-set_other l k n v d (λ e. omega arith), stack_set l k v n (omega arith)) refl

  pub stack_push : (l : List A) (n : ℕ) (v : A) → n < length l → stack_of d (set l n v) (n + 1) ≡ v ∷ stack_of d l n
  unfolding stack_of
  stack_push l n v h = rw (add-one, get_or-set_same l n v d h, stack_set l n v n (omega arith)) refl

  pub stack_one : (l : List A) (n : ℕ) → 0 < n → stack_of d l n ≡ get_or l (n - 1) d ∷ stack_of d l (n - 1)
  unfolding stack_of
  stack_one l zero h = absurd (omega arith)
  stack_one l (suc n) h = let q : suc n - 1 ≡ n = omega arith in rw q refl

  pub stack_two : (l : List A) (n : ℕ) → 2 ≤ n → stack_of d l n ≡ get_or l (n - 1) d ∷ get_or l (n - 2) d ∷ stack_of d l (n - 2)
  stack_two l n h =
      let q : n - 1 - 1 ≡ n - 2 = omega arith in
      stack_one l n (omega arith) ∙ ap (λ (x : List A). get_or l (n - 1) d ∷ x) (stack_one l (n - 1) (omega arith) ∙ rw q refl)
