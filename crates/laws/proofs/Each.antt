-- A fact of each element of a list.
use mathlib.Core.Path.{◌≡◌}
use mathlib.Core.Bool.{Bool, true}
use mathlib.Core.List.{List, [], ◌∷◌, ◌++◌, map}
use Prim.Native.Nat.{ℕ, zero, suc}
use lib.ListN.{get_or}
use Rattle.model.specs.Basic.{all, gather}
pub use Rattle.model.specs.Basic.{Each}
use Rattle.laws.proofs.Tests.{both}

module _ {A : Type 0} where
  pub each_passes : (f : A → Bool) (xs : List A) → all f xs ≡ true → Each (λ x. f x ≡ true) xs
  unfolding all
  each_passes f [] h = tt
  each_passes f (x ∷ xs) h = let b = both (f x) (all f xs) h in (b.0, each_passes f xs b.1)

  pub each_always : {P : A → Type 0} → ((x : A) → P x) → (xs : List A) → Each P xs
  each_always f [] = tt
  each_always f (x ∷ xs) = (f x, each_always f xs)

  pub each_so : {P Q : A → Type 0} → ((x : A) → P x → Q x) → (xs : List A) → Each P xs → Each Q xs
  each_so f [] h = tt
  each_so f (x ∷ xs) h = (f x h.0, each_so f xs h.1)

  pub each_append : (P : A → Type 0) (xs ys : List A) → Each P xs → Each P ys → Each P (xs ++ ys)
  each_append P [] ys h g = g
  each_append P (x ∷ xs) ys h g = (h.0, each_append P xs ys h.1 g)

  pub each_map : {B : Type 0} (P : B → Type 0) (f : A → B) (xs : List A) → Each (λ x. P (f x)) xs → Each P (map f xs)
  each_map P f [] h = tt
  each_map P f (x ∷ xs) h = (h.0, each_map P f xs h.1)

pub each_gather : {A B : Type 0} (P : B → Type 0) (f : A → List B) (xs : List A) → Each (λ x. Each P (f x)) xs → Each P (gather f xs)
unfolding gather
each_gather P f [] h = tt
each_gather P f (x ∷ xs) h = each_append P (f x) (gather f xs) h.0 (each_gather P f xs h.1)

-- an element by its place; past the end stands z
pub each_at : {A : Type 0} (P : A → Type 0) (z : A) → P z → (xs : List A) → Each P xs → (k : ℕ) → P (get_or xs k z)
each_at P z p [] h k = p
each_at P z p (x ∷ xs) h zero = h.0
each_at P z p (x ∷ xs) h (suc k) = each_at P z p xs h.1 k
