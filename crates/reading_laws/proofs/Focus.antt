-- A list with another fact at one place, an element more at its end, and names that are not there yet.
use mathlib.Core.Path.{◌≡◌, refl, ap, ◌∙◌}
use mathlib.Core.Bool.{Bool, true, false, not}
use mathlib.Core.List.{List, [], ◌∷◌, ◌++◌, map, map-append}
use Prim.Native.Nat.{ℕ, zero, suc, ◌+◌}
use native.Mathlib.Omega.{arith}
use borrow.Author.Tests.{ltb-false, le-ltb}
use lib.Dec.{ltb}
use lib.ListN.{length, get_or}
use Rattle.model.specs.Basic.{all, total, distinct, index_of, update, update_last}
use Rattle.model.specs.Tokens.{same_name}
use Rattle.laws.proofs.Tests.{both, and_i}
use Rattle.laws.proofs.Each.{Each}
use Rattle.laws.proofs.Finding.{all_map, all_imp, none_of, named, fresh, differ}

-- P of every element but the i-th, which has R
abbrev pub Except : {A : Type 0} → (A → Type 0) → (A → Type 0) → ℕ → List A → Type 0
Except P R i [] = Unit {0}
Except P R zero (x ∷ xs) = R x × Each P xs
Except P R (suc i) (x ∷ xs) = P x × Except P R i xs

module _ {A : Type 0} where
  pub focus : (P : A → Type 0) (i : ℕ) (xs : List A) → Each P xs → Except P P i xs
  focus P i [] h = tt
  focus P zero (x ∷ xs) h = h
  focus P (suc i) (x ∷ xs) h = (h.0, focus P i xs h.1)

  pub unfocus : (P : A → Type 0) (i : ℕ) (xs : List A) → Except P P i xs → Each P xs
  unfocus P i [] h = tt
  unfocus P zero (x ∷ xs) h = h
  unfocus P (suc i) (x ∷ xs) h = (h.0, unfocus P i xs h.1)

  -- the element changed by f
  pub except_update : (P R S : A → Type 0) (f : A → A) → ((x : A) → R x → S (f x)) → (i : ℕ) (xs : List A) → Except P R i xs → Except P S i (update f i xs)
  unfolding update
  except_update P R S f m i [] h = tt
  except_update P R S f m zero (x ∷ xs) h = (m x h.0, h.1)
  except_update P R S f m (suc i) (x ∷ xs) h = (h.0, except_update P R S f m i xs h.1)

  pub except_so : (P R S : A → Type 0) → ((x : A) → R x → S x) → (i : ℕ) (xs : List A) → Except P R i xs → Except P S i xs
  except_so P R S m i [] h = tt
  except_so P R S m zero (x ∷ xs) h = (m x h.0, h.1)
  except_so P R S m (suc i) (x ∷ xs) h = (h.0, except_so P R S m i xs h.1)

  -- what is known of a part of it
  pub except_at : {B : Type 0} (P R : A → Type 0) (g : A → B) (T : B → Type 0) (z : B) (i : ℕ) (xs : List A) → T (get_or (map g xs) i z)
      → Except P R i xs → Except P (λ x. R x × T (g x)) i xs
  except_at P R g T z i [] t h = tt
  except_at P R g T z zero (x ∷ xs) t h = ((h.0, t), h.1)
  except_at P R g T z (suc i) (x ∷ xs) t h = (h.0, except_at P R g T z i xs t h.1)

  pub map_update : {B : Type 0} (g : A → B) (f : A → A) → ((x : A) → g (f x) ≡ g x) → (i : ℕ) (xs : List A) → map g (update f i xs) ≡ map g xs
  unfolding update
  map_update g f m i [] = refl
  map_update {B} g f m zero (x ∷ xs) = ap (λ (y : B). y ∷ map g xs) (m x)
  map_update {B} g f m (suc i) (x ∷ xs) = ap (λ (l : List B). g x ∷ l) (map_update g f m i xs)

  pub map_update_last : {B : Type 0} (g : A → B) (f : A → A) → ((x : A) → g (f x) ≡ g x) → (xs : List A) → map g (update_last f xs) ≡ map g xs
  unfolding update_last
  map_update_last g f m [] = refl
  map_update_last {B} g f m (x ∷ []) = ap (λ (y : B). y ∷ []) (m x)
  map_update_last {B} g f m (x ∷ z ∷ xs) = ap (λ (l : List B). g x ∷ l) (map_update_last g f m (z ∷ xs))

  pub total_update_last : (g : A → ℕ) (f : A → A) → ((x : A) → g (f x) ≡ g x) → (xs : List A) → total g (update_last f xs) ≡ total g xs
  unfolding total update_last
  total_update_last g f m [] = refl
  total_update_last g f m (x ∷ []) = ap (λ (n : ℕ). n + 0) (m x)
  total_update_last g f m (x ∷ z ∷ xs) = ap (λ (n : ℕ). g x + n) (total_update_last g f m (z ∷ xs))

  pub all_last : (p : A → Bool) (xs : List A) (x : A) → all p xs ≡ true → p x ≡ true → all p (xs ++ (x ∷ [])) ≡ true
  unfolding all
  all_last p [] x h e = and_i (p x) true e refl
  all_last p (y ∷ xs) x h e = let b = both (p y) (all p xs) h in and_i (p y) _ b.0 (all_last p xs x b.1 e)

  pub distinct_last : (eq : A → A → Bool) (xs : List A) (y : A) → distinct eq xs ≡ true → all (λ x. not (eq x y)) xs ≡ true
      → distinct eq (xs ++ (y ∷ [])) ≡ true
  unfolding distinct all
  distinct_last eq [] y h n = refl
  distinct_last eq (x ∷ xs) y h n =
      let b = both (all (λ z. not (eq x z)) xs) (distinct eq xs) h in
      let c = both (not (eq x y)) (all (λ z. not (eq z y)) xs) n in
      and_i _ _ (all_last (λ z. not (eq x z)) xs y b.0 c.0) (distinct_last eq xs y b.1 c.1)

  -- what is not found is not there
  pub absent : (p : A → Bool) (xs : List A) → ltb (index_of p xs) (length xs) ≡ false → none_of p xs ≡ true
  unfolding all
  absent p [] h = refl
  absent p (x ∷ xs) h = go (p x) refl (absent p xs)
    where
      go : (b : Bool) → p x ≡ b → (ltb (index_of p xs) (length xs) ≡ false → none_of p xs ≡ true) → none_of p (x ∷ xs) ≡ true
      go true e ih =
          let l = ltb-false (index_of p (x ∷ xs)) (length (x ∷ xs)) h in
          let z : index_of p (x ∷ xs) ≡ 0 = rw (index_of, e) refl in
          absurd (omega arith)
      go false e ih =
          let l = ltb-false (index_of p (x ∷ xs)) (length (x ∷ xs)) h in
          let z : index_of p (x ∷ xs) ≡ suc (index_of p xs) = rw (index_of, e) refl in
          rw e (ih (le-ltb (index_of p xs) (length xs) (omega arith)))

-- a new name stays apart
pub names_last : (ns : List (List ℕ)) (w : List ℕ) → distinct same_name ns ≡ true → fresh w ns ≡ true → distinct same_name (ns ++ (w ∷ [])) ≡ true
names_last ns w h n = distinct_last same_name ns w h (all_imp (λ m. not (same_name w m)) (λ m. not (same_name m w)) (λ m. differ w m) ns n)

pub not_named : {A : Type 0} (name : A → List ℕ) (w : List ℕ) (xs : List A) → none_of (named name w) xs ≡ true → fresh w (map name xs) ≡ true
not_named name w xs h = all_map (λ n. not (same_name w n)) name xs ∙ h

pub named_last : {A : Type 0} (name : A → List ℕ) (xs : List A) (x : A) → distinct same_name (map name xs) ≡ true
    → none_of (named name (name x)) xs ≡ true → distinct same_name (map name (xs ++ (x ∷ []))) ≡ true
named_last name xs x h n =
    ap (distinct same_name) (map-append name xs (x ∷ [])) ∙ names_last (map name xs) (name x) h (not_named name (name x) xs n)
