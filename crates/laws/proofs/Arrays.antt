-- Arrays: all places alike, one place set, what holds of every place.
use mathlib.Core.Path.{◌≡◌, refl, ap}
use mathlib.Core.List.{List, [], ◌∷◌, map}
use Prim.Native.Nat.{ℕ, zero, suc}
use lib.ListN.{get_or, take, set, replicate}

pub replicate_at : {A : Type 0} (n k : ℕ) (a : A) → get_or (replicate n a) k a ≡ a
replicate_at zero k a = refl
replicate_at (suc n) zero a = refl
replicate_at (suc n) (suc k) a = replicate_at n k a

module _ {A : Type 0} (P : A → Type 0) (a : A) where
  pub each_start : (n : ℕ) → P a → (k : ℕ) → P (get_or (replicate n a) k a)
  each_start n p k = rw (replicate_at n k a) p

  pub each_set : (l : List A) (i : ℕ) (v : A) → ((k : ℕ) → P (get_or l k a)) → P v → (k : ℕ) → P (get_or (set l i v) k a)
  each_set [] i v h p k = h k
  each_set (x ∷ l) zero v h p zero = p
  each_set (x ∷ l) zero v h p (suc k) = h (suc k)
  each_set (x ∷ l) (suc i) v h p zero = h 0
  each_set (x ∷ l) (suc i) v h p (suc k) = each_set l i v (λ j. h (suc j)) p k

module _ {A B : Type 0} (f : A → B) where
  pub map_set : (l : List A) (i : ℕ) (v : A) → map f (set l i v) ≡ set (map f l) i (f v)
  map_set [] i v = refl
  map_set (x ∷ l) zero v = refl
  map_set (x ∷ l) (suc i) v = ap (λ (r : List B). f x ∷ r) (map_set l i v)

  pub map_take : (n : ℕ) (xs : List A) → map f (take n xs) ≡ take n (map f xs)
  map_take zero xs = refl
  map_take (suc n) [] = refl
  map_take (suc n) (x ∷ xs) = ap (λ (r : List B). f x ∷ r) (map_take n xs)

  pub map_replicate : (n : ℕ) (a : A) → map f (replicate n a) ≡ replicate n (f a)
  map_replicate zero a = refl
  map_replicate (suc n) a = ap (λ (l : List B). f a ∷ l) (map_replicate n a)
