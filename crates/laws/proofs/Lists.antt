-- Lists: values of a function from a place on, tests over them, lists joined, sums.
use mathlib.Core.Path.{◌≡◌, refl, sym, ap, ◌∙◌}
use mathlib.Core.List.{List, [], ◌∷◌, ◌++◌, map, append_assoc, append-nil}
use mathlib.Core.Bool.{Bool, true, false, ◌&&◌}
use Prim.Native.Nat.{ℕ, zero, suc, ◌+◌, ◌*◌, ◌<◌}
use native.Mathlib.Nat.{suc-mul, zero-mul}
use native.Mathlib.Omega.{arith}
use lib.ListN.{length, take, set, length-append}
use lib.Seq.{sets}
use Rattle.model.specs.Basic.{update_last, all, run, total, gather, tab}
use Rattle.model.specs.Block.{Term}
use Rattle.model.specs.Declarations.{last_points}
use Rattle.laws.proofs.Tests.{both, and_i, and_assoc}

pub map_tab : {A B : Type 0} (f : A → B) (g : ℕ → A) (n p : ℕ) → map f (tab g n p) ≡ tab (λ i. f (g i)) n p
unfolding tab
map_tab f g zero p = refl
map_tab {B = B} f g (suc n) p = ap (λ (l : List B). f (g p) ∷ l) (map_tab f g n (suc p))

pub gather_append : {A B : Type 0} (f : A → List B) (xs ys : List A) → gather f (xs ++ ys) ≡ gather f xs ++ gather f ys
unfolding gather
gather_append f [] ys = refl
gather_append {B = B} f (x ∷ xs) ys = ap (λ (l : List B). f x ++ l) (gather_append f xs ys) ∙ sym (append_assoc (f x) (gather f xs) (gather f ys))

-- one more at the end
pub gather_last : {A B : Type 0} (f : A → List B) (xs : List A) (x : A) → gather f (xs ++ (x ∷ [])) ≡ gather f xs ++ f x
unfolding gather
gather_last {B = B} f xs x = gather_append f xs (x ∷ []) ∙ ap (λ (l : List B). gather f xs ++ l) (append-nil (f x))

pub total_last : {A : Type 0} (f : A → ℕ) (xs : List A) (x : A) → total f (xs ++ (x ∷ [])) ≡ total f xs + f x
unfolding total
total_last f [] x = omega arith
total_last f (y ∷ xs) x = let e = total_last f xs x in omega arith

pub length_gather : {A B : Type 0} (h : A → List B) (count : A → ℕ) → ((x : A) → length (h x) ≡ count x)
    → (xs : List A) → length (gather h xs) ≡ total count xs
unfolding gather total
length_gather h count e [] = refl
length_gather h count e (x ∷ xs) = omega (arith, length-append (h x) (gather h xs), e x, length_gather h count e xs)

-- rows of n each
pub length_rows : {A B : Type 0} (h : A → List B) (n : ℕ) → ((x : A) → length (h x) ≡ n) → (xs : List A) → length (gather h xs) ≡ length xs * n
unfolding gather
length_rows h n e [] = sym (zero-mul n)
length_rows h n e (x ∷ xs) = omega (arith, length-append (h x) (gather h xs), e x, length_rows h n e xs, suc-mul (length xs) n)

pub tab_append : {A : Type 0} (g : ℕ → A) (m n p : ℕ) → tab g (m + n) p ≡ tab g m p ++ tab g n (p + m)
unfolding tab
tab_append g zero n p =
    let e : 0 + n ≡ n = omega arith in
    let f : p + 0 ≡ p = omega arith in
    rw (e, f)
tab_append {A} g (suc m) n p =
    let e : suc m + n ≡ suc (m + n) = omega arith in
    let f : p + suc m ≡ suc p + m = omega arith in
    rw (e, f) (ap (λ (l : List A). g p ∷ l) (tab_append g m n (suc p)))

pub all_append : {A : Type 0} (g : A → Bool) (xs ys : List A) → all g (xs ++ ys) ≡ all g xs && all g ys
unfolding all
all_append g [] ys = refl
all_append g (x ∷ xs) ys = ap (λ (b : Bool). g x && b) (all_append g xs ys) ∙ sym (and_assoc (g x) (all g xs) (all g ys))

-- one element of a walk
pub all_at : {A : Type 0} (g : A → Bool) (f : ℕ → A) (n s i : ℕ) → i < n → all g (tab f n s) ≡ true → g (f (s + i)) ≡ true
unfolding all tab
all_at g f zero s i h a = absurd (omega arith)
all_at g f (suc n) s zero h a = ap (λ (k : ℕ). g (f k)) (omega arith) ∙ (both (g (f s)) (all g (tab f n (suc s))) a).0
all_at g f (suc n) s (suc i) h a = ap (λ (k : ℕ). g (f k)) (omega arith) ∙ all_at g f n (suc s) i (omega arith) (both (g (f s)) (all g (tab f n (suc s))) a).1

pub sets_append : {A : Type 0} (l : List A) (p : ℕ) (xs ys : List A) → sets l p (xs ++ ys) ≡ sets (sets l p xs) (p + length xs) ys
sets_append l p [] ys =
    let e : p ≡ p + 0 = omega arith in
    ap (λ (k : ℕ). sets l k ys) e
sets_append l p (x ∷ xs) ys =
    let e : suc p + length xs ≡ p + suc (length xs) = omega arith in
    sets_append (set l p x) (suc p) xs ys ∙ ap (λ (k : ℕ). sets (sets (set l p x) (suc p) xs) k ys) e

pub update_last_snoc : {A : Type 0} (h : A → A) (xs : List A) (x : A) → update_last h (xs ++ (x ∷ [])) ≡ xs ++ (h x ∷ [])
unfolding update_last
update_last_snoc h [] x = refl
update_last_snoc h (y ∷ []) x = refl
update_last_snoc {A} h (y ∷ z ∷ xs) x = ap (λ (l : List A). y ∷ l) (update_last_snoc h (z ∷ xs) x)

pub last_points_lem : (ts : List Term) (t : Term) → last_points (ts ++ (t ∷ [])) ≡ t.points
last_points_lem [] t = refl
last_points_lem (u ∷ []) t = refl
last_points_lem (u ∷ v ∷ ts) t = last_points_lem (v ∷ ts) t

pub total_append : {A : Type 0} (f : A → ℕ) (xs ys : List A) → total f (xs ++ ys) ≡ total f xs + total f ys
unfolding total
total_append f [] ys = omega arith
total_append f (x ∷ xs) ys = let e = total_append f xs ys in omega arith

-- the bytes that a test takes from the start on pass it
pub run_all : (f : ℕ → Bool) (s : List ℕ) → all f (take (run f s) s) ≡ true
unfolding run all
run_all f [] = refl
run_all f (c ∷ s) = go (f c) refl (run_all f s)
  where
    go : (b : Bool) → f c ≡ b → all f (take (run f s) s) ≡ true → all f (take (run f (c ∷ s)) (c ∷ s)) ≡ true
    go true e h = rw (e, run) (and_i (f c) _ e h)
    go false e h = rw (e, run) refl
