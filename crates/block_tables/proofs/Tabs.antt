-- Lists of values by place: one more, one changed.
use mathlib.Core.Path.{◌≡◌, refl, sym, ap, ◌∙◌, subst}
use mathlib.Core.Bool.{Bool, true, false}
use mathlib.Core.List.{List, [], ◌∷◌, ◌++◌, map}
use Prim.Native.Nat.{ℕ, zero, suc, ◌+◌, ◌≤◌, ◌<◌}
use native.Mathlib.Omega.{arith}
use borrow.Author.Tests.{eqb-true, eqb-false}
use lib.Dec.{eqb}
use lib.ListN.{length, take, drop, get_or, set}
use lib.Seq.{get_or-set_same, get_or-set_other}
use Rattle.model.specs.Basic.{update, tab}
use Rattle.laws.proofs.Places.{tab_last, tab_ext}
use Rattle.laws.proofs.Arrays.{each_set}

pub tab_same : {A : Type 0} (f g : ℕ → A) (n : ℕ) → ((k : ℕ) → k < n → g k ≡ f k) → tab g n 0 ≡ tab f n 0
tab_same f g n e = tab_ext g f n 0 0 (λ k h. ap g (omega arith) ∙ e k h ∙ ap f (omega arith))

-- f is g but at the last place
pub tab_more : {A : Type 0} (f g : ℕ → A) (n : ℕ) (x : A) → ((k : ℕ) → k < n → g k ≡ f k) → g n ≡ x → tab g (n + 1) 0 ≡ tab f n 0 ++ (x ∷ [])
tab_more {A} f g n x e q =
    ap (λ (m : ℕ). tab g m 0) (omega arith)
    ∙ tab_last g n 0
    ∙ (let z : 0 + n ≡ n = omega arith in λ j. tab_same f g n e j ++ ((ap g z ∙ q) j ∷ []))

pub tab_update : {A : Type 0} (h : A → A) (f g : ℕ → A) (n p i : ℕ) → g (p + i) ≡ h (f (p + i))
    → ((k : ℕ) → k < n → (k ≡ i → ⊥) → g (p + k) ≡ f (p + k)) → i < n → tab g n p ≡ update h i (tab f n p)
unfolding tab update
tab_update h f g zero p i e o l = absurd (omega arith)
tab_update {A} h f g (suc n) p zero e o l =
    let z : p + 0 ≡ p = omega arith in
    let r = tab_ext g f n (suc p) (suc p) (λ k m. ap g (omega arith) ∙ o (suc k) (omega arith) (λ q. omega arith) ∙ ap f (omega arith)) in
    λ j. (ap g (sym z) ∙ e ∙ ap (λ (k : ℕ). h (f k)) z) j ∷ r j
tab_update {A} h f g (suc n) p (suc i) e o l =
    let z : p + 0 ≡ p = omega arith in
    let c : p + suc i ≡ suc p + i = omega arith in
    let r = tab_update h f g n (suc p) i (ap g (sym c) ∙ e ∙ ap (λ (k : ℕ). h (f k)) c)
    (λ k m q. ap g (omega arith) ∙ o (suc k) (omega arith) (λ w. q (omega arith)) ∙ ap f (omega arith)) (omega arith) in
    λ j. (ap g (sym z) ∙ o 0 (omega arith) (λ q. omega arith) ∙ ap f z) j ∷ r j

-- those from n on changed
pub tab_from : {A : Type 0} (h : A → A) (f g : ℕ → A) (m n p : ℕ) → ((k : ℕ) → k < m → k < n → g (p + k) ≡ f (p + k))
    → ((k : ℕ) → k < m → n ≤ k → g (p + k) ≡ h (f (p + k)))
    → tab g m p ≡ take n (tab f m p) ++ map h (drop n (tab f m p))
unfolding tab
tab_from h f g zero zero p a b = refl
tab_from h f g zero (suc n) p a b = refl
tab_from {A} h f g (suc m) zero p a b =
    let z : p + 0 ≡ p = omega arith in
    let r = tab_from h f g m zero (suc p) (λ k x y. absurd (omega arith))
    (λ k x y. ap g (omega arith) ∙ b (suc k) (omega arith) (omega arith) ∙ ap (λ (i : ℕ). h (f i)) (omega arith)) in
    λ j. (ap g (sym z) ∙ b 0 (omega arith) (omega arith) ∙ ap (λ (i : ℕ). h (f i)) z) j ∷ r j
tab_from {A} h f g (suc m) (suc n) p a b =
    let z : p + 0 ≡ p = omega arith in
    let r = tab_from h f g m n (suc p) (λ k x y. ap g (omega arith) ∙ a (suc k) (omega arith) (omega arith) ∙ ap f (omega arith))
    (λ k x y. ap g (omega arith) ∙ b (suc k) (omega arith) (omega arith) ∙ ap (λ (i : ℕ). h (f i)) (omega arith)) in
    λ j. (ap g (sym z) ∙ a 0 (omega arith) (omega arith) ∙ ap f z) j ∷ r j

-- every element of an array is bounded
pub kept : {A : Type 0} (f : A → ℕ) (m : ℕ) (l : List A) (i : ℕ) (x d : A) → f x ≤ m → ((k : ℕ) → f (get_or l k d) ≤ m) → (k : ℕ) → f (get_or (set l i x) k d) ≤ m
kept f m l i x d p q = each_set (λ y. f y ≤ m) d l i x q p

-- a field that the new element has like the old one
pub field_stays : {A B : Type 0} (f : A → B) (l : List A) (i : ℕ) (x d : A) → i < length l → f x ≡ f (get_or l i d) → (k : ℕ)
    → f (get_or (set l i x) k d) ≡ f (get_or l k d)
field_stays {A} {B} f l i x d h q k = by (eqb k i) refl
  where
    by : (t : Bool) → eqb k i ≡ t → f (get_or (set l i x) k d) ≡ f (get_or l k d)
    by true p =
        let e = eqb-true k i p in
        ap (λ (j : ℕ). f (get_or (set l i x) j d)) e ∙ ap f (get_or-set_same l i x d h) ∙ q ∙ ap (λ (j : ℕ). f (get_or l j d)) (sym e)
    by false p = ap f (get_or-set_other l i k x d (eqb-false k i p))

-- what holds of an array's first n, with one of them changed
pub each_within : {A : Type 0} (P : A → Type 0) (l : List A) (i n : ℕ) (x d : A) → i < length l → P x → ((k : ℕ) → k < n → P (get_or l k d)) → (k : ℕ)
    → k < n → P (get_or (set l i x) k d)
each_within P l i n x d h p q k b = by (eqb k i) refl
  where
    by : (t : Bool) → eqb k i ≡ t → P (get_or (set l i x) k d)
    by true e = subst (λ (j : ℕ). P (get_or (set l i x) j d)) (sym (eqb-true k i e)) (subst P (sym (get_or-set_same l i x d h)) p)
    by false e = subst P (sym (get_or-set_other l i k x d (eqb-false k i e))) (q k b)
