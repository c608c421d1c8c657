-- A list that stands in a function from a place on; n values of a function from a place on; tests that walk over them.
use mathlib.Core.Path.{◌≡◌, refl, sym, ap, ◌∙◌, subst}
use mathlib.Core.List.{List, [], ◌∷◌, ◌++◌, map, map-append}
use mathlib.Core.Bool.{Bool, true, false, not}
use Prim.Native.Nat.{ℕ, zero, suc, ◌+◌, ◌-◌, ◌≤◌, ◌<◌}
use native.Mathlib.Omega.{arith}
use native.Mathlib.Numerals.{add-one}
use lib.Dec.{eqb}
use lib.ListN.{length, get_or, take, set, replicate, get_or-map}
use lib.Seq.{take-suc-set, get_or-take, set_at, append_snoc}
use borrow.Author.Tests.{eq-eqb, eqb-true}
use Rattle.model.specs.Basic.{all, distinct, same, tab}
use Rattle.laws.proofs.Tests.{both, and_i}

-- the list xs stands in f from o on
abbrev pub At : {A : Type 0} → (ℕ → A) → ℕ → List A → Type 0
At f o [] = Unit {0}
At f o (x ∷ xs) = (f o ≡ x) × At f (suc o) xs

module _ {A : Type 0} (f : ℕ → A) where
  pub at_shift : (o o' : ℕ) (xs : List A) → o ≡ o' → At f o xs → At f o' xs
  at_shift o o' xs e h = subst (λ (k : ℕ). At f k xs) e h

  pub at_cut : (o : ℕ) (xs ys : List A) → At f o (xs ++ ys) → At f o xs × At f (o + length xs) ys
  at_cut o [] ys h = (tt, at_shift o (o + 0) ys (omega arith) h)
  at_cut o (x ∷ xs) ys h =
      let r = at_cut (suc o) xs ys h.1 in
      ((h.0, r.0), at_shift (suc o + length xs) (o + suc (length xs)) ys (omega arith) r.1)

  pub at_join : (o : ℕ) (xs ys : List A) → At f o xs → At f (o + length xs) ys → At f o (xs ++ ys)
  at_join o [] ys g h = at_shift (o + 0) o ys (omega arith) h
  at_join o (x ∷ xs) ys g h =
      (g.0, at_join (suc o) xs ys g.1 (at_shift (o + suc (length xs)) (suc o + length xs) ys (omega arith) h))

  pub length_tab : (n i : ℕ) → length (tab f n i) ≡ n
  unfolding tab
  length_tab zero i = refl
  length_tab (suc n) i = ap suc (length_tab n (suc i))

  pub at_tab : (n i : ℕ) → At f i (tab f n i)
  unfolding tab
  at_tab zero i = tt
  at_tab (suc n) i = (refl, at_tab n (suc i))

  pub tab_at : (i : ℕ) (xs : List A) → At f i xs → tab f (length xs) i ≡ xs
  unfolding tab
  tab_at i [] h = refl
  tab_at i (x ∷ xs) h = λ j. h.0 j ∷ tab_at (suc i) xs h.1 j

-- one element of a list that stands in f
pub at_nth : {A : Type 0} (f : ℕ → A) (o : ℕ) (xs : List A) (k : ℕ) (d : A) → k < length xs → At f o xs → f (o + k) ≡ get_or xs k d
at_nth f o [] k d h a = absurd (omega arith)
at_nth f o (x ∷ xs) zero d h a = ap f (omega arith) ∙ a.0
at_nth f o (x ∷ xs) (suc k) d h a = ap f (omega arith) ∙ at_nth f (suc o) xs k d (omega arith) a.1

-- two lists that `same` finds equal are equal
pub same_eq : (xs ys : List ℕ) → same xs ys ≡ true → xs ≡ ys
same_eq [] [] h = refl
same_eq [] (y ∷ ys) h = let z : ◌≡◌ {A = ℕ} 0 1 = cc in absurd (omega arith)
same_eq (x ∷ xs) [] h = let z : ◌≡◌ {A = ℕ} 0 1 = cc in absurd (omega arith)
same_eq (x ∷ xs) (y ∷ ys) h =
    let b = both (eqb x y) (same xs ys) h in
    λ j. eqb-true x y b.0 j ∷ same_eq xs ys b.1 j

pub same_refl : (xs : List ℕ) → same xs xs ≡ true
same_refl [] = refl
same_refl (x ∷ xs) = and_i (eqb x x) (same xs xs) (eq-eqb x x refl) (same_refl xs)

-- a field of the row at p, read where the code has it
pub field : {A : Type 0} (f : ℕ → A) (o p k : ℕ) (v : A) → v ≡ f (o + k) → o ≡ p → v ≡ f (p + k)
field f o p k v ev eo = ev ∙ ap (λ (x : ℕ). f (x + k)) eo

-- WALKS: what is left from i up to e, one element a turn
pub step : (e i : ℕ) → i < e → e - i ≡ suc (e - (i + 1))
step e i h = omega arith

pub gone : (e i : ℕ) → e ≤ i → e - i ≡ 0
gone e i h = omega arith

module _ {A : Type 0} (g : A → Bool) (f : ℕ → A) (e i : ℕ) where
  pub all_more : i < e → g (f i) ≡ true → all g (tab f (e - i) i) ≡ all g (tab f (e - (i + 1)) (i + 1))
  unfolding all tab
  all_more h q = rw (step e i h) (simp (q, add-one))

  pub all_stop : i < e → g (f i) ≡ false → all g (tab f (e - i) i) ≡ false
  unfolding all tab
  all_stop h q = rw (step e i h) (simp q)

  pub all_end : e ≤ i → all g (tab f (e - i) i) ≡ true
  unfolding all tab
  all_end h = rw (gone e i h)

module _ {A : Type 0} (eq : A → A → Bool) (f : ℕ → A) (e i : ℕ) where
  pub distinct_more : i < e → all (λ y. not (eq (f i) y)) (tab f (e - (i + 1)) (i + 1)) ≡ true
      → distinct eq (tab f (e - i) i) ≡ distinct eq (tab f (e - (i + 1)) (i + 1))
  unfolding distinct tab
  distinct_more h q = rw (step e i h) (simp (rw add-one at q, add-one))

  pub distinct_stop : i < e → all (λ y. not (eq (f i) y)) (tab f (e - (i + 1)) (i + 1)) ≡ false → distinct eq (tab f (e - i) i) ≡ false
  unfolding distinct tab
  distinct_stop h q = rw (step e i h) (simp (rw add-one at q, add-one))

  pub distinct_end : e ≤ i → distinct eq (tab f (e - i) i) ≡ true
  unfolding distinct tab
  distinct_end h = rw (gone e i h)

pub all_start : {A : Type 0} (g : A → Bool) (f : ℕ → A) (s k : ℕ) → all g (tab f (s + k - s) s) ≡ all g (tab f k s)
all_start g f s k = let q : s + k - s ≡ k = omega arith in rw q

-- ARRAYS FILLED FROM THE FRONT: one element more
pub tab_last : {A : Type 0} (f : ℕ → A) (n p : ℕ) → tab f (suc n) p ≡ tab f n p ++ (f (p + n) ∷ [])
unfolding tab
tab_last {A} f zero p = ap {B = List A} (λ (k : ℕ). f k ∷ []) (omega arith)
tab_last {A} f (suc n) p =
    let e : suc p + n ≡ p + suc n = omega arith in
    ap (λ (l : List A). f p ∷ l) (tab_last f n (suc p) ∙ ap (λ (k : ℕ). tab f n (suc p) ++ (f k ∷ [])) e)

pub fill : {A B : Type 0} (π : A → B) (f : ℕ → B) (p i : ℕ) (xs : List A) (y : A) → i < length xs → map π (take i xs) ≡ tab f i p → π y ≡ f (p + i)
    → map π (take (i + 1) (set xs i y)) ≡ tab f (i + 1) p
fill {A} {B} π f p i xs y h e q =
    let one : i + 1 ≡ suc i = omega arith in
    ap (λ (k : ℕ). map π (take k (set xs i y))) one
    ∙ ap (map π) (take-suc-set xs i y h)
    ∙ map-append π (take i xs) (y ∷ [])
    ∙ (λ j. e j ++ (q j ∷ []))
    ∙ sym (tab_last f i p)
    ∙ ap (λ (k : ℕ). tab f k p) (sym one)

-- an array of which the first i are values of f and the rest are d: one more
pub fill_front : {A : Type 0} (f : ℕ → A) (d y : A) (n i : ℕ) → i < n → y ≡ f i
    → set (tab f i 0 ++ replicate (n - i) d) i y ≡ tab f (i + 1) 0 ++ replicate (n - (i + 1)) d
fill_front {A} f d y n i h e =
    let m : n - i ≡ suc (n - (i + 1)) = omega arith in
    let rest = replicate (n - (i + 1)) d in
    ap (λ (k : ℕ). set (tab f i 0 ++ replicate k d) i y) m
    ∙ set_at (tab f i 0) d rest y i (length_tab f i 0)
    ∙ ap (λ (x : A). tab f i 0 ++ x ∷ rest) (e ∙ ap f (omega arith))
    ∙ sym (append_snoc (tab f i 0) (f (0 + i)) rest)
    ∙ ap (λ (l : List A). l ++ rest) (sym (tab_last f i 0) ∙ ap (λ (k : ℕ). tab f k 0) (omega arith))

-- ELEMENTS
pub tab_nth : {A : Type 0} (f : ℕ → A) (n p k : ℕ) (d : A) → k < n → get_or (tab f n p) k d ≡ f (p + k)
unfolding tab
tab_nth f zero p k d h = absurd (omega arith)
tab_nth f (suc n) p zero d h = ap f (omega arith)
tab_nth f (suc n) p (suc k) d h = tab_nth f n (suc p) k d (omega arith) ∙ ap f (omega arith)

pub tab_ext : {A : Type 0} (f g : ℕ → A) (n p q : ℕ) → ((k : ℕ) → k < n → f (p + k) ≡ g (q + k)) → tab f n p ≡ tab g n q
unfolding tab
tab_ext f g zero p q e = refl
tab_ext f g (suc n) p q e =
    let a : p + 0 ≡ p = omega arith in
    let b : q + 0 ≡ q = omega arith in
    let z = e 0 (omega arith) in
    let r = tab_ext f g n (suc p) (suc q) (λ k h. ap f (omega arith) ∙ e (suc k) (omega arith) ∙ ap g (omega arith)) in
    λ j. (ap f (sym a) ∙ z ∙ ap g b) j ∷ r j

-- places counted from o on
pub tab_from : {A : Type 0} (f : ℕ → A) (o n i : ℕ) → tab (λ k. f (o + k)) n i ≡ tab f n (o + i)
tab_from f o n i = tab_ext (λ k. f (o + k)) f n i (o + i) (λ k h. ap f (omega arith))

pub take_tab : {A : Type 0} (f : ℕ → A) (n i p : ℕ) → i ≤ n → take i (tab f n p) ≡ tab f i p
unfolding tab
take_tab f n zero p h = refl
take_tab f zero (suc i) p h = absurd (omega arith)
take_tab {A} f (suc n) (suc i) p h = ap (λ (l : List A). f p ∷ l) (take_tab f n i (suc p) (omega arith))

-- an element of an array whose first n are values of f
pub element : {A B : Type 0} (π : A → B) (xs : List A) (f : ℕ → B) (n p k : ℕ) (d : A) → map π (take n xs) ≡ tab f n p → k < n → π (get_or xs k d) ≡ f (p + k)
element {B = B} π xs f n p k d e h =
    ap π (sym (get_or-take n xs k d h)) ∙ sym (get_or-map π (take n xs) k d) ∙ ap (λ (l : List B). get_or l k (π d)) e ∙ tab_nth f n p k (π d) h
