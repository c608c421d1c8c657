-- A list with one element in focus, and names found where they were declared.
use mathlib.Core.Path.{◌≡◌, refl, sym, ap, ◌∙◌}
use mathlib.Core.Bool.{Bool, true, false, ◌&&◌, not}
use mathlib.Core.List.{List, [], ◌∷◌, ◌++◌, map, map-append, append_assoc}
use Prim.Native.Nat.{ℕ, zero, suc, ◌+◌, ◌<◌, ◌≤◌}
use native.Mathlib.Omega.{arith}
use borrow.Author.Tests.{not-true, le-ltb, lt-ltb}
use lib.Dec.{ltb}
use lib.ListN.{length, length-append, length-map, get_or, take}
use lib.Seq.{get_or_at, take_at}
use Rattle.model.specs.Basic.{is_empty, all, gather, distinct, index_of, update, capitals, same, alike}
use Rattle.model.specs.Tokens.{same_name}
use Rattle.laws.proofs.Tests.{both, and_i, clash}
use Rattle.laws.proofs.Lists.{all_append, gather_append}
use Rattle.laws.proofs.Places.{same_eq, same_refl}

pub update_at : {A : Type 0} (g : A → A) (xs : List A) (y : A) (ys : List A) → update g (length xs) (xs ++ (y ∷ ys)) ≡ xs ++ (g y ∷ ys)
unfolding update
update_at g [] y ys = refl
update_at {A} g (x ∷ xs) y ys = ap (λ (l : List A). x ∷ l) (update_at g xs y ys)

-- the element in focus passes
all_mid : {A : Type 0} (p : A → Bool) (xs : List A) (y : A) (ys : List A) → all p (xs ++ (y ∷ ys)) ≡ true → p y ≡ true
unfolding all
all_mid p [] y ys h = (both (p y) (all p ys) h).0
all_mid p (x ∷ xs) y ys h = all_mid p xs y ys (both (p x) (all p (xs ++ (y ∷ ys))) h).1

pub all_split : {A : Type 0} (p : A → Bool) {xs : List A} (ds : List A) (y : A) (es : List A) → xs ≡ ds ++ (y ∷ es) → all p xs ≡ true → p y ≡ true
all_split p ds y es e h = all_mid p ds y es (sym (ap (all p) e) ∙ h)

pub all_map : {A B : Type 0} (p : B → Bool) (g : A → B) (xs : List A) → all p (map g xs) ≡ all (λ x. p (g x)) xs
unfolding all
all_map p g [] = refl
all_map p g (x ∷ xs) = ap (λ (t : Bool). p (g x) && t) (all_map p g xs)

pub all_imp : {A : Type 0} (p q : A → Bool) → ((x : A) → p x ≡ true → q x ≡ true) → (xs : List A) → all p xs ≡ true → all q xs ≡ true
unfolding all
all_imp p q f [] h = refl
all_imp p q f (x ∷ xs) h =
    let b = both (p x) (all p xs) h in
    and_i (q x) (all q xs) (f x b.0) (all_imp p q f xs b.1)

-- WHERE THE FIRST THAT PASSES STANDS
-- none of them passes
abbrev pub none_of : {A : Type 0} → (A → Bool) → List A → Bool
none_of p xs = all (λ x. not (p x)) xs

module _ {A : Type 0} (p : A → Bool) where
  pub index_at : (xs : List A) (y : A) (ys : List A) → none_of p xs ≡ true → p y ≡ true → index_of p (xs ++ (y ∷ ys)) ≡ length xs
  unfolding all
  index_at [] y ys h e = rw (index_of, e)
  index_at (x ∷ xs) y ys h e =
      let b = both (not (p x)) (none_of p xs) h in
      rw (index_of, not-true (p x) b.0) (ap suc (index_at xs y ys b.1 e))

  index_none : (xs : List A) → none_of p xs ≡ true → index_of p xs ≡ length xs
  unfolding all
  index_none [] h = refl
  index_none (x ∷ xs) h =
      let b = both (not (p x)) (none_of p xs) h in
      rw (index_of, not-true (p x) b.0) (ap suc (index_none xs b.1))

  pub not_found : (xs : List A) → none_of p xs ≡ true → ltb (index_of p xs) (length xs) ≡ false
  not_found xs h = le-ltb (index_of p xs) (length xs) (omega (arith, index_none xs h))

  pub found : (xs : List A) (y : A) (ys : List A) → none_of p xs ≡ true → p y ≡ true
      → ltb (index_of p (xs ++ (y ∷ ys))) (length (xs ++ (y ∷ ys))) ≡ true
  found xs y ys h e =
      lt-ltb (index_of p (xs ++ (y ∷ ys))) (length (xs ++ (y ∷ ys))) (omega (arith, index_at xs y ys h e, length-append xs (y ∷ ys)))

-- NAMES
pub name_self : (w : List ℕ) → same_name w w ≡ true
unfolding same_name
name_self w = same_refl (capitals w)

-- of two names neither is the other
pub differ : (v w : List ℕ) → not (same_name v w) ≡ true → not (same_name w v) ≡ true
unfolding same_name
differ v w h = go (alike w v) refl
  where
    go : (b : Bool) → alike w v ≡ b → not (alike w v) ≡ true
    go false e = ap not e
    go true e = clash (sym (not-true (alike v w) h) ∙ ap (same (capitals v)) (same_eq (capitals w) (capitals v) e) ∙ same_refl (capitals v))

-- w is none of the names ns
abbrev pub fresh : List ℕ → List (List ℕ) → Bool
fresh w ns = none_of (same_name w) ns

-- by names
abbrev pub named : {A : Type 0} → (A → List ℕ) → List ℕ → A → Bool
named name w x = same_name w (name x)

pub fresh_map : {A : Type 0} (name : A → List ℕ) (w : List ℕ) (xs : List A) → fresh w (map name xs) ≡ true → none_of (named name w) xs ≡ true
fresh_map name w xs h = sym (all_map (λ n. not (same_name w n)) name xs) ∙ h

-- an element of a list without repetition is none of those before it
pub distinct_earlier : {A : Type 0} (eq : A → A → Bool) (xs : List A) (y : A) (ys : List A)
    → distinct eq (xs ++ (y ∷ ys)) ≡ true → all (λ x. not (eq x y)) xs ≡ true
unfolding all distinct
distinct_earlier eq [] y ys h = refl
distinct_earlier eq (x ∷ xs) y ys h =
    let b = both (all (λ z. not (eq x z)) (xs ++ (y ∷ ys))) (distinct eq (xs ++ (y ∷ ys))) h in
    and_i (not (eq x y)) (all (λ z. not (eq z y)) xs) (all_mid (λ z. not (eq x z)) xs y ys b.0) (distinct_earlier eq xs y ys b.1)

pub distinct_fresh : (ns : List (List ℕ)) (w : List ℕ) (ms : List (List ℕ)) → distinct same_name (ns ++ (w ∷ ms)) ≡ true → fresh w ns ≡ true
distinct_fresh ns w ms h =
    all_imp (λ n. not (same_name n w)) (λ n. not (same_name w n)) (λ n. differ n w) ns (distinct_earlier same_name ns w ms h)

pub distinct_split : {A : Type 0} (name : A → List ℕ) {xs : List A} (ds : List A) (y : A) (es : List A) → xs ≡ ds ++ (y ∷ es)
    → distinct same_name (map name xs) ≡ true → none_of (named name (name y)) ds ≡ true
distinct_split name ds y es e h =
    fresh_map name (name y) ds
    (distinct_fresh (map name ds) (name y) (map name es) (sym (ap (distinct same_name) (ap (map name) e ∙ map-append name ds (y ∷ es))) ∙ h))

all_front : {A : Type 0} (p : A → Bool) (xs ys : List A) → all p (xs ++ ys) ≡ true → all p xs ≡ true
all_front p xs ys h = (both (all p xs) (all p ys) (sym (all_append p xs ys) ∙ h)).0

pub distinct_front : {A : Type 0} (eq : A → A → Bool) (xs ys : List A) → distinct eq (xs ++ ys) ≡ true → distinct eq xs ≡ true
unfolding distinct
distinct_front eq [] ys h = refl
distinct_front eq (x ∷ xs) ys h =
    let b = both (all (λ y. not (eq x y)) (xs ++ ys)) (distinct eq (xs ++ ys)) h in
    and_i (all (λ y. not (eq x y)) xs) (distinct eq xs) (all_front (λ y. not (eq x y)) xs ys b.0) (distinct_front eq xs ys b.1)

pub distinct_back : {A : Type 0} (eq : A → A → Bool) (xs ys : List A) → distinct eq (xs ++ ys) ≡ true → distinct eq ys ≡ true
unfolding distinct
distinct_back eq [] ys h = h
distinct_back eq (x ∷ xs) ys h = distinct_back eq xs ys (both (all (λ y. not (eq x y)) (xs ++ ys)) (distinct eq (xs ++ ys)) h).1

pub filled : {A : Type 0} (xs : List A) → 1 ≤ length xs → (x : A) × (es : List A) × (xs ≡ x ∷ es)
filled [] h = absurd (omega arith)
filled (x ∷ xs) h = (x, xs, refl)

pub some_there : {A : Type 0} (xs : List A) → 1 ≤ length xs → not (is_empty xs) ≡ true
some_there [] h = absurd (omega arith)
some_there (x ∷ xs) h = refl

pub not_empty : {A : Type 0} (xs : List A) → not (is_empty xs) ≡ true → 1 ≤ length xs
not_empty [] h = clash h
not_empty (x ∷ xs) h = omega arith

-- A LIST CUT AT A PLACE
pub record Cut {A : Type 0} (xs : List A) (n : ℕ) : Type 0 where
  pub before : List A
  pub mid : A
  pub after : List A
  pub split : xs ≡ before ++ (mid ∷ after)
  pub counted : length before ≡ n

pub cut : {A : Type 0} (xs : List A) (n : ℕ) → n < length xs → Cut xs n
cut [] n h = absurd (omega arith)
cut (x ∷ xs) zero h = record { before = []; mid = x; after = xs; split = refl; counted = refl }
cut {A} (x ∷ xs) (suc n) h = more (cut xs n (omega arith))
  where
    more : Cut xs n → Cut (x ∷ xs) (suc n)
    more c =
        record { before = x ∷ c.before; mid = c.mid; after = c.after; split = ap (λ (l : List A). x ∷ l) c.split; counted = ap suc c.counted }

module _ {A : Type 0} {xs : List A} {n : ℕ} (c : Cut xs n) where
  pub all_cut : (p : A → Bool) → all p xs ≡ true → p c.mid ≡ true
  all_cut p h = all_split p c.before c.mid c.after c.split h

  pub get_d_cut : {B : Type 0} (g : A → B) (d : B) → get_or (map g xs) n d ≡ g c.mid
  get_d_cut {B} g d =
      ap (λ (l : List A). get_or (map g l) n d) c.split
      ∙ ap (λ (l : List B). get_or l n d) (map-append g c.before (c.mid ∷ c.after))
      ∙ get_or_at (map g c.before) (g c.mid) (map g c.after) d n (length-map c.before g ∙ c.counted)

  pub take_cut : take n xs ≡ c.before
  take_cut = ap (take n) c.split ∙ take_at c.before (c.mid ∷ c.after) n c.counted

  module _ (name : A → List ℕ) (apart : distinct same_name (map name xs) ≡ true) where
    unique : none_of (named name (name c.mid)) c.before ≡ true
    unique = distinct_split name c.before c.mid c.after c.split apart

    -- a name is found where it was declared
    pub found_at : index_of (named name (name c.mid)) xs ≡ n
    found_at =
        ap (index_of (named name (name c.mid))) c.split
        ∙ index_at (named name (name c.mid)) c.before c.mid c.after unique (name_self (name c.mid)) ∙ c.counted

    pub is_found : ltb (index_of (named name (name c.mid)) xs) (length xs) ≡ true
    is_found =
        ap (λ (l : List A). ltb (index_of (named name (name c.mid)) l) (length l)) c.split
        ∙ found (named name (name c.mid)) c.before c.mid c.after unique (name_self (name c.mid))

abbrev pub map_cut : {A B : Type 0} (g : A → B) {xs : List A} {n : ℕ} → Cut xs n → Cut (map g xs) n
map_cut {A} {B} g {xs} {n} c =
    record {
      before = map g c.before;
      mid = g c.mid;
      after = map g c.after;
      split = ap (map g) c.split ∙ map-append g c.before (c.mid ∷ c.after);
      counted = length-map c.before g ∙ c.counted;
    }

pub gather_cut : {A B : Type 0} (h : A → List B) {xs : List A} {n m : ℕ} (c : Cut xs n) (k : Cut (h c.mid) m) (d : B)
    → get_or (gather h xs) (length (gather h c.before) + m) d ≡ k.mid
unfolding gather
gather_cut {A} {B} h {xs} {n} {m} c k d =
    ap (λ (l : List B). get_or l (length front + m) d) whole
    ∙ get_or_at (front ++ k.before) k.mid (k.after ++ back) d (length front + m)
    (length-append front k.before ∙ ap (λ (i : ℕ). length front + i) k.counted)
  where
    front : List B
    front = gather h c.before

    back : List B
    back = gather h c.after

    whole : gather h xs ≡ (front ++ k.before) ++ (k.mid ∷ (k.after ++ back))
    whole =
        ap (gather h) c.split ∙ gather_append h c.before (c.mid ∷ c.after)
        ∙ ap (λ (l : List B). front ++ (l ++ back)) k.split
        ∙ ap (λ (l : List B). front ++ l) (append_assoc k.before (k.mid ∷ k.after) back)
        ∙ sym (append_assoc front k.before (k.mid ∷ (k.after ++ back)))
