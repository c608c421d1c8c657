-- Laws of names as places in a text: when two are the same, rows by their names, and a table with one more.
use Rattle.std.specs.Prelude.{Some, None, is_some}
use Rattle.std.specs.declared.option.Option.{Option}
use mathlib.Core.Path.{◌≡◌, sym, refl, ◌∙◌}
use mathlib.Core.List.{List, [], ◌∷◌}
use mathlib.Core.Bool.{Bool, true, false, and-false}
use Prim.Native.Nat.{ℕ, zero, suc, ◌+◌, ◌≤◌, ◌<◌}
use native.Mathlib.Numerals.{add-one}
use native.Mathlib.Omega.{arith}
use borrow.Author.Tests.{eqb-true, eqb-false}
use lib.Dec.{eqb}
use lib.ListN.{length, drop, get_or, set, length-set, drop_of_length-le}
use lib.Seq.{drop-cons, get_or-set_same, get_or-set_other}
use Rattle.model.specs.Basic.{index_of, capital, tab}
use Rattle.model.specs.Bounds.{symbol_limit}
use Rattle.model.specs.Tokens.{same_name}
use Rattle.laws.proofs.Words.{other_word}
use Rattle.lookup.specs.Names.{Placed, among, Found}

-- TWO TEXTS, BYTE BY BYTE
module _ (v w : List ℕ) (i : ℕ) where
  pub no_more : length v ≤ i → length w ≤ i → same_name (drop i v) (drop i w) ≡ true
  unfolding same_name
  no_more h g = rw (drop_of_length-le v h, drop_of_length-le w g) refl

  pub one_more : i < length v → i < length w → eqb (capital (get_or v i 0)) (capital (get_or w i 0)) ≡ true → same_name (drop (i + 1) v) (drop (i + 1) w) ≡ true
      → same_name (drop i v) (drop i w) ≡ true
  unfolding same_name
  one_more h g e q = rw (drop-cons v i 0 h, drop-cons w i 0 g, e) (rw add-one at q)

pub differ_at : (v w : List ℕ) (i : ℕ) → i < length v → i < length w → eqb (capital (get_or v i 0)) (capital (get_or w i 0)) ≡ false → same_name v w ≡ false
unfolding same_name
differ_at [] w i h g e = absurd (omega arith)
differ_at (c ∷ v) [] i h g e = absurd (omega arith)
differ_at (c ∷ v) (d ∷ w) zero h g e = rw e refl
differ_at (c ∷ v) (d ∷ w) (suc i) h g e = rw (differ_at v w i (omega arith) (omega arith) e) (and-false (eqb (capital c) (capital d)))

pub differ_long : (v w : List ℕ) → (length v ≡ length w → ⊥) → same_name v w ≡ false
unfolding same_name
differ_long v w h = other_word v w h

-- rows are found by their names
pub index_tab : {A : Type 0} (name : A → List ℕ) (f : ℕ → A) (g : ℕ → List ℕ) (w : List ℕ) → ((k : ℕ) → name (f k) ≡ g k)
    → (n i : ℕ) → index_of (λ v. same_name w (name v)) (tab f n i) ≡ index_of (same_name w) (tab g n i)
unfolding tab
index_tab name f g w e zero i = refl
index_tab name f g w e (suc n) i =
    λ j. elim (same_name w (e i j)) as (λ b. ℕ) [ true ↦ 0 | false ↦ suc (index_tab name f g w e n (suc i) j) ]

-- ANOTHER NAME IN SLOT k
module _ (s names : List ℕ) (k a e : ℕ) where
  abbrev changed : List ℕ
  changed = set (set names k a) (symbol_limit + k) e

  start_same : k < symbol_limit → length names ≡ symbol_limit + symbol_limit → get_or changed k 0 ≡ a
  start_same h n = get_or-set_other (set names k a) (symbol_limit + k) k e 0 (λ q. omega arith) ∙ get_or-set_same names k a 0 (omega arith)

  end_same : k < symbol_limit → length names ≡ symbol_limit + symbol_limit → get_or changed (symbol_limit + k) 0 ≡ e
  end_same h n = get_or-set_same (set names k a) (symbol_limit + k) e 0 (omega (arith, length-set names k a))

  place_other : (j : ℕ) → (j ≡ k → ⊥) → (j ≡ symbol_limit + k → ⊥) → get_or changed j 0 ≡ get_or names j 0
  place_other j p q = get_or-set_other (set names k a) (symbol_limit + k) j e 0 q ∙ get_or-set_other names k j a 0 p

  pub placed_set : k < symbol_limit → length names ≡ symbol_limit + symbol_limit → a ≤ e → e ≤ length s → Placed s names → Placed s (set (set names k a) (symbol_limit + k) e)
  placed_set hk n ae es p = record {
    order = λ j h. order j h (eqb j k) refl;
    inside = λ j. inside j (eqb j k) (eqb j (symbol_limit + k)) refl refl;
  }
    where
      order : (j : ℕ) → j < symbol_limit → (t : Bool) → eqb j k ≡ t → get_or changed j 0 ≤ get_or changed (symbol_limit + j) 0
      order j h true q = rw (eqb-true j k q, start_same hk n, end_same hk n) ae
      order j h false q =
          rw (place_other j (eqb-false j k q) (λ z. omega arith), place_other (symbol_limit + j) (λ z. omega arith) (λ z. eqb-false j k q (omega arith)))
          (p.order j h)

      inside : (j : ℕ) (t u : Bool) → eqb j k ≡ t → eqb j (symbol_limit + k) ≡ u → get_or changed j 0 ≤ length s
      inside j true u q r = rw (eqb-true j k q, start_same hk n) (omega arith)
      inside j false true q r = rw (eqb-true j (symbol_limit + k) r, end_same hk n) es
      inside j false false q r = rw (place_other j (eqb-false j k q) (eqb-false j (symbol_limit + k) r)) (p.inside j)

-- A NAME THAT IS LOOKED UP
module _ (s names w : List ℕ) (n k : ℕ) where
  pub taken : (r : Option ℕ) → Found s names w n k r → is_some r ≡ true → among s names w n k < n
  taken None f e = cc
  taken (Some i) f e = rw (sym f.0) f.1

  pub free : (r : Option ℕ) → Found s names w n k r → is_some r ≡ false → n ≤ among s names w n k
  free None f e = omega (arith, f)
  free (Some i) f e = cc
