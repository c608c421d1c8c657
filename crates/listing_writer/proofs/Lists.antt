-- Items of a table written from the last to the first: one after the other, and with commas between.
use mathlib.Core.Path.{◌≡◌, refl, ap, ◌∙◌}
use mathlib.Core.List.{List, [], ◌∷◌, ◌++◌, map}
use lib.ListN.{length, length-map}
use Prim.Native.Nat.{ℕ, suc, ◌+◌, ◌-◌, ◌≤◌, ◌<◌}
use native.Mathlib.Omega.{arith}
use Rattle.model.specs.Basic.{bytes, gather, tab}
use Rattle.listing_writer.proofs.Prepends.{parts}
use Rattle.model.specs.Listing.{commaed}
use Rattle.laws.proofs.Places.{length_tab}

-- the items of a table from place i to below e
unfoldable pub from : {A : Type 0} → (ℕ → A) → ℕ → ℕ → List A
from g e i = tab g (e - i) i

module _ {A : Type 0} (g : ℕ → A) where
  from_end : (e : ℕ) → from g e e ≡ []
  unfolding from tab
  from_end e = let z : e - e ≡ 0 = omega arith in rw z

  from_more : (e i : ℕ) → 0 < i → i ≤ e → from g e (i - 1) ≡ g (i - 1) ∷ from g e i
  unfolding from tab
  from_more e i h l =
      let a : e - (i - 1) ≡ suc (e - i) = omega arith in
      let b : suc (i - 1) ≡ i = omega arith in
      rw (a, b) refl

-- ONE AFTER THE OTHER
module _ {A : Type 0} (f : A → List ℕ) (g : ℕ → A) where
  pub items_none : (e i : ℕ) → i ≡ e → gather f (from g e i) ≡ []
  unfolding gather
  items_none e i h = rw (h, from_end g e)

  pub items_more : (e i : ℕ) → 0 < i → i ≤ e → gather f (from g e (i - 1)) ≡ f (g (i - 1)) ++ gather f (from g e i)
  unfolding gather
  items_more e i h l = rw (from_more g e i h l) refl

  pub items_all : (n i : ℕ) → i ≡ 0 → gather f (from g n i) ≡ gather f (tab g n 0)
  unfolding from
  items_all n i h = let d : n - i ≡ n = omega arith in rw (d, h)

  pub items_from : (a n i : ℕ) → i ≡ a → gather f (from g (a + n) i) ≡ gather f (tab g n a)
  unfolding from
  items_from a n i h = let d : a + n - a ≡ n = omega arith in rw (h, d)

-- items written from the last to the first
pub ruleset items = (parts, items_none, items_more, items_all, items_from)

-- WITH COMMAS BETWEEN
commaed_cons : (s : List ℕ) (ss : List (List ℕ)) → 0 < length ss → commaed (s ∷ ss) ≡ s ++ (bytes ", " ++ commaed ss)
unfolding commaed
commaed_cons s [] h = absurd (omega arith)
commaed_cons s (t ∷ ss) h = refl

module _ {A : Type 0} (f : A → List ℕ) (g : ℕ → A) where
  pub commaed_none : (e i : ℕ) → i ≡ e → commaed (map f (from g e i)) ≡ []
  unfolding commaed
  commaed_none e i h = rw (h, from_end g e)

  -- the last item
  pub commaed_last : (e i : ℕ) → 0 < i → i ≡ e → commaed (map f (from g e (i - 1))) ≡ f (g (i - 1))
  unfolding commaed
  commaed_last e i h l =
      let n : from g e i ≡ [] = ap (from g e) l ∙ from_end g e in
      rw (from_more g e i h (omega arith)) (rw n refl)

  -- an item and a comma before the others
  pub commaed_more : (e i : ℕ) → 0 < i → i < e
      → commaed (map f (from g e (i - 1))) ≡ f (g (i - 1)) ++ (bytes ", " ++ commaed (map f (from g e i)))
  unfolding from
  commaed_more e i h l =
      let long : 0 < length (map f (from g e i)) = omega (arith, length-map (from g e i) f, length_tab g (e - i) i) in
      rw (from_more g e i h (omega arith)) (commaed_cons (f (g (i - 1))) (map f (from g e i)) long)

  pub commaed_all : (n i : ℕ) → i ≡ 0 → commaed (map f (from g n i)) ≡ commaed (map f (tab g n 0))
  unfolding from
  commaed_all n i h = let d : n - i ≡ n = omega arith in rw (d, h)

  pub commaed_from : (a n i : ℕ) → i ≡ a → commaed (map f (from g (a + n) i)) ≡ commaed (map f (tab g n a))
  unfolding from
  commaed_from a n i h = let d : a + n - a ≡ n = omega arith in rw (h, d)

-- such items written from the last to the first
pub ruleset commaed_items = (parts, commaed_none, commaed_last, commaed_more, commaed_all, commaed_from)
