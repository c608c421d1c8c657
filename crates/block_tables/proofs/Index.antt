-- The names of the tables by place: one put in, and rows whose names stand where they did.
use mathlib.Core.Path.{◌≡◌, refl, sym, ap, ◌∙◌, subst}
use mathlib.Core.Bool.{Bool, true, false}
use mathlib.Core.List.{List}
use Prim.Native.Nat.{ℕ, ◌+◌, ◌*◌, ◌≤◌, ◌<◌}
use native.Mathlib.Omega.{arith}
use borrow.Author.Tests.{eqb-true, eqb-false}
use lib.Dec.{eqb}
use lib.ListN.{length, get_or, set, length-set}
use lib.Seq.{slice, get_or-set_same, get_or-set_other}
use Rattle.model.specs.Bounds.{symbol_limit}
use Rattle.lookup.specs.Names.{name_of, Placed}
use Rattle.block_tables.specs.View.{Stands}

abbrev pub put : List ℕ → ℕ → ℕ → ℕ → List ℕ
put names k a e = set (set names k a) (symbol_limit + k) e

pub name_at : (s names : List ℕ) (k a e : ℕ) → Stands names k a e → name_of s names k ≡ slice a e s
unfolding name_of
name_at s names k a e q = λ x. slice (q.0 x) (q.1 x) s

pub in_text : {s names : List ℕ} {k a e : ℕ} → Placed s names → k < symbol_limit → Stands names k a e → (a ≤ e) × (e ≤ length s)
in_text {s} {names} {k} p h q = let o = p.order k h in let i = p.inside (symbol_limit + k) in (omega (arith, q.0, q.1), omega (arith, q.1))

module _ (names : List ℕ) (k a e : ℕ) (h : k < symbol_limit) where
  stands_same : length names ≡ symbol_limit * 2 → Stands (put names k a e) k a e
  stands_same n = (
    get_or-set_other (set names k a) (symbol_limit + k) k e 0 (λ q. omega arith) ∙ get_or-set_same names k a 0 (omega arith),
    get_or-set_same (set names k a) (symbol_limit + k) e 0 (omega (arith, length-set names k a)),
  )

  stands_other : (j x y : ℕ) → j < symbol_limit → (j ≡ k → ⊥) → Stands names j x y → Stands (put names k a e) j x y
  stands_other j x y b d q = (
    get_or-set_other (set names k a) (symbol_limit + k) j e 0 (λ z. omega arith) ∙ get_or-set_other names k j a 0 d ∙ q.0,
    get_or-set_other (set names k a) (symbol_limit + k) (symbol_limit + j) e 0 (λ z. d (omega arith))
        ∙ get_or-set_other names k (symbol_limit + j) a 0 (λ z. omega arith) ∙ q.1,
  )

-- ROWS: the name of the j-th stands in place q j
module _ {A : Type 0} (start end : A → ℕ) (d : A) (q : ℕ → ℕ) (n : ℕ) where
  abbrev pub Rows : List ℕ → List A → Type 0
  Rows names l = (j : ℕ) → j < n → Stands names (q j) (start (get_or l j d)) (end (get_or l j d))

  pub rows_kept : (names : List ℕ) (l m : List A) → ((j : ℕ) → start (get_or m j d) ≡ start (get_or l j d))
      → ((j : ℕ) → end (get_or m j d) ≡ end (get_or l j d)) → Rows names l → Rows names m
  rows_kept names l m f g r j h = let z = r j h in (z.0 ∙ sym (f j), z.1 ∙ sym (g j))

  module _ (low : (j : ℕ) → j < n → q j < symbol_limit) (names : List ℕ) (l : List A) where
    pub rows_apart : (k a e : ℕ) → k < symbol_limit → ((j : ℕ) → j < n → q j ≡ k → ⊥) → Rows names l → Rows (put names k a e) l
    rows_apart k a e h c r j b = stands_other names k a e h (q j) _ _ (low j b) (c j b) (r j b)

    pub rows_put : (k : ℕ) (v : A) → k < n → n ≤ length l → ((j : ℕ) → q j ≡ q k → j ≡ k) → length names ≡ symbol_limit * 2
        → Rows names l → Rows (put names (q k) (start v) (end v)) (set l k v)
    rows_put k v h s c z r j b = by (eqb j k) refl
      where
        at_k : Stands (put names (q k) (start v) (end v)) (q k) (start (get_or (set l k v) k d)) (end (get_or (set l k v) k d))
        at_k =
            let w = stands_same names (q k) (start v) (end v) (low k h) z in
            let g = sym (get_or-set_same l k v d (omega arith)) in
            (w.0 ∙ ap start g, w.1 ∙ ap end g)

        by : (t : Bool) → eqb j k ≡ t → Stands (put names (q k) (start v) (end v)) (q j) (start (get_or (set l k v) j d)) (end (get_or (set l k v) j d))
        by true f = subst (λ (i : ℕ). Stands (put names (q k) (start v) (end v)) (q i) (start (get_or (set l k v) i d)) (end (get_or (set l k v) i d)))
            (sym (eqb-true j k f)) at_k
        by false f =
            let o = eqb-false j k f in
            let w = stands_other names (q k) (start v) (end v) (low k h) (q j) _ _ (low j b) (λ x. o (c j x)) (r j b) in
            let g = sym (get_or-set_other l k j v d o) in
            (w.0 ∙ ap start g, w.1 ∙ ap end g)
