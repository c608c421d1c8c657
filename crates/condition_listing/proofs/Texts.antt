-- The text of a condition from those of its parts, each written before the one behind it.
use mathlib.Core.Path.{◌≡◌, refl, sym}
use mathlib.Core.List.{List, ◌++◌}
use Prim.Native.Nat.{ℕ, ◌-◌, ◌≤◌, ◌<◌}
use native.Mathlib.Omega.{arith}
use borrow.Author.Tests.{le-ltb, lt-ltb}
use Rattle.model.specs.Basic.{bytes}
use Rattle.model.specs.Block.{Op, and, or, Condition, term, neg, two}
use Rattle.model.specs.Parentheses.{rank, form, bare_behind_not, bare_left, bare_right}
use Rattle.model.specs.Listing.{TermNames, operator, wrapped, condition_text}
use Rattle.model.specs.Image.{TERM_WORD}
use Rattle.listing_writer.specs.declared.Listing.{Listing}
use Rattle.listing_writer.specs.Prepends.{Writes}
use Rattle.listing_writer.proofs.Prepends.{writes_joined}
use Rattle.operator_listing.specs.Spans.{Spans, Forms}
use Rattle.condition_listing.specs.Writes.{WritesCondition}
use Rattle.operator_listing.proofs.Spans.{operator_word, negated_low, none_ends}

right_bare : (o : Op) → rank o - 1 ≡ bare_right o
right_bare and = refl
right_bare or = refl

left_bare : (o : Op) → rank o ≡ bare_left o
left_bare and = refl
left_bare or = refl

module _ (f : ℕ → ℕ) (g : ℕ → TermNames) where
  abbrev text : Condition → List ℕ
  text = condition_text g

  -- the text where forms up to l stand bare
  abbrev pub within : ℕ → Condition → List ℕ
  within l c = wrapped l (form c) (condition_text g c)

  abbrev pub negated : Condition → List ℕ
  negated c = condition_text g (neg c)

  parts : (o : Op) (e i : ℕ) (c : Condition) → Spans f i e c → rank o ≡ form c
      → (x y : Condition) × (j : ℕ) × (c ≡ two o x y) × Spans f i j x × Spans f j (e - 1) y
  unfolding Spans form
  parts and e i (term t) sp q = absurd (omega arith)
  parts and e i (neg c) sp q = absurd (omega (arith, negated_low (form c)))
  parts and e i (two and x y) (j, p, s, s', w) q = (x, y, j, refl, s, s')
  parts and e i (two or x y) sp q = absurd (omega arith)
  parts or e i (term t) sp q = absurd (omega arith)
  parts or e i (neg c) sp q = absurd (omega (arith, negated_low (form c)))
  parts or e i (two or x y) (j, p, s, s', w) q = (x, y, j, refl, s, s')
  parts or e i (two and x y) sp q = absurd (omega arith)

module _ (f : ℕ → ℕ) (g : ℕ → TermNames) where
  pub none_written : (T : Condition → List ℕ) (e s : ℕ) (old new : Listing) → e < 1 → WritesCondition f T e s old new
  none_written T e s old new h i c sp = absurd (none_ends f e i c h sp)

  -- OPERANDS
  pub bare : (e l s x : ℕ) (old new : Listing) → Forms f e x → x ≤ l → WritesCondition f (text f g) e s old new
      → WritesCondition f (within f g l) e s old new
  bare e l s x old new fs h v i c sp = let q : form c ≤ l = omega (arith, fs i c sp) in rw (le-ltb l (form c) q) (v i c sp)

  pub parenthesised : (e l s x : ℕ) (old mid mid' new : Listing) → Forms f e x → l < x → Writes (bytes ")") old mid
      → WritesCondition f (text f g) e s mid mid' → Writes (bytes "(") mid' new → WritesCondition f (within f g l) e s old new
  parenthesised e l s x old mid mid' new fs h v t w i c sp =
      let q : l < form c = omega (arith, fs i c sp) in
      let u = t i c sp in
      rw (lt-ltb l (form c) q) (u.0, writes_joined (writes_joined v u.1) w)

  -- NOT
  pub not_term : (e : ℕ) (old new : Listing) → TERM_WORD ≤ f (e - 1)
      → Writes ((g (f (e - 1) - TERM_WORD)).variable ++ (bytes " IS NOT " ++ (g (f (e - 1) - TERM_WORD)).term)) old new
      → WritesCondition f (negated f g) e (e - 1) old new
  unfolding Spans condition_text
  not_term e old new h v i (term t) (p, s, w) = let q : f (e - 1) - TERM_WORD ≡ t = omega arith in (sym s, rw q at v)
  not_term e old new h v i (neg c) (p, s, w) = absurd (omega arith)
  not_term e old new h v i (two o a b) (j, p, s, s', w) = absurd (omega (arith, operator_word o))

  pub not_front : (e s : ℕ) (old mid new : Listing) → f (e - 1) < TERM_WORD → WritesCondition f (within f g bare_behind_not) e s old mid
      → Writes (bytes "NOT ") mid new → WritesCondition f (negated f g) e s old new
  unfolding Spans condition_text
  not_front e s old mid new h t v i (term x) (p, q, w) = absurd (omega arith)
  not_front e s old mid new h t v i (neg c) sp = let u = t i (neg c) sp in (u.0, writes_joined u.1 v)
  not_front e s old mid new h t v i (two o a b) sp = let u = t i (two o a b) sp in (u.0, writes_joined u.1 v)

  -- CONDITIONS
  pub term_written : (e : ℕ) (old new : Listing) → TERM_WORD ≤ f (e - 1)
      → Writes ((g (f (e - 1) - TERM_WORD)).variable ++ (bytes " IS " ++ (g (f (e - 1) - TERM_WORD)).term)) old new
      → WritesCondition f (text f g) e (e - 1) old new
  unfolding Spans condition_text
  term_written e old new h v i (term t) (p, s, w) = let q : f (e - 1) - TERM_WORD ≡ t = omega arith in (sym s, rw q at v)
  term_written e old new h v i (neg c) (p, s, w) = absurd (omega arith)
  term_written e old new h v i (two o a b) (j, p, s, s', w) = absurd (omega (arith, operator_word o))

  pub not_written : (e s : ℕ) (old new : Listing) → f (e - 1) ≡ 0 → WritesCondition f (negated f g) (e - 1) s old new
      → WritesCondition f (text f g) e s old new
  unfolding Spans
  not_written e s old new z v i (term t) (p, q, w) = absurd (omega arith)
  not_written e s old new z v i (neg c) (p, q, w) = v i c q
  not_written e s old new z v i (two o a b) (j, p, q, q', w) = absurd (omega (arith, operator_word o))

  both_written : (o : Op) (x y : Condition) (old mid mid' new : Listing) → Writes (within f g (rank o - 1) y) old mid
      → Writes (operator o) mid mid' → Writes (within f g (rank o) x) mid' new → Writes ((text f g) (two o x y)) old new
  unfolding condition_text
  both_written o x y old mid mid' new u v w = writes_joined (writes_joined (rw (right_bare o) at u) v) (rw (left_bare o) at w)

  pub two_written : (o : Op) (e m s : ℕ) (old mid mid' new : Listing) → Forms f e (rank o)
      → WritesCondition f (within f g (rank o - 1)) (e - 1) m old mid → Writes (operator o) mid mid'
      → WritesCondition f (within f g (rank o)) m s mid' new → WritesCondition f (text f g) e s old new
  two_written o e m s old mid mid' new fs a v b i c sp =
      let (x, y, j, e', sx, sy) = parts f g o e i c sp (fs i c sp) in
      let (m≡j, u) = a j y sy in
      let (s≡i, z) = b i x (rw m≡j sx) in
      (s≡i, rw e' (both_written o x y old mid mid' new u v z))

  -- THE LOOP: what is left to write of the condition that ends before e₀ is the text of the one that ends before e
  abbrev pub Left : ℕ → Listing → ℕ → Listing → Type 0
  Left e₀ old₀ e old = (i : ℕ) (c : Condition) → Spans f i e₀ c
      → (d : Condition) × Spans f i e d × ((new : Listing) → Writes ((text f g) d) old new → Writes ((text f g) c) old₀ new)

  pub left_start : (e : ℕ) (old : Listing) → Left e old e old
  left_start e old i c sp = (c, sp, λ new w. w)

  module _ (e₀ : ℕ) (old₀ : Listing) where
    pub left_done : (e : ℕ) (old : Listing) (s : ℕ) (new : Listing) → Left e₀ old₀ e old → WritesCondition f (text f g) e s old new
        → WritesCondition f (text f g) e₀ s old₀ new
    left_done e old s new p h i c sp =
        let a = p i c sp in
        let b = h i a.0 a.1 in
        (b.0, a.2 new b.1)

    -- an operator whose left operand stands bare
    pub left_next : (o : Op) (e m x : ℕ) (old mid mid' : Listing) → Left e₀ old₀ e old → Forms f e (rank o)
        → WritesCondition f (within f g (rank o - 1)) (e - 1) m old mid → Writes (operator o) mid mid' → Forms f m x → x ≤ rank o
        → Left e₀ old₀ m mid'
    left_next o e m x old mid mid' p fs a v fm h i c sp =
        let (d, sd, go) = p i c sp in
        let (l, y, j, e', sl, sy) = parts f g o e i d sd (fs i d sd) in
        let (m≡j, u) = a j y sy in
        let sl' : Spans f i m l = rw m≡j sl in
        let low : form l ≤ rank o = omega (arith, fm i l sl') in
        (l, sl', λ new z. go new (rw e' (both_written o l y old mid mid' new u v (rw (le-ltb (rank o) (form l) low) z))))
