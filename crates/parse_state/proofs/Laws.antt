-- How parts that are read make up a longer part: one after the other, and again and again.
use Rattle.std.specs.Prelude.{None}
use mathlib.Core.Path.{◌≡◌, refl, sym, ap, ◌∙◌}
use mathlib.Core.Bool.{true}
use mathlib.Core.List.{List, [], ◌++◌, append-nil}
use Prim.Native.Nat.{ℕ, suc, ◌≤◌, ◌<◌}
use native.Mathlib.Omega.{arith}
use borrow.Author.Tests.{eq-eqb, ne_eqb}
use lib.ListN.{length}
use Rattle.model.specs.Block.{Block}
use Rattle.model.specs.Keywords.{END, COMMA}
use Rattle.model.specs.Parse.{Parse, Part, Checks, kind, text, refuse, change, advance, judged, expect, repeat_on, repeated, listed}
use Rattle.laws.proofs.Again.{Again, again_more, again_end, repeats}
use Rattle.laws.proofs.Repetition.{turn, no_turn}
use Rattle.cursor.specs.declared.Cursor.{Cursor}
use Rattle.cursor.specs.View.{seen, text_of, Fits, left, Moves, Step, fault}
use Rattle.cursor.proofs.Laws as cursor
use Rattle.block_tables.specs.declared.Tables.{Tables}
use Rattle.block_tables.specs.View.{block_view, Holds}
use Rattle.block_tables.specs.Changes.{Changes}
use Rattle.parse_state.specs.declared.ParseState.{ParseState}
use Rattle.parse_state.specs.Reads.{view, Good, Reads}

abbrev pub at : Cursor → Tables → ParseState
at c t = record { cursor = c; tables = t }

module _ (s : List ℕ) (p : ParseState) where
  pub kind_view : kind (view s p) ≡ p.cursor.kind
  unfolding view
  kind_view = cursor.kind_seen s p.cursor (block_view s p.tables) 0

  pub text_view : text (view s p) ≡ text_of s p.cursor
  unfolding view
  text_view = cursor.text_seen s p.cursor (block_view s p.tables) 0

  pub block_view_lem : (view s p).block ≡ block_view s p.tables
  unfolding view
  block_view_lem = cursor.block_seen s p.cursor (block_view s p.tables) 0

  -- nothing read
  pub none : Good s p → Reads (λ r. r) s p p
  none g = record { reads = refl; fewer = omega arith; good = g }

-- a step of the cursor
pub step : {part : Part} {s : List ℕ} {c d : Cursor} (t : Tables) → Holds s t → Step part s c d → Reads part s (at c t) (at d t)
unfolding view
step {part} {s} {c} {d} t h q = record { reads = q.reads (block_view s t) 0; fewer = q.fewer; good = record { fits = q.fits; holds = h } }

-- one after the other
pub next : {f g : Part} {s : List ℕ} {a b c : ParseState} → Reads f s a b → Reads g s b c → Reads (λ r. g (f r)) s a c
next {f} {g} {s} {a} {b} {c} p q = record { reads = q.reads ∙ ap g p.reads; fewer = let u = p.fewer in let v = q.fewer in omega arith; good = q.good }

-- the same part by another name
pub also : {f g : Part} {s : List ℕ} {a b : ParseState} → Reads f s a b → f (view s a) ≡ g (view s a) → Reads g s a b
also {f} {g} {s} {a} {b} p e = record { reads = p.reads ∙ e; fewer = p.fewer; good = p.good }

-- the tables changed, at a token
pub changes : (s : List ℕ) (c : Cursor) (t u : Tables) (f : Block → Block) → Fits s c → (c.kind ≡ END → ⊥) → Changes s t u f
    → Reads (change f) s (at c t) (at c u)
unfolding view
changes s c t u f g h q = record {
  reads = ap (λ (b : Block). seen s c b 0) q.view ∙ sym (cursor.changed s c (block_view s t) 0 f (g.halted h));
  fewer = omega arith;
  good = record { fits = g; holds = q.holds };
}

-- JUDGED: refused by the first check that fails, or what follows
same_end : (cs : Checks) (r nxt : Parse) → judged cs r nxt ≡ judged (cs ++ []) r nxt
same_end cs r nxt = ap (λ (l : Checks). judged l r nxt) (sym (append-nil cs))

module _ {part : Part} {s : List ℕ} {c : Cursor} {t : Tables} (cs : Checks) (nxt : Parse) (e : part (view s (at c t)) ≡ judged cs (view s (at c t)) nxt) where
  pub refuses : {d : Cursor} (w : ℕ) → fault cs ≡ w → (w ≡ 0 → ⊥) → Holds s t → Step (refuse w) s c d → Reads part s (at c t) (at d t)
  unfolding judged
  refuses {d} w f h g q = also (step t g q) (sym (e ∙ same_end cs (view s (at c t)) nxt ∙ cursor.judged_bad (view s (at c t)) nxt w cs [] f h))

  pub passes : {f : Part} {r : ParseState} → cursor.numbered cs ≡ true → fault cs ≡ 0 → Reads f s (at c t) r → f (view s (at c t)) ≡ nxt
      → Reads part s (at c t) r
  unfolding judged
  passes {f} {r} n z x y = also x (y ∙ sym (e ∙ same_end cs (view s (at c t)) nxt ∙ cursor.judged_good (view s (at c t)) nxt cs [] n z))

-- AGAIN AND AGAIN: some fuel that is enough gives what is asked for
abbrev pub Runs : ℕ → Part → List ℕ → ParseState → ParseState → Type 0
Runs k part s p₀ p = Again (repeats k part) (left s p.cursor) (view s p) (repeated k part (view s p₀))

abbrev pub Going : ℕ → Part → List ℕ → ParseState → ParseState → Type 0
Going k part s p₀ p = (left s p.cursor ≤ left s p₀.cursor) × Good s p × Runs k part s p₀ p

module _ (k : ℕ) (part : Part) (s : List ℕ) where
  pub begins : (p : ParseState) → Good s p → Going k part s p p
  unfolding repeated view
  begins p g = (omega arith, g, (suc (length (view s p).rest), cursor.enough s p.cursor (block_view s p.tables) 0, refl))

  pub goes : (p₀ p r : ParseState) → Going k part s p₀ p → p.cursor.kind ≡ k → Reads part s p r → left s r.cursor < left s p.cursor
      → Going k part s p₀ r
  goes p₀ p r g h q m =
      let one : (f : ℕ) → repeat_on (suc f) k part (view s p) ≡ repeat_on f k part (view s r) =
      λ f. turn k part f (view s p) (eq-eqb _ _ (kind_view s p ∙ h)) ∙ ap (repeat_on f k part) (sym q.reads) in
      (omega arith, q.good, again_more (repeats k part) one m g.2)

  pub leaves : (p₀ p : ParseState) → Going k part s p₀ p → (p.cursor.kind ≡ k → ⊥) → Reads (repeated k part) s p₀ p
  leaves p₀ p g h = record {
    reads = again_end (repeats k part) (λ f. no_turn k part f (view s p) (ne_eqb _ _ (λ z. h (sym (kind_view s p) ∙ z)))) g.2;
    fewer = g.0;
    good = g.1;
  }

-- before the token that it asks for, expect advances
pub expect_advance : (k : ℕ) (s : List ℕ) (p : ParseState) → p.cursor.kind ≡ k → expect k (view s p) ≡ advance (view s p)
unfolding expect
expect_advance k s p h = simp (kind_view s p, eq-eqb _ _ h)

-- part, and part again after each comma
module _ (part : Part) (s : List ℕ) where
  abbrev pub again : Part
  again r = part (expect COMMA r)

  pub list_goes : (q₀ q r : ParseState) (d : Cursor) → Going COMMA again s q₀ q → q.cursor.kind ≡ COMMA → Step advance s q.cursor d
      → left s d < left s q.cursor
      → Reads part s (at d q.tables) r → Going COMMA again s q₀ r
  list_goes q₀ q r d g k a m x =
      let y = also (next (step q.tables g.1.holds a) x) (ap part (sym (expect_advance COMMA s q k))) in
      let z = x.fewer in
      goes COMMA again s q₀ q r g k y (omega arith)

  pub list_leaves : (p q₀ q : ParseState) → Reads part s p q₀ → Going COMMA again s q₀ q → (q.cursor.kind ≡ COMMA → ⊥) → Reads (listed part) s p q
  unfolding listed
  list_leaves p q₀ q x g k = also (next x (leaves COMMA again s q₀ q g k)) refl

-- ONE OR MORE, THE FIRST STILL AHEAD: what the next one comes to leads on
module _ (k : ℕ) (part : Part) (s : List ℕ) where
  abbrev all : Part
  all r = repeated k part (part r)

  abbrev pub Turning : ParseState → ParseState → Type 0
  Turning p₀ p = Good s p × (left s p.cursor ≤ left s p₀.cursor)
      × ((r : ParseState) → p.cursor.kind ≡ k → Reads part s p r → left s r.cursor < left s p.cursor
      → Again (repeats k part) (left s r.cursor) (view s r) (all (view s p₀)))
      × ((p.cursor.kind ≡ k → ⊥) → view s p ≡ all (view s p₀))

  pub turns_first : (p : ParseState) → Good s p → p.cursor.kind ≡ k → Turning p p
  unfolding repeated view
  turns_first p g h = (
    g,
    omega arith,
    λ r e q m. (suc (length (view s r).rest), cursor.enough s r.cursor (block_view s r.tables) 0, ap (repeated k part) q.reads),
    λ z. absurd (z h),
  )

  pub turns_more : (p₀ p r : ParseState) → Turning p₀ p → p.cursor.kind ≡ k → Reads part s p r → left s r.cursor < left s p.cursor → Turning p₀ r
  turns_more p₀ p r g h q m =
      let w = g.2 r h q m in (
        q.good,
        omega (arith, g.1),
        λ v e y n.
            again_more (repeats k part)
            (λ f. turn k part f (view s r) (eq-eqb _ _ (kind_view s r ∙ e)) ∙ ap (repeat_on f k part) (sym y.reads)) n w,
        λ z. again_end (repeats k part) (λ f. no_turn k part f (view s r) (ne_eqb _ _ (λ y. z (sym (kind_view s r) ∙ y)))) w,
      )

  pub turns_end : (p₀ p : ParseState) → Turning p₀ p → (p.cursor.kind ≡ k → ⊥) → Reads all s p₀ p
  turns_end p₀ p g h = record { reads = g.3 h; fewer = g.1; good = g.0 }

  -- after a refusal none follows
  pub turns_none : (p : ParseState) (d : Cursor) (t : Tables) → (k ≡ 0 → ⊥) → (d.refused ≡ None → ⊥) → Reads part s p (at d t) → Reads all s p (at d t)
  unfolding view
  turns_none p d t h w y =
      let z : Reads (repeated k part) s (at d t) (at d t) =
      also (none s (at d t) y.good) (sym (cursor.lost_repeated s d y.good.fits w (block_view s t) 0 k part h)) in
      next y z

  -- the same where a loop tests at its end
  abbrev pub Leading : ParseState → ParseState → Type 0
  Leading p₀ p = Good s p × (left s p.cursor ≤ left s p₀.cursor)
      × ((r : ParseState) → Reads part s p r → Moves s p.cursor r.cursor
      → Again (repeats k part) (left s r.cursor) (view s r) (all (view s p₀)))

  pub leads_first : (p : ParseState) → Good s p → Leading p p
  unfolding repeated view
  leads_first p g = (
    g,
    omega arith,
    λ r q m. (suc (length (view s r).rest), cursor.enough s r.cursor (block_view s r.tables) 0, ap (repeated k part) q.reads),
  )

  module _ (p₀ p r : ParseState) (g : Leading p₀ p) (q : Reads part s p r) (m : Moves s p.cursor r.cursor) where
    pub leads_on : (k ≡ END → ⊥) → r.cursor.kind ≡ k → Leading p₀ r
    leads_on z h = (
      q.good,
      omega (arith, g.1, q.fewer),
      λ v y n.
          again_more (repeats k part)
          (λ f. turn k part f (view s r) (eq-eqb _ _ (kind_view s r ∙ h)) ∙ ap (repeat_on f k part) (sym y.reads)) (n (λ e. z (sym h ∙ e))) (g.2 r q m),
    )

    pub leads_end : (r.cursor.kind ≡ k → ⊥) → Reads all s p₀ r
    leads_end h = record {
      reads = again_end (repeats k part) (λ f. no_turn k part f (view s r) (ne_eqb _ _ (λ y. h (sym (kind_view s r) ∙ y)))) (g.2 r q m);
      fewer = omega (arith, g.1, q.fewer);
      good = q.good;
    }
