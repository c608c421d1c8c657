use Rattle.std.specs.Prelude.{if◌then◌else◌}
use mathlib.Core.Path.{◌≡◌, sym, ◌∙◌}
use mathlib.Core.Bool.{Bool, true, false}
use mathlib.Core.List.{[], ◌∷◌}
use Prim.Native.Nat.{ℕ}
use lib.Dec.{eqb}
use lib.IntN.{ℤ}
use lib.Signed.{le_z, lt_z}
use borrow.Author.Rules.{rules}
use borrow.Author.Tests.{eq-eqb, ne_eqb}
use Rattle.model.specs.Block.{may_follow}
use Rattle.term_rules.specs.declared.LastTwo.{LastTwo}
use Rattle.term_rules.specs.Positions.{may_stand}
use Rattle.term_rules.proofs.may_stand.Goals as goal

module _ (n : ℕ) (t : LastTwo) (x : ℤ) (some : n ≡ 0 → ⊥) where
  -- below the last position
  low : le_z t.later.0 x ≡ false → may_stand n t x ≡ false
  unfolding may_stand may_follow
  low h = simp (ne_eqb _ _ some) (go (eqb n 1))
    where
      go : (b : Bool) → may_follow (if b then t.later.0 ∷ [] else t.earlier.0 ∷ t.later.0 ∷ []) x ≡ false
      go true = h
      go false = simp h

  -- not below it, after one position and after more
  one : n ≡ 1 → le_z t.later.0 x ≡ true → may_stand n t x ≡ true
  unfolding may_stand may_follow
  one e h = simp (ne_eqb _ _ some, eq-eqb _ _ e, h)

  many : (n ≡ 1 → ⊥) → le_z t.later.0 x ≡ true → may_stand n t x ≡ lt_z t.earlier.0 x
  unfolding may_stand may_follow
  many e h = simp (ne_eqb _ _ some, ne_eqb _ _ e, h)

pub returns-then-n-eq0 : goal.returns-then-n-eq0
unfolding may_stand may_follow
returns-then-n-eq0 c = sym (simp (eq-eqb _ _ c.if-n-eq0.true))

pub returns-else-le : goal.returns-else-le
returns-else-le c =
    let a = c.args in
    let e : le_z a.last.later.0 a.x.0 ≡ false = search rules in
    c.if-le.false ∙ sym (low a.n a.last a.x.0 c.if-n-eq0.false e)

pub returns-then-n-eq1 : goal.returns-then-n-eq1
returns-then-n-eq1 c =
    let a = c.args in
    let e : le_z a.last.later.0 a.x.0 ≡ true = search rules in
    eq-eqb _ _ c.if-n-eq1.true ∙ sym (one a.n a.last a.x.0 c.if-n-eq0.false c.if-n-eq1.true e)

pub returns-else-n-eq1 : goal.returns-else-n-eq1
returns-else-n-eq1 c =
    let a = c.args in
    let e : le_z a.last.later.0 a.x.0 ≡ true = search rules in
    let l : c.lt.result ≡ lt_z a.last.earlier.0 a.x.0 = search rules in
    l ∙ sym (many a.n a.last a.x.0 c.if-n-eq0.false c.if-n-eq1.false e)
