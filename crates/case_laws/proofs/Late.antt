-- Refused readings: what is read before it is checked has no effect where the check refuses it.
use mathlib.Core.Path.{◌≡◌, refl, sym, ◌∙◌}
use mathlib.Core.Bool.{Bool, true, false}
use mathlib.Core.List.{◌∷◌}
use Prim.Native.Nat.{ℕ, suc}
use native.Mathlib.Omega.{arith}
use borrow.Author.Tests.{eqb-false, ne_eqb}
use lib.Dec.{eqb}
use Rattle.model.specs.Keywords.{END}
use Rattle.model.specs.Block.{Block}
use Rattle.model.specs.Parse.{Parse, Checks, kind, is, refuse, change, judged, expect}
use Rattle.laws.proofs.Walk.{keeps_expect}
use Rattle.laws.proofs.Refused.{Refused, refused_steps, stays}

abbrev pub Late : Parse → Type 0
Late r = r.why ≡ 0 → ⊥

pub late_change : (f g : Block → Block) (r : Parse) → Late r → change f r ≡ change g r
unfolding change
late_change f g r z = rw (ne_eqb r.why 0 z) refl

pub late_refuse : (n : ℕ) (r : Parse) → Late (refuse (suc n) r)
unfolding refuse
late_refuse n r = go (eqb r.why 0) refl
  where
    go : (b : Bool) → eqb r.why 0 ≡ b → Late (refuse (suc n) r)
    go true e = λ h. let k = rw e at h in omega arith
    go false e = λ h. let k = rw e at h in eqb-false r.why 0 e k

pub fails : (a : Bool) (n : ℕ) (cs : Checks) (r x : Parse) → a ≡ false → judged ((a, n) ∷ cs) r x ≡ refuse n r
unfolding judged
fails a n cs r x e = rw e refl

pub late_expect : (k : ℕ) (r : Parse) → Late r → Late (expect k r)
late_expect k r z h = z (sym (stays (expect k) (λ n p y. keeps_expect (Refused n p) (refused_steps n p y) k) r z).0 ∙ h)

-- a refusal brings no token of another kind than END
pub not_kind : (k n : ℕ) (r : Parse) → eqb END k ≡ false → is k r ≡ false → is k (refuse n r) ≡ false
unfolding refuse kind
not_kind k n r z h = go (eqb r.why 0) refl
  where
    go : (b : Bool) → eqb r.why 0 ≡ b → is k (refuse n r) ≡ false
    go true e = rw e z
    go false e = rw e h

pub not_expected : (k : ℕ) (r : Parse) → is k r ≡ false → expect k r ≡ refuse 2 r
unfolding expect
not_expected k r e = rw e refl
