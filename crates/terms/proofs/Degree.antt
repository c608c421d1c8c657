-- The degree of a term is a degree, at every value.
use mathlib.Core.Path.{◌≡◌, refl}
use mathlib.Core.Bool.{Bool, true, false}
use mathlib.Core.List.{List, [], ◌∷◌}
use Prim.Native.Nat.{ℕ, suc, ◌≤◌, ◌<◌}
use native.Mathlib.Omega.{arith}
use lib.Dec.{leb→le, ltb→lt}
use lib.IntN.{ℤ, pos, negsuc}
use lib.ListN.{length, get_or}
use lib.Signed.{lt_z, ◌≤ℤ◌, ◌<ℤ◌}
use Rattle.model.specs.Bounds.{M}
use Rattle.model.specs.Block.{Point}
use Rattle.model.specs.Degrees.{degree_from, term_degree}
use Rattle.laws.proofs.Comparison.{below, not_below}
use Rattle.crisp.specs.Crisp.{InCrisp}
use Rattle.terms.proofs.Line.{between}

abbrev Ok : Point → Type 0
Ok p = InCrisp p.at × (p.degree ≤ M)

abbrev none : Point
none = record { at = pos 0; degree = 0 }

-- what lies between two crisp values is one
pub amid : (a x b : ℤ) → InCrisp a → InCrisp b → a ≤ℤ x → x <ℤ b → InCrisp x
amid (pos a) (pos x) (pos b) ia ib h l = omega (arith, ltb→lt x b l.lt)
amid (pos a) (pos x) (negsuc b) ia ib h l = absurd l.lt
amid (pos a) (negsuc x) b ia ib h l = absurd h.le
amid (negsuc a) (pos x) (pos b) ia ib h l = omega (arith, ltb→lt x b l.lt)
amid (negsuc a) (pos x) (negsuc b) ia ib h l = absurd l.lt
amid (negsuc a) (negsuc x) b ia ib h l = omega (arith, leb→le x a h.le)

from_le : (x : ℤ) (p : Point) (ps : List Point) → Ok p → p.at ≤ℤ x → ((k : ℕ) → k < length ps → Ok (get_or ps k none)) → degree_from x p ps ≤ M
unfolding degree_from
from_le x p [] o h f = o.1
from_le x p (q ∷ qs) o h f = go (lt_z x q.at) refl (λ l. from_le x q qs (f 0 (omega arith)) l (λ k b. f (suc k) (omega arith)))
  where
    oq : Ok q
    oq = f 0 (omega arith)

    go : (b : Bool) → lt_z x q.at ≡ b → (q.at ≤ℤ x → degree_from x q qs ≤ M) → degree_from x p (q ∷ qs) ≤ M
    go true e next =
        let l = below x q.at e in
        rw e (omega (arith, between x p q (amid p.at x q.at o.0 oq.0 h l) o.0 oq.0 h l, o.1, oq.1))
    go false e next = rw e (next (not_below x q.at e))

pub term_le : (ps : List Point) (x : ℤ) → ((k : ℕ) → k < length ps → Ok (get_or ps k none)) → term_degree ps x ≤ M
unfolding term_degree
term_le [] x f = omega arith
term_le (p ∷ ps) x f = go (lt_z x p.at) refl
  where
    op : Ok p
    op = f 0 (omega arith)

    go : (b : Bool) → lt_z x p.at ≡ b → term_degree (p ∷ ps) x ≤ M
    go true e = rw e op.1
    go false e = rw e (from_le x p ps op (not_below x p.at e) (λ k l. f (suc k) (omega arith)))
