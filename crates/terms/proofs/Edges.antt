-- The degree of a term whose positions do not fall: between two points the line, and at a position the degree of the last
-- point there, exactly; so the claim of W-203.
use mathlib.Core.Path.{◌≡◌, refl, sym, ap, ◌∙◌, subst}
use mathlib.Core.Bool.{Bool, true, false}
use mathlib.Core.List.{List, [], ◌∷◌, ◌++◌, map-append}
use Prim.Native.Nat.{ℕ, ◌+◌, ◌*◌, ◌-◌, ◌<◌}
use native.Mathlib.Nat.{mul-zero}
use native.Mathlib.Omega.{arith}
use borrow.Author.Tests.{leb-true}
use lib.IntN.{ℤ}
use lib.Signed.{lt_z, ◌≤ℤ◌, ◌<ℤ◌, ≤ℤ_refl, <ℤ-≤ℤ_trans, clash_ℤ}
use Rattle.model.specs.Basic.{Each, all}
use Rattle.model.specs.Block.{Point}
use Rattle.model.specs.Degrees.{on_line, degree_from, term_degree}
use Rattle.model.specs.Tokens.{in_crisp}
use Rattle.model.specs.WellFormed.{unit_ok, point_ok, in_order, term_ok}
use Rattle.model.specs.Edges.{WithinHalf, EdgesHold, SharpEdges}
use Rattle.laws.proofs.Comparison.{below, lt_passes, lt_fails}
use Rattle.laws.proofs.Lists.{all_append}
use Rattle.laws.proofs.Positions.{positions, later, no_fall, no_third, places}
use Rattle.laws.proofs.Tests.{both, passed}
use Rattle.nearest_laws.proofs.Laws.{nearest_le, nearest_ge}
use Rattle.crisp.specs.Crisp.{InCrisp, above}
use Rattle.crisp.proofs.Laws.{above_lt}
use Rattle.terms.proofs.Degree.{amid}
use Rattle.terms.proofs.Line as line

abbrev InOrder : List Point → Type 0
InOrder ps = in_order [] (positions ps) ≡ true

-- each position at or above the one before it
abbrev Ordered : ℤ → List Point → Type 0
Ordered a [] = Unit {0}
Ordered a (p ∷ ps) = (a ≤ℤ p.at) × Ordered p.at ps

ordered : (b : List ℤ) (p : Point) (ps : List Point) → in_order b (positions (p ∷ ps)) ≡ true → Ordered p.at ps
ordered b p [] h = tt
ordered b p (q ∷ qs) h =
    (no_fall b [] p.at q.at (positions qs) h, ordered (b ++ (p.at ∷ [])) q qs (later b p.at (positions (q ∷ qs)) h).1)

stays : (x a : ℤ) (ps : List Point) (q : Point) (qs : List Point) → x <ℤ a → Ordered a (ps ++ (q ∷ qs)) → x <ℤ q.at
stays x a [] q qs l o = <ℤ-≤ℤ_trans l o.0
stays x a (p ∷ ps) q qs l o = stays x p.at ps q qs (<ℤ-≤ℤ_trans l o.0) o.1

module _ (x : ℤ) (q : Point) (qs : List Point) (h : q.at ≤ℤ x) where
  past : (a : ℤ) (ps : List Point) → Ordered a (ps ++ (q ∷ qs)) → lt_z x a ≡ false
  past a ps o = go (lt_z x a) refl
    where
      go : (b : Bool) → lt_z x a ≡ b → lt_z x a ≡ false
      go true e = clash_ℤ (stays x a ps q qs (below x a e) o) h
      go false e = e

  from_skip : (p : Point) (ps : List Point) → Ordered p.at (ps ++ (q ∷ qs)) → degree_from x p (ps ++ (q ∷ qs)) ≡ degree_from x q qs
  unfolding degree_from
  from_skip p [] o = rw (lt_fails x q.at h)
  from_skip p (r ∷ rs) o = rw (past r.at rs o.1) (from_skip r rs o.1)

  -- only the points from q on count
  skip : (ps : List Point) → InOrder (ps ++ (q ∷ qs)) → term_degree (ps ++ (q ∷ qs)) x ≡ degree_from x q qs
  unfolding term_degree
  skip [] r = rw (lt_fails x q.at h)
  skip (p ∷ ps) r = let o = ordered [] p (ps ++ (q ∷ qs)) r in rw (past p.at ps o) (from_skip p ps o)

between_neighbours : (os : List Point) (p q : Point) (rs : List Point) (x : ℤ) → InOrder (os ++ (p ∷ q ∷ rs)) → p.at ≤ℤ x → x <ℤ q.at
    → term_degree (os ++ (p ∷ q ∷ rs)) x ≡ on_line x p q
unfolding degree_from
between_neighbours os p q rs x r h l = skip x p (q ∷ rs) h os r ∙ rw (lt_passes x q.at l)

below_first : (p : Point) (rs : List Point) (x : ℤ) → x <ℤ p.at → term_degree (p ∷ rs) x ≡ p.degree
unfolding term_degree
below_first p rs x l = rw (lt_passes x p.at l)

from_last : (os : List Point) (p : Point) (x : ℤ) → InOrder (os ++ (p ∷ [])) → p.at ≤ℤ x → term_degree (os ++ (p ∷ [])) x ≡ p.degree
unfolding degree_from
from_last os p x r h = skip x p [] h os r

-- at a point's own position the line has its degree
own : (p q : Point) → InCrisp p.at → InCrisp q.at → p.at <ℤ q.at → on_line p.at p q ≡ p.degree
own p q ip iq l =
    let a = above_lt p.at q.at ip iq l in
    let w = above q.at - above p.at in
    let n = p.degree * w + q.degree * (above p.at - above p.at) in
    let z : q.degree * (above p.at - above p.at) ≡ 0 = ap (λ (k : ℕ). q.degree * k) (omega arith) ∙ mul-zero q.degree in
    let s : 0 < w = omega arith in
    let up = nearest_le p.degree n w s (omega (arith, z)) in
    let down = nearest_ge p.degree n w s (omega (arith, z)) in
    line.naturals p.at p q ip ip iq (≤ℤ_refl p.at) l ∙ omega (arith, up, down)

-- at a position that two points share, no third is there
at_shared : (os : List Point) (p q : Point) (rs : List Point) → InOrder (os ++ (p ∷ q ∷ rs)) → Each (λ r. InCrisp r.at) (q ∷ rs)
    → p.at ≡ q.at → term_degree (os ++ (p ∷ q ∷ rs)) q.at ≡ q.degree
unfolding degree_from
at_shared os p q rs h c e =
    skip q.at p (q ∷ rs) (subst (λ (z : ℤ). z ≤ℤ q.at) (sym e) (≤ℤ_refl q.at)) os h ∙ rw (lt_fails q.at q.at (≤ℤ_refl q.at)) (go rs h c)
  where
    go : (rs : List Point) → InOrder (os ++ (p ∷ q ∷ rs)) → Each (λ r. InCrisp r.at) (q ∷ rs) → degree_from q.at q rs ≡ q.degree
    go [] k c = refl
    go (r ∷ rs) k c =
        let o = ap (in_order []) (sym (map-append (λ p. p.at) os (p ∷ q ∷ r ∷ rs))) ∙ k in
        let l : q.at <ℤ r.at = subst (λ (z : ℤ). z <ℤ r.at) e (no_third [] (positions os) p.at q.at r.at (positions rs) o) in
        rw (lt_passes q.at r.at l) (own q r c.0 c.1.0 l)

-- CRISP VALUES
points_crisp : (ps : List Point) → all point_ok ps ≡ true → Each (λ r. InCrisp r.at) ps
unfolding all point_ok
points_crisp [] h = tt
points_crisp (p ∷ ps) h =
    let c = both (point_ok p) (all point_ok ps) h in
    (leb-true _ _ (both (in_crisp p.at) (unit_ok p.degree) c.0).0, points_crisp ps c.1)

after : (os rs : List Point) → all point_ok (os ++ rs) ≡ true → Each (λ r. InCrisp r.at) rs
after os rs h = points_crisp rs (both (all point_ok os) (all point_ok rs) (sym (all_append point_ok os rs) ∙ h)).1

-- THE CLAIM
module _ (ps : List Point) (fine : all point_ok ps ≡ true) (r : InOrder ps) where
  edges_hold : EdgesHold ps
  edges_hold = record {
    shared = λ os p q rs e s.
        subst (λ (l : List Point). term_degree l q.at ≡ q.degree) (sym e) (at_shared os p q rs (order e) (after os (p ∷ q ∷ rs) (crisp e)).1 s);
    first = λ p rs x e l. subst (λ (l : List Point). term_degree l x ≡ p.degree) (sym e) (below_first p rs x l);
    last = λ os p x e h. subst (λ (l : List Point). term_degree l x ≡ p.degree) (sym e) (from_last os p x (order e) h);
    within_half = λ os p q rs x e h l.
        let c = after os (p ∷ q ∷ rs) (crisp e) in
        let d : term_degree ps x ≡ on_line x p q = ap (λ (l : List Point). term_degree l x) e ∙ between_neighbours os p q rs x (order e) h l in
        subst (λ (n : ℕ). WithinHalf n x p q) (sym d)
        (line.within_half x p q (amid p.at x q.at c.0 c.1.0 h l) c.0 c.1.0 h l);
  }
    where
      order : {l : List Point} → ps ≡ l → InOrder l
      order e = ap (λ (l : List Point). in_order [] (positions l)) (sym e) ∙ r

      crisp : {l : List Point} → ps ≡ l → all point_ok l ≡ true
      crisp e = ap (all point_ok) (sym e) ∙ fine

pub sharp_edges : SharpEdges
unfolding term_ok
sharp_edges = record {
  places = places;
  degrees = λ t h. let c = passed _ h in edges_hold t.points c.1.1.0 c.1.1.1.0;
}
