-- Points one by one, each after the positions before it.
use mathlib.Core.Path.{◌≡◌, sym, ap, ◌∙◌, subst}
use mathlib.Core.Bool.{Bool, true, false, ◌&&◌, and-false}
use mathlib.Core.List.{List, [], ◌∷◌, ◌++◌, map-append}
use Prim.Native.Nat.{ℕ, suc, ◌+◌, ◌-◌, ◌≤◌, ◌<◌}
use native.Mathlib.Omega.{arith}
use lib.IntN.{ℤ}
use Rattle.model.specs.Basic.{all, tab}
use Rattle.model.specs.Block.{Point, may_follow}
use Rattle.model.specs.WellFormed.{point_ok, in_order}
use Rattle.laws.proofs.Places.{step, gone, tab_last}
use Rattle.laws.proofs.Positions.{positions}
use Rattle.term_rules.specs.declared.LastTwo.{LastTwo}
use Rattle.term_rules.specs.Positions.{last_with, Ends}
use Rattle.term_rules.proofs.Laws.{ends_none, ends_more}
use Rattle.term_points.specs.Points.{points_after}

module _ (before : List ℤ) (p : Point) (ps : List Point) where
  not_right : point_ok p ≡ false → points_after before (p ∷ ps) ≡ false
  unfolding points_after all
  not_right h = simp h

  no_place : may_follow before p.at ≡ false → points_after before (p ∷ ps) ≡ false
  unfolding points_after in_order
  no_place h = ap (λ (b : Bool). all point_ok (p ∷ ps) && (b && in_order (before ++ (p.at ∷ [])) (positions ps))) h ∙ and-false (all point_ok (p ∷ ps))

  goes_on_lem : point_ok p ≡ true → may_follow before p.at ≡ true → points_after before (p ∷ ps) ≡ points_after (before ++ (p.at ∷ [])) ps
  unfolding points_after all in_order
  goes_on_lem h k = simp (h, k)

-- the positions of i points from s on, and what is left of k
abbrev pub taken : (ℕ → Point) → ℕ → ℕ → List ℤ
taken f s i = positions (tab f i s)

abbrev pub left : (ℕ → Point) → ℕ → ℕ → ℕ → List Point
left f s k i = tab f (k - i) (s + i)

module _ (f : ℕ → Point) (s k i : ℕ) where
  next : i < k → left f s k i ≡ f (s + i) ∷ left f s k (i + 1)
  unfolding tab
  next h =
      let q : suc (s + i) ≡ s + (i + 1) = omega arith in
      ap (λ (m : ℕ). tab f m (s + i)) (step k i h) ∙ ap (λ (m : ℕ). f (s + i) ∷ tab f (k - (i + 1)) m) q

  taken_more : taken f s (i + 1) ≡ taken f s i ++ ((f (s + i)).at ∷ [])
  taken_more =
      let q : i + 1 ≡ suc i = omega arith in
      ap (λ (m : ℕ). positions (tab f m s)) q ∙ ap positions (tab_last f i s) ∙ map-append (λ p. p.at) (tab f i s) (f (s + i) ∷ [])

  pub ends_next : (last : LastTwo) (y : ℤ) → y ≡ (f (s + i)).at → Ends (taken f s i) i last → Ends (taken f s (i + 1)) (i + 1) (last_with last y)
  ends_next last y e h =
      let more = ap (λ (x : ℤ). taken f s i ++ (x ∷ [])) e ∙ sym taken_more in
      subst (λ (ps : List ℤ). Ends ps (i + 1) (last_with last y)) more (ends_more (taken f s i) i last y h)

  module _ (h : i < k) where
    pub point_bad : point_ok (f (s + i)) ≡ false → points_after (taken f s i) (left f s k i) ≡ false
    point_bad e = ap (points_after (taken f s i)) (next h) ∙ not_right (taken f s i) (f (s + i)) _ e

    pub place_bad : may_follow (taken f s i) (f (s + i)).at ≡ false → points_after (taken f s i) (left f s k i) ≡ false
    place_bad e = ap (points_after (taken f s i)) (next h) ∙ no_place (taken f s i) (f (s + i)) _ e

    pub point_good : point_ok (f (s + i)) ≡ true → may_follow (taken f s i) (f (s + i)).at ≡ true
        → points_after (taken f s i) (left f s k i) ≡ points_after (taken f s (i + 1)) (left f s k (i + 1))
    point_good e g =
        ap (points_after (taken f s i)) (next h) ∙ goes_on_lem (taken f s i) (f (s + i)) _ e g
        ∙ ap (λ (b : List ℤ). points_after b (left f s k (i + 1))) (sym taken_more)

  pub points_end : k ≤ i → points_after (taken f s i) (left f s k i) ≡ true
  unfolding points_after all in_order tab
  points_end h = ap (λ (m : ℕ). points_after (taken f s i) (tab f m (s + i))) (gone k i h)

pub points_start : (f : ℕ → Point) (s k : ℕ) → points_after (taken f s 0) (left f s k 0) ≡ points_after [] (tab f k s)
unfolding tab
points_start f s k =
    let n : k - 0 ≡ k = omega arith in
    let o : s + 0 ≡ s = omega arith in
    λ j. points_after [] (tab f (n j) (o j))

pub ends_first : (f : ℕ → Point) (s : ℕ) (last : LastTwo) → Ends (taken f s 0) 0 last
unfolding tab
ends_first f s last = ends_none last
