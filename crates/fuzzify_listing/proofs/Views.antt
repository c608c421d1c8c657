-- The first points of an array, as a table.
use mathlib.Core.Path.{◌≡◌, refl, sym, ap, ◌∙◌}
use lib.Seq.{take_all}
use mathlib.Core.List.{List, [], ◌∷◌, map}
use Prim.Native.Nat.{ℕ, zero, suc, ◌+◌, ◌≤◌}
use native.Mathlib.Omega.{arith}
use lib.ListN.{length, take, get_or}
use Rattle.model.specs.Basic.{tab}
use Rattle.model.specs.Block.{Point as BlockPoint}
use Rattle.laws.proofs.Lists.{map_tab}
use Rattle.laws.proofs.Places.{tab_ext}
use Rattle.model.specs.declared.Point.{Point}
use Rattle.terms.specs.Points.{point_view, point_at, point_views}

front : {A : Type 0} (d : A) (n : ℕ) (xs : List A) → n ≤ length xs → take n xs ≡ tab (λ k. get_or xs k d) n 0
unfolding tab
front d zero xs h = refl
front d (suc n) [] h = absurd (omega arith)
front {A} d (suc n) (x ∷ xs) h =
    ap (λ (l : List A). x ∷ l)
    (front d n xs (omega arith)
    ∙ tab_ext (λ k. get_or xs k d) (λ k. get_or (x ∷ xs) k d) n 0 1 (λ k l. shifted k))
  where
    shifted : (k : ℕ) → get_or xs (0 + k) d ≡ get_or (x ∷ xs) (1 + k) d
    shifted k =
        let a : 0 + k ≡ k = omega arith in
        let b : 1 + k ≡ suc k = omega arith in
        rw (a, b) refl

abbrev pub view_at : List Point → ℕ → BlockPoint
view_at ps k = point_view (point_at ps k)

pub views : (ps : List Point) (n : ℕ) → n ≤ length ps → point_views ps n ≡ tab (view_at ps) n 0
views ps n h = ap (map point_view) (front _ n ps h) ∙ map_tab point_view (point_at ps) n 0

pub views_all : (ps : List Point) → map point_view ps ≡ tab (view_at ps) (length ps) 0
views_all ps = ap (map point_view) (sym (take_all (length ps) ps (omega arith))) ∙ views ps (length ps) (omega arith)
