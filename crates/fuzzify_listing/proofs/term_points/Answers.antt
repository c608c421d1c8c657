use mathlib.Core.Path.{◌≡◌, refl, sym, ap, ◌∙◌}
use mathlib.Core.List.{List, [], ◌∷◌, ◌++◌, map, map-append}
use Prim.Native.Nat.{ℕ, ◌+◌, ◌<◌}
use native.Mathlib.Numerals.{add-one}
use native.Mathlib.Omega.{arith}
use lib.ListN.{length, take, set, length-set}
use lib.Seq.{take-suc-set}
use Rattle.model.specs.Basic.{tab}
use Rattle.model.specs.Image.{word_at, point_at}
use Rattle.model.specs.declared.Point.{Point}
use Rattle.terms.specs.Points.{point_view, point_views}
use Rattle.laws.proofs.Lists.{tab_append}
use Rattle.fuzzify_listing.proofs.term_points.Goals as goal

one_more : (ps : List Point) (k : ℕ) (p : Point) → k < length ps → point_views (set ps k p) (k + 1) ≡ point_views ps k ++ (point_view p ∷ [])
one_more ps k p h = rw add-one (ap (map point_view) (take-suc-set ps k p h) ∙ map-append point_view (take k ps) (p ∷ []))

pub loop-k-init : goal.loop-k-init
unfolding tab
loop-k-init c = (refl, refl)

pub loop-k-preserved : goal.loop-k-preserved
unfolding tab
loop-k-preserved c =
    let l = c.loop-k in
    let a = c.args in
    let f = point_at (word_at a.image.now.bytes.now) in
    let p = c.point_at in (
      length-set l.ps l.k p.result ∙ l.invariant.0,
      one_more l.ps l.k p.result (omega (arith, l.invariant.0))
          ∙ (λ j. l.invariant.1 j ++ (p.ensures j ∷ []))
          ∙ sym (tab_append f l.k 1 a.first),
    )
