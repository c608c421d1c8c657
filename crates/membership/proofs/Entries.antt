-- Of a point that is accepted.
use mathlib.Core.Path.{◌≡◌}
use mathlib.Core.Bool.{true, ◌&&◌}
use Prim.Native.Nat.{◌%◌, ◌≤◌}
use borrow.Author.Tests.{leb-true}
use lib.Dec.{leb, eqb}
use lib.IntN.{nat_abs}
use Rattle.model.specs.Bounds.{M, crisp_limit}
use Rattle.model.specs.Block.{Point as BlockPoint}
use Rattle.model.specs.WellFormed.{unit_ok, point_ok}
use Rattle.laws.proofs.Tests.{both}
use Rattle.model.specs.declared.Point.{Point}
use Rattle.terms.specs.Points.{PointOk, point_view}

pub fine : (p : Point) → point_ok (point_view p) ≡ true → PointOk p
unfolding point_ok unit_ok
fine p h =
    let d = p.degree.0 in
    let b = both (leb (nat_abs p.at.0) crisp_limit) (leb d M && eqb (d % 1000) 0) h in
    (leb-true _ _ b.0, leb-true d M (both (leb d M) (eqb (d % 1000) 0) b.1).0)

pub low : (p : BlockPoint) → point_ok p ≡ true → p.degree ≤ M
low p h = (fine (record { at = record { 0 = p.at }; degree = record { 0 = p.degree } }) h).1
