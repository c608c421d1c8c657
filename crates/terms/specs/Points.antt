-- A helper: the points of a term as the code holds them, and as a block has them. `stored_points::point_at_lem` ties them to
-- model's `point_at`, `fine` of membership/proofs/Entries to its `point_ok`.
use Rattle.std.specs.Prelude.{List, map, ℕ, ◌≤◌, pos, get_or, take}
use Rattle.model.specs.Bounds.{M}
use Rattle.model.specs.Block.{Point as BlockPoint}
use Rattle.crisp.specs.Crisp.{InCrisp}
use Rattle.model.specs.declared.Point.{Point}

abbrev pub point_view : Point → BlockPoint
point_view p = record { at = p.at.0; degree = p.degree.0 }

abbrev pub PointOk : Point → Type 0
PointOk p = InCrisp p.at.0 × (p.degree.0 ≤ M)

abbrev pub no_point : Point
no_point = record { at = record { 0 = pos 0 }; degree = record { 0 = 0 } }

abbrev pub point_at : List Point → ℕ → Point
point_at ps k = get_or ps k no_point

-- of the first n
abbrev pub point_views : List Point → ℕ → List BlockPoint
point_views ps n = map point_view (take n ps)
