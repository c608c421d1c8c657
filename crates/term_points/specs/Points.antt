-- A helper: points as model's `term_ok` tests them, after positions that stand before them; `term_spelt` of
-- stored_terms/proofs/Spelt ties it to that.
use Rattle.std.specs.Prelude.{Bool, ◌&&◌, List, map, ℤ}
use Rattle.model.specs.Basic.{all}
use Rattle.model.specs.Block.{Point}
use Rattle.model.specs.WellFormed.{point_ok, in_order}

-- these points after the positions before: each is right, and the positions are in order
unfoldable pub points_after : List ℤ → List Point → Bool
points_after before ps = all point_ok ps && in_order before (map (λ p. p.at) ps)
