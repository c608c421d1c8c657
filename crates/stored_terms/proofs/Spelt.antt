-- A stored term's tests are those of the term that it stands for.
use mathlib.Core.Path.{◌≡◌, sym}
use mathlib.Core.List.{[], map}
use mathlib.Core.Bool.{true, ◌&&◌}
use Prim.Native.Nat.{ℕ, ◌+◌}
use Rattle.model.specs.Basic.{between, every, all, tab}
use Rattle.model.specs.Bounds.{point_least, point_limit}
use Rattle.model.specs.Tokens.{is_name}
use Rattle.model.specs.WellFormed.{point_ok, in_order, term_ok}
use Rattle.model.specs.Image.{term_place, name_at, point_at, term_at}
use Rattle.laws.proofs.Places.{length_tab}
use Rattle.laws.proofs.Tests.{and_assoc}
use Rattle.term_points.specs.Points.{points_after}
use Rattle.stored_terms.specs.Stored.{term_stored}

-- a count is the length of what is read by it
pub term_spelt : (w : ℕ → ℕ) (t : ℕ) → term_stored w t ≡ term_ok (term_at w t)
unfolding term_stored term_ok term_at points_after every
term_spelt w t =
    let o = term_place w t in
    let ps = tab (point_at w) (w (o + 5)) (w (o + 4)) in
    let long = length_tab (point_at w) (w (o + 5)) (w (o + 4)) in
    λ j.
    is_name (name_at w o)
    && (between point_least point_limit (sym long j) && and_assoc (all point_ok ps) (in_order [] (map (λ p. p.at) ps)) true j)
