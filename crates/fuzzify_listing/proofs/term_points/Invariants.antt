use mathlib.Core.Path.{◌≡◌}
use lib.ListN.{length}
use Rattle.model.specs.Basic.{tab}
use Rattle.model.specs.Bounds.{point_limit}
use Rattle.model.specs.Image.{word_at, point_at}
use Rattle.terms.specs.Points.{point_views}
use Rattle.fuzzify_listing.proofs.term_points.Given as goal

abbrev pub invariant-loop-k : goal.invariant-loop-k
invariant-loop-k l = (length l.ps ≡ point_limit) × (point_views l.ps l.k ≡ tab (point_at (word_at l.image.bytes.now)) l.k l.first)
