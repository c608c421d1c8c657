use mathlib.Core.Path.{◌≡◌}
use mathlib.Core.List.{[]}
use Rattle.model.specs.Basic.{tab}
use Rattle.model.specs.Image.{word_at, point_at}
use Rattle.term_rules.specs.Positions.{Ends}
use Rattle.term_points.specs.Points.{points_after}
use Rattle.term_points.proofs.Points.{taken, left}
use Rattle.term_points.proofs.points_ok.Given as goal

abbrev pub invariant-loop-i : goal.invariant-loop-i
invariant-loop-i l =
    let f = point_at (word_at l.image.bytes.now) in
    Ends (taken f l.s l.i) l.i l.last × (points_after (taken f l.s l.i) (left f l.s l.k l.i) ≡ points_after [] (tab f l.k l.s))
