use mathlib.Core.Path.{◌≡◌}
use Prim.Native.Nat.{◌*◌, ◌-◌, ◌≤◌, ◌<◌}
use native.Mathlib.Omega.{arith}
use Rattle.model.specs.Bounds.{M}
use Rattle.model.specs.Degrees.{on_line}
use Rattle.crisp.proofs.Laws.{above_mono, above_lt}
use Rattle.terms.specs.Points.{point_view}
use Rattle.terms.proofs.Line.{product_le, naturals, between}
use Rattle.terms.proofs.on_line.Goals as goal
use Rattle.terms.proofs.on_line.Goals.{After-lift-a2, After-nearest_quotient-r}

-- the order of the three distances, and what the two products come to
facts : (c : After-lift-a2) →
    let s = c.args in
    let a1 = c.lift-a1.result in
    let a = c.lift-a.result in
    let a2 = c.lift-a2.result in
    (a1 ≤ a) × (a < a2) × (s.p.degree.0 * (a2 - a) ≤ 2000000000000000) × (s.q.degree.0 * (a - a1) ≤ 2000000000000000)
facts c =
    let a = c.args in
    let i = c.requires.in_crisp in
    let e1 = c.lift-a1.ensures in
    let e = c.lift-a.ensures in
    let e2 = c.lift-a2.ensures in (
      omega (arith, e1, e, above_mono a.p.at.0 a.x.0 i.1.0 i.0 c.requires.at_le_x.0),
      omega (arith, e, e2, above_lt a.x.0 a.q.at.0 i.0 i.2.0 c.requires.at_le_x.1),
      product_le a.p.degree.0 (c.lift-a2.result - c.lift-a.result) i.1.1 (omega (arith, e2)),
      product_le a.q.degree.0 (c.lift-a.result - c.lift-a1.result) i.2.1 (omega (arith, e)),
    )

module _ (c : After-nearest_quotient-r) where
  is_line : let a = c.args in c.nearest_quotient-r.result ≡ on_line a.x.0 (point_view a.p)
      (point_view a.q)
  is_line =
      let a = c.args in
      let i = c.requires.in_crisp in
      rw (
        naturals a.x.0 (point_view a.p) (point_view a.q) i.0 i.1.0 i.2.0 c.requires.at_le_x.0
            c.requires.at_le_x.1,
        ← c.lift-a1.ensures.0,
        ← c.lift-a.ensures.0,
        ← c.lift-a2.ensures.0,
      )
      c.nearest_quotient-r.ensures

  result_le : c.nearest_quotient-r.result ≤ M
  result_le =
      let a = c.args in
      let i = c.requires.in_crisp in
      omega (arith, is_line, between a.x.0 (point_view a.p) (point_view a.q) i.0 i.1.0 i.2.0 c.requires.at_le_x.0 c.requires.at_le_x.1, i.1.1, i.2.1)

pub overflow_sub-n : goal.overflow_sub-n
overflow_sub-n c = omega (arith, facts (goal.at.overflow_sub-n c).After-lift-a2)

pub overflow_mul-n : goal.overflow_mul-n
overflow_mul-n c = omega (arith, facts (goal.at.overflow_mul-n c).After-lift-a2)

pub overflow_sub-n-2 : goal.overflow_sub-n-2
overflow_sub-n-2 c = omega (arith, facts (goal.at.overflow_sub-n-2 c).After-lift-a2)

pub overflow_mul-n-2 : goal.overflow_mul-n-2
overflow_mul-n-2 c = omega (arith, facts (goal.at.overflow_mul-n-2 c).After-lift-a2)

pub overflow_add-n : goal.overflow_add-n
overflow_add-n c = omega (arith, facts (goal.at.overflow_add-n c).After-lift-a2)

pub overflow_sub-a2 : goal.overflow_sub-a2
overflow_sub-a2 c = omega (arith, facts (goal.at.overflow_sub-a2 c).After-lift-a2)

pub nearest_quotient-r-requires : goal.nearest_quotient-r-requires
nearest_quotient-r-requires c = omega (arith, facts (goal.at.nearest_quotient-r-requires c).After-lift-a2)

pub overflow_cast-r : goal.overflow_cast-r
overflow_cast-r c = omega (arith, result_le (goal.at.overflow_cast-r c).After-nearest_quotient-r)

pub returns : goal.returns
returns c = (is_line (goal.at.returns c).After-nearest_quotient-r, result_le (goal.at.returns c).After-nearest_quotient-r)
