use native.Mathlib.Omega.{arith}
use Rattle.tokens.proofs.Laws.{number}
use Rattle.tokens.proofs.number_part.Goals as goal

pub digits_end-requires : goal.digits_end-requires
digits_end-requires c =
    let h = c.point_at.ensures.within c.if-point_at.true in
    omega arith

pub returns-then-point_at : goal.returns-then-point_at
returns-then-point_at c =
    let p = number _ _ _ _ c.digits_end-e.ensures.value (rw c.if-point_at.true at c.point_at.ensures.s_value) in
    record {
      value = omega (arith, p, c.digits_end.ensures.value);
      within = omega arith;
    }

pub returns : goal.returns
returns c =
    let p = number _ _ _ _ c.digits_end-e.ensures.value (rw c.if-point_at.false at c.point_at.ensures.s_value) in
    record {
      value = omega (arith, p);
      within = omega arith;
    }
