use mathlib.Core.Path.{◌≡◌}
use Prim.Native.Nat.{ℕ, ◌+◌, ◌*◌, ◌-◌, ◌%◌, ◌^◌, ◌<◌}
use native.Mathlib.Nat.{mul-pos}
use native.Mathlib.Omega.{arith}
use lib.Pow.{pow_pos}
use mir.Facts.{Fits-below}
use Rattle.nearest_laws.proofs.Laws.{rounded_up, rounded_down}
use Rattle.long_quotient.proofs.Shifts.{shifted, one_shifted, taken, quotient_le}
use Rattle.long_quotient.proofs.long_quotient.Goals as goal
use Rattle.long_quotient.proofs.long_quotient.Goals.{After-shift_below-k}

-- one turn: the two shifts, and what it makes of the invariant
module _ (c : After-shift_below-k) where
  abbrev a : ℕ
  a = c.args.a

  abbrev b : ℕ
  b = c.args.b

  abbrev q : ℕ
  q = c.loop-r.q

  abbrev r : ℕ
  r = c.loop-r.r

  abbrev k : ℕ
  k = c.shift_below-k.result

  few : r < 18446744073709551616
  few = omega arith

  minus : (b * 2 ^ k) % 18446744073709551616 ≡ b * 2 ^ k
  minus = shifted b k r c.shift_below-k.ensures.result_bound.0 few

  plus : (1 * 2 ^ k) % 18446744073709551616 ≡ 2 ^ k
  plus = one_shifted k c.shift_below-k.ensures.small

  turn : (q + 2 ^ k) * b + (r - b * 2 ^ k) ≡ a
  turn = taken a b q r k c.loop-r.invariant c.shift_below-k.ensures.result_bound.0

pub overflow_cast-r : goal.overflow_cast-r
overflow_cast-r c = Fits-below {n = 63} tt (omega (arith, c.shift_below-k.ensures.small))

pub overflow_shl-r : goal.overflow_shl-r
overflow_shl-r c = c.shift_below-k.ensures.small

pub overflow_sub-r : goal.overflow_sub-r
overflow_sub-r c = rw (minus (goal.at.overflow_sub-r c).After-shift_below-k) c.shift_below-k.ensures.result_bound.0

pub overflow_cast-q : goal.overflow_cast-q
overflow_cast-q c = Fits-below {n = 63} tt (omega (arith, c.shift_below-k.ensures.small))

pub overflow_shl-q : goal.overflow_shl-q
overflow_shl-q c = c.shift_below-k.ensures.small

pub overflow_add-q : goal.overflow_add-q
overflow_add-q c = rw (plus (goal.at.overflow_add-q c).After-shift_below-k) (Fits-below {n = 4611686018427387904} tt (omega (arith, quotient_le (a (goal.at.overflow_add-q c).After-shift_below-k) (b (goal.at.overflow_add-q c).After-shift_below-k) (q (goal.at.overflow_add-q c).After-shift_below-k + 2 ^ k (goal.at.overflow_add-q c).After-shift_below-k) (r (goal.at.overflow_add-q c).After-shift_below-k - b (goal.at.overflow_add-q c).After-shift_below-k * 2 ^ k (goal.at.overflow_add-q c).After-shift_below-k) (omega arith) (turn (goal.at.overflow_add-q c).After-shift_below-k))))

pub loop-r-smaller : goal.loop-r-smaller
loop-r-smaller c =
    let p : 0 < b (goal.at.loop-r-smaller c).After-shift_below-k = omega arith in
    let g : 0 < b (goal.at.loop-r-smaller c).After-shift_below-k * 2 ^ k (goal.at.loop-r-smaller c).After-shift_below-k = mul-pos p (pow_pos (k (goal.at.loop-r-smaller c).After-shift_below-k)) in
    rw (minus (goal.at.loop-r-smaller c).After-shift_below-k) (omega (arith, c.shift_below-k.ensures.result_bound.0))

pub loop-r-preserved : goal.loop-r-preserved
loop-r-preserved c = rw (minus (goal.at.loop-r-preserved c).After-shift_below-k, plus (goal.at.loop-r-preserved c).After-shift_below-k) (turn (goal.at.loop-r-preserved c).After-shift_below-k)

pub overflow_add-result : goal.overflow_add-result
overflow_add-result c =
    Fits-below {n = 4611686018427387905} tt (omega (arith, quotient_le c.args.a c.args.b c.loop-r.q c.loop-r.r (omega arith) c.loop-r.invariant))

pub returns-then-b-r : goal.returns-then-b-r
returns-then-b-r c =
    rounded_up c.args.a c.args.b c.loop-r.q c.loop-r.r c.loop-r.invariant (omega arith) c.if-b-r.true

pub returns-else-b-r : goal.returns-else-b-r
returns-else-b-r c =
    rounded_down c.args.a c.args.b c.loop-r.q c.loop-r.r c.loop-r.invariant c.if-b-r.false
