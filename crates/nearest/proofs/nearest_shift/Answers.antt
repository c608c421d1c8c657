use Prim.Native.Nat.{◌^◌, ◌≤◌}
use native.Mathlib.Omega.{arith}
use lib.Pow.{pow_mono}
use mir.Facts.{Fits-below}
use Rattle.long_quotient.proofs.Shifts.{one_shifted}
use Rattle.nearest.proofs.Powers.{nearest_power}
use Rattle.nearest.proofs.nearest_shift.Goals as goal

pub overflow_add-result : goal.overflow_add-result
overflow_add-result c =
    let j = c.args.j in
    let p : 2 ^ j ≤ 2 ^ 60 = pow_mono c.requires.1 in
    rw (one_shifted j (omega arith)) (Fits-below {n = 9223372036854775808} tt (omega arith))

pub returns : goal.returns
returns c = rw (one_shifted c.args.j (omega arith)) (nearest_power c.args.a c.args.j)
