use mathlib.Core.Path.{refl, sym, ◌∙◌}
use Prim.Native.Nat.{◌-◌, ◌*◌, ◌^◌}
use native.Mathlib.Omega.{arith}
use lib.Dec.{lit≤}
use Rattle.model.specs.Bounds.{crisp_limit}
use Rattle.readings.specs.Fields.{magnitude_of}
use Rattle.readings.proofs.Cases.{large, tiny, middle, min_high}
use Rattle.readings.proofs.magnitude.Goals as goal

pub returns-then-k-ge149 : goal.returns-then-k-ge149
returns-then-k-ge149 c =
    let a = c.args in
    let p = c.requires in
    let v = magnitude_of a.down (1000 * (a.q * 2 ^ a.k)) (2 ^ 149) in
    (min_high v v crisp_limit refl (large a.down a.q a.k p.0 (p.2 (omega arith)) c.if-k-ge149.true), lit≤ tt)

pub returns-then-j-gt40 : goal.returns-then-j-gt40
returns-then-j-gt40 c =
    let a = c.args in
    let p = c.requires in
    (rw (tiny a.down a.q a.k p.1 (omega arith)), lit≤ tt)

pub overflow_sub-q : goal.overflow_sub-q
overflow_sub-q c = omega (arith, c.requires.2 (omega arith))

pub returns : goal.returns
returns c =
    let a = c.args in
    let e = c.nearest_shift.ensures ∙ middle a.down a.q a.k (149 - a.k) c.requires.0 (omega arith) in
    let m = c.min.ensures in
    (rw (sym e) m, omega (arith, m))
