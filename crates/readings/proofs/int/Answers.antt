use mathlib.Core.Path.{refl}
use mathlib.Core.Bool.{true}
use Prim.Native.Nat.{suc, ◌*◌}
use native.Mathlib.Omega.{arith}
use lib.IntN.{ℤ, pos, negsuc, ◌*ℤ◌}
use mir.Syntax.{w16, w32}
use mir.Val.{SFits}
use mir.ValLaws.{to_z-of_z}
use Rattle.crisp.specs.Crisp.{InCrisp}
use Rattle.crisp.proofs.Laws.{crisp_sfits}
use Rattle.readings.proofs.Rounding.{signed_crisp}
use Rattle.readings.proofs.int.Goals as goal

wider : (z : ℤ) → SFits w16 z → SFits w32 z
wider (pos n) h = record { sfits = omega (arith, h.sfits) }
wider (negsuc n) h = record { sfits = omega (arith, h.sfits) }

times_crisp : (z : ℤ) → SFits w16 z → InCrisp (z *ℤ pos 1000)
times_crisp (pos n) h = omega (arith, h.sfits)
times_crisp (negsuc n) h = signed_crisp true (suc n * 1000) (omega (arith, h.sfits))

pub overflow_cast-result : goal.overflow_cast-result
overflow_cast-result c =
    let n = c.args.n in
    rw (to_z-of_z w16 n c.ranges.n) (wider n c.ranges.n)

pub overflow_mul-result : goal.overflow_mul-result
overflow_mul-result c =
    let n = c.args.n in
    rw (to_z-of_z w16 n c.ranges.n, to_z-of_z w32 n (wider n c.ranges.n)) (crisp_sfits (n *ℤ pos 1000) (times_crisp n c.ranges.n))

pub returns : goal.returns
returns c =
    let n = c.args.n in
    let i = times_crisp n c.ranges.n in
    rw (to_z-of_z w16 n c.ranges.n, to_z-of_z w32 n (wider n c.ranges.n), to_z-of_z w32 (n *ℤ pos 1000) (crisp_sfits (n *ℤ pos 1000) i)) (refl, i)
