use native.Mathlib.Omega.{arith}
use lib.IntN.{pos, ◌+ℤ◌}
use mir.Syntax.{w32}
use mir.ValLaws.{to_z-of_z}
use Rattle.model.specs.Bounds.{crisp_limit}
use Rattle.crisp.proofs.Laws.{crisp_sfits, lifted_sfits, above_is, above_le}
use Rattle.crisp.proofs.lift.Goals as goal

pub overflow_add-result : goal.overflow_add-result
overflow_add-result c =
    let z = c.args.x.0 in
    rw (to_z-of_z w32 z (crisp_sfits z c.requires)) (lifted_sfits z c.requires)

pub overflow_cast-result : goal.overflow_cast-result
overflow_cast-result c =
    let z = c.args.x.0 in
    rw (to_z-of_z w32 z (crisp_sfits z c.requires), to_z-of_z w32 (z +ℤ pos crisp_limit) (lifted_sfits z c.requires), above_is z c.requires)
    (tt, record { fits = omega (arith, above_le z c.requires) })

pub returns : goal.returns
returns c =
    let z = c.args.x.0 in
    rw (to_z-of_z w32 z (crisp_sfits z c.requires), to_z-of_z w32 (z +ℤ pos crisp_limit) (lifted_sfits z c.requires))
    (omega (arith, above_le z c.requires))
