use mathlib.Core.Path.{refl}
use native.Mathlib.Omega.{arith}
use lib.IntN.{sub_ℕ}
use mir.Syntax.{w32}
use mir.ValLaws.{to_z-of_z, to_z_pos}
use Rattle.model.specs.Bounds.{crisp_limit}
use Rattle.crisp.proofs.Laws.{crisp_sfits, lowered}
use Rattle.crisp.proofs.lower.Goals as goal

pub overflow_sub-result : goal.overflow_sub-result
overflow_sub-result c = rw (to_z_pos w32 c.args.n (omega arith)) (crisp_sfits (sub_ℕ c.args.n crisp_limit) (lowered c.args.n c.requires))

pub returns : goal.returns
returns c =
    let n = c.args.n in
    rw (to_z_pos w32 n (omega arith), to_z-of_z w32 (sub_ℕ n crisp_limit) (crisp_sfits (sub_ℕ n crisp_limit) (lowered n c.requires)))
    (refl, lowered n c.requires)
