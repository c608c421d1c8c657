use mathlib.Core.Path.{ap}
use Prim.Native.Nat.{ℕ, ◌/◌, ◌%◌, ◌^◌}
use lib.Dec.{eqb}
use Rattle.keywords.proofs.may_be.Goals as goal

pub returns : goal.returns
returns c = ap (λ (b : ℕ). eqb (b / 2 ^ c.args.n % 2) 1) c.lengths-b.ensures
