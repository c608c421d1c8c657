use native.Mathlib.Omega.{arith}
use Rattle.degrees.proofs.Laws.{prod_fits}
use Rattle.degrees.proofs.asum.Goals as goal

pub returns : goal.returns
returns c = omega (arith, prod_fits c.args.a.0 c.args.b.0 c.requires.0 c.requires.1)
