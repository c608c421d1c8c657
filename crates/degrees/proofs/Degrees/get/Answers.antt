use native.Mathlib.Omega.{arith}
use Rattle.degrees.proofs.Tables.{number_at}
use Rattle.degrees.proofs.Degrees.get.Goals as goal

pub returns : goal.returns
returns g c =
    let self = c.args.self.now in
    let e = number_at self.at c.args.i in
    (e, omega (arith, e, self.low c.args.i))
