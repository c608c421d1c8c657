use mathlib.Core.Path.{sym}
use native.Mathlib.Omega.{arith}
use Rattle.numerals.proofs.Values as values
use Rattle.numerals.proofs.unit.Goals as goal

pub returns-in_err-n : goal.returns-in_err-n
returns-in_err-n c = rw (c.from_residual.ensures, values.unit_by c.args.w.now, sym c.unit_limit.ensures.0) c.in_err-n.ensures

pub returns : goal.returns
returns c =
    let n = c.in_ok-n in
    values.unit_is c.args.w.now n.n n.ensures.0 n.ensures.1 (omega (arith, c.unit_limit.ensures.0, n.ensures.2))
