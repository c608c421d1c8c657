use mathlib.Core.Path.{◌≡◌}
use Prim.Native.Nat.{ℕ}
use native.Mathlib.Omega.{arith}
use Rattle.model.specs.Bounds.{M}
use Rattle.model.specs.Degrees.{prod_of}
use Rattle.degrees.proofs.Laws.{prod_fits}
use Rattle.degrees.proofs.prod.Goals as goal

-- the degree 1 leaves the other
by_one : (a : ℕ) → a ≡ prod_of a M
by_one a = omega arith

one_by : (b : ℕ) → b ≡ prod_of M b
one_by b = omega arith

pub returns-then-b-eq-ONE : goal.returns-then-b-eq-ONE
returns-then-b-eq-ONE c = (rw c.if-b-eq-ONE.true (by_one c.args.a.0), c.requires.0)

pub returns-then-a-eq-ONE : goal.returns-then-a-eq-ONE
returns-then-a-eq-ONE c = (rw c.if-a-eq-ONE.true (one_by c.args.b.0), c.requires.1)

pub overflow_mul-product : goal.overflow_mul-product
overflow_mul-product c = rw (c.from.ensures, c.from-2.ensures) (omega (arith, prod_fits c.args.a.0 c.args.b.0 c.requires.0 c.requires.1))

pub nearest_quotient-requires : goal.nearest_quotient-requires
nearest_quotient-requires c = rw (c.from.ensures, c.from-2.ensures) (omega (arith, prod_fits c.args.a.0 c.args.b.0 c.requires.0 c.requires.1))

pub overflow_cast-result : goal.overflow_cast-result
overflow_cast-result c =
    let e = rw (c.from.ensures, c.from-2.ensures) at c.nearest_quotient.ensures in
    omega (arith, e, prod_fits c.args.a.0 c.args.b.0 c.requires.0 c.requires.1)

pub returns : goal.returns
returns c =
    let e = rw (c.from.ensures, c.from-2.ensures) at c.nearest_quotient.ensures in
    omega (arith, e, prod_fits c.args.a.0 c.args.b.0 c.requires.0 c.requires.1)
