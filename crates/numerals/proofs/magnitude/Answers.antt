use mathlib.Core.Path.{sym}
use native.Mathlib.Omega.{arith}
use borrow.Author.Tests.{lt-leb}
use Rattle.numerals.proofs.Digits.{parts}
use Rattle.numerals.proofs.magnitude.Goals as goal

pub returns-then-n-most : goal.returns-then-n-most
returns-then-n-most c =
    let q = parts c.args.w.now c.unsigned-w.result.now c.digits_end-point.result c.min.result c.unsigned-w.ensures (omega (arith, c.digits_end-point.ensures.value))
    c.min.ensures c.if-whole-gt-DIGITS.false c.if-fraction-gt-FRACTION.false _ _ c.decimal.ensures.0 c.thousandths.ensures.0 in
    (q.0, q.1, c.if-n-most.true)

pub returns-else-n-most : goal.returns-else-n-most
returns-else-n-most c =
    let q = parts c.args.w.now c.unsigned-w.result.now c.digits_end-point.result c.min.result c.unsigned-w.ensures (omega (arith, c.digits_end-point.ensures.value))
    c.min.ensures c.if-whole-gt-DIGITS.false c.if-fraction-gt-FRACTION.false _ _ c.decimal.ensures.0 c.thousandths.ensures.0 in
    rw (q.0, sym q.1) (lt-leb _ _ c.if-n-most.false)
