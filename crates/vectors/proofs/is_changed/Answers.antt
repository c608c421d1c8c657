use Rattle.std.proofs.Common.{sym, ap, ◌∙◌, arith, not}
use Rattle.vectors.proofs.Filled.{goes_on_lem, stops, ends}
use Rattle.vectors.proofs.is_changed.Goals as goal

pub returns-then-buf-i : goal.returns-then-buf-i
returns-then-buf-i c =
    let l = c.loop-i in
    sym (ap not (l.invariant.1 ∙ stops 165 c.args.buf.now l.i c.loop-i-test.true c.if-buf-i.true))

pub loop-i-preserved : goal.loop-i-preserved
loop-i-preserved c =
    let l = c.loop-i in
    (omega (arith, l.invariant.0), l.invariant.1 ∙ goes_on_lem 165 c.args.buf.now l.i c.loop-i-test.true c.if-buf-i.false)

pub returns : goal.returns
returns c =
    let l = c.loop-i in
    sym (ap not (l.invariant.1 ∙ ends 165 c.args.buf.now l.i c.loop-i-test.false))
