use mathlib.Core.Path.{sym, ◌∙◌}
use native.Mathlib.Omega.{arith}
use Rattle.numerals.proofs.Digits as laws
use Rattle.numerals.proofs.decimal.Goals as goal

pub loop-c-preserved : goal.loop-c-preserved
loop-c-preserved c =
    let l = c.loop-c in
    record {
      small = laws.small_more l.n c.digit.result l.c-index c.digit.ensures.1 l.invariant.small;
      rest = (rw c.digit.ensures.0 (laws.decimal_more c.args.w.now l.n l.c-index c.loop-c-test.true)) ∙ l.invariant.rest;
    }

pub returns : goal.returns
returns c =
    let w = c.args.w.now in
    let l = c.loop-c in (
      sym (laws.decimal_end w l.n l.c-index (omega arith)) ∙ l.invariant.rest,
      laws.small_end l.n l.c-index (omega arith) l.invariant.small,
    )
