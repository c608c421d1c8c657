use mathlib.Core.Path.{refl, sym, ◌∙◌}
use native.Mathlib.Omega.{arith}
use Rattle.tokens.proofs.Laws.{word_more, word_none}
use Rattle.tokens.proofs.word_of.Goals as goal

pub loop-i-init : goal.loop-i-init
loop-i-init c = (omega arith, refl)

pub returns-then-not-goes_on-clause-end_value : goal.returns-then-not-goes_on-clause-end_value
returns-then-not-goes_on-clause-end_value c =
    let l = c.loop-i in
    let e = c.stopped.ensures.end_value in
    (e.0 ∙ l.invariant.0, e.1 ∙ l.invariant.1)

pub loop-i-preserved : goal.loop-i-preserved
loop-i-preserved c =
    let l = c.loop-i in
    let p = word_more _ l.i c.loop-i-test.true (sym c.goes_on.ensures ∙ c.if-not-goes_on.false) in
    (sym p.0 ∙ l.invariant.0, sym p.1 ∙ l.invariant.1)

pub returns-clause-end_value : goal.returns-clause-end_value
returns-clause-end_value c =
    let l = c.loop-i in
    let p = word_none c.args.s.now l.i (omega arith) in
    (omega (arith, sym p.0 ∙ l.invariant.0), sym p.1 ∙ l.invariant.1)
