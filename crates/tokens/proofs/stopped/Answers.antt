use mathlib.Core.Path.{sym}
use Rattle.tokens.proofs.Laws.{word_stray, word_ends}
use Rattle.tokens.proofs.stopped.Goals as goal

pub returns-then-s-i-eq95-clause-end_value : goal.returns-then-s-i-eq95-clause-end_value
returns-then-s-i-eq95-clause-end_value c = (c.name_end.ensures.value, sym (word_stray c.args.s.now c.args.i c.requires.0 c.requires.1 c.if-s-i-eq95.true))

pub returns-clause-end_value : goal.returns-clause-end_value
returns-clause-end_value c =
    let p = word_ends c.args.s.now c.args.i c.requires.0 c.requires.1 c.if-s-i-eq95.false in
    (sym p.0, sym p.1)
