use borrow.Author.Rules.{rules}
use mathlib.Core.Path.{sym, ◌∙◌}
use Rattle.tokens.proofs.Laws.{comment_begins, comment_more, comment_closed, comment_open}
use Rattle.tokens.proofs.comment_piece.Goals as goal

pub loop-i-init : goal.loop-i-init
loop-i-init c = comment_begins c.args.rest.now

pub returns-then-is_pair-clause-result_value : goal.returns-then-is_pair-clause-result_value
returns-then-is_pair-clause-result_value c =
    let l = c.loop-i in
    comment_closed c.args.rest.now l.i (search rules) c.is_pair.result (search rules) c.is_pair.ensures.value c.if-is_pair.true l.invariant

pub loop-i-preserved : goal.loop-i-preserved
loop-i-preserved c =
    let l = c.loop-i in
    sym (comment_more c.args.rest.now l.i (search rules) c.is_pair.result (search rules) c.is_pair.ensures.value c.if-is_pair.false) ∙ l.invariant

pub returns-clause-result_value : goal.returns-clause-result_value
returns-clause-result_value c =
    let l = c.loop-i in
    comment_open c.args.rest.now l.i (search rules) (search rules) l.invariant
