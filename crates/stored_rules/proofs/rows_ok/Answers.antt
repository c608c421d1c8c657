use mathlib.Core.Path.{sym, ap, ◌∙◌}
use lib.Dec.{eqb}
use borrow.Author.Tests.{eq-eqb, ne_eqb}
use Rattle.model.specs.Image.{word_at, WORDS}
use Rattle.stored_rules.proofs.Loops.{walk_more, walk_stop, walk_end}
use Rattle.stored_rules.proofs.rows_ok.Goals as goal

pub returns-in_default : goal.returns-in_default
returns-in_default c =
    let l = c.loop-i in
    let stored = c.args.image.now.stored in
    sym (walk_stop (word_at stored.bytes.now) stored.header.rules.rows l.i l.totals.words l.totals.conclusions c.loop-i-test.true c.in_default.ensures) ∙ l.invariant

pub loop-i-preserved : goal.loop-i-preserved
loop-i-preserved c =
    let l = c.loop-i in
    let stored = c.args.image.now.stored in
    let e = c.in-Some.ensures in
    sym (walk_more (word_at stored.bytes.now) stored.header.rules.rows l.i l.totals.words l.totals.conclusions _ _ e.1 e.2 c.loop-i-test.true e.0) ∙ l.invariant

pub returns-then-totals-header : goal.returns-then-totals-header
returns-then-totals-header c =
    let l = c.loop-i in
    let stored = c.args.image.now.stored in
    let e = eq-eqb _ _ (c.if-totals-header.true ∙ stored.heads.words.rows) in
    let t = walk_end (word_at stored.bytes.now) stored.header.rules.rows l.i l.totals.words l.totals.conclusions c.loop-i-test.false in
    ap (eqb l.totals.conclusions) stored.heads.conclusions.rows ∙ sym (t ∙ simp e) ∙ l.invariant

pub returns-else-totals-header : goal.returns-else-totals-header
returns-else-totals-header c =
    let l = c.loop-i in
    let stored = c.args.image.now.stored in
    let e = ne_eqb l.totals.words (word_at stored.bytes.now WORDS) (λ q. c.if-totals-header.false (q ∙ sym stored.heads.words.rows)) in
    let t = walk_end (word_at stored.bytes.now) stored.header.rules.rows l.i l.totals.words l.totals.conclusions c.loop-i-test.false in
    ne_eqb _ _ c.if-totals-header.false ∙ sym (t ∙ simp e) ∙ l.invariant
