use mathlib.Core.Path.{sym, ◌∙◌}
use borrow.Author.Rules.{rules}
use Rattle.keywords.proofs.Laws.{row_less, row_unfit, row_inside, row_same, row_other}
use Rattle.keywords.proofs.in_slot.Goals as goal

pub returns-then-w-n : goal.returns-then-w-n
returns-then-w-n c =
    let a = c.args in
    let r = c.slot_row-r in
    sym (row_unfit a.w.now a.h r.result c.requires.0 r.ensures c.if-w-n.true)

pub slice_bounds-is_word-end : goal.slice_bounds-is_word-end
slice_bounds-is_word-end c =
    let a = c.args in
    let r = c.slot_row-r in
    let h = row_inside a.w.now a.h r.result c.requires.0 r.ensures a.text.now c.requires.2 c.if-w-n.false in
    search rules

pub returns-then-is_word : goal.returns-then-is_word
returns-then-is_word c =
    let a = c.args in
    let r = c.slot_row-r in
    let e = sym c.is_word.ensures ∙ c.if-is_word.true in (
      row_same a.w.now a.h r.result c.requires.0 r.ensures a.text.now c.requires.2 c.if-w-n.false e,
      row_less a.w.now a.h r.result c.requires.0 r.ensures c.requires.1 c.if-w-n.false,
    )

pub returns-else-is_word : goal.returns-else-is_word
returns-else-is_word c =
    let a = c.args in
    let r = c.slot_row-r in
    let e = sym c.is_word.ensures ∙ c.if-is_word.false in
    sym (row_other a.w.now a.h r.result c.requires.0 r.ensures a.text.now c.requires.2 c.if-w-n.false e)
