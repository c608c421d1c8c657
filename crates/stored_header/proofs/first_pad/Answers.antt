use mathlib.Core.Path.{sym, ◌∙◌}
use Rattle.stored_header.proofs.Names.{pad_0, pad_1, pad_2, pad_3, pad_4}
use Rattle.stored_header.proofs.first_pad.Goals as goal

pub returns-then-x-eq0 : goal.returns-then-x-eq0
returns-then-x-eq0 c = c.pad_from.ensures ∙ sym (pad_0 _ c.if-x-eq0.true)

pub returns-then-x-eq0-2 : goal.returns-then-x-eq0-2
returns-then-x-eq0-2 c = c.pad_from-then-x-eq0-2.ensures ∙ sym (pad_1 _ c.if-x-eq0.false c.if-x-eq0-2.true)

pub returns-then-x-eq0-3 : goal.returns-then-x-eq0-3
returns-then-x-eq0-3 c =
    c.pad_from-then-x-eq0-3.ensures ∙ sym (pad_2 _ c.if-x-eq0.false c.if-x-eq0-2.false c.if-x-eq0-3.true)

pub returns-then-x-eq0-4 : goal.returns-then-x-eq0-4
returns-then-x-eq0-4 c =
    sym (pad_3 _ c.if-x-eq0.false c.if-x-eq0-2.false c.if-x-eq0-3.false c.if-x-eq0-4.true)

pub returns : goal.returns
returns c =
    sym (pad_4 _ c.if-x-eq0.false c.if-x-eq0-2.false c.if-x-eq0-3.false c.if-x-eq0-4.false)
