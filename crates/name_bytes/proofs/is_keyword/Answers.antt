use Rattle.std.proofs.Common.{sym, ◌∙◌, arith}
use Rattle.keywords.proofs.Laws.{may_not}
use Rattle.name_bytes.proofs.Names.{told, told_by}
use Rattle.name_bytes.proofs.is_keyword.Goals as goal

pub returns-then-may_be : goal.returns-then-may_be
returns-then-may_be c = c.is_some.ensures ∙ told_by _ _ c.keyword_at.ensures

pub returns-else-may_be : goal.returns-else-may_be
returns-else-may_be c =
    let w = c.args.w.now in
    c.if-may_be.false ∙ told w 43 (sym (may_not w (sym c.may_be.ensures ∙ c.if-may_be.false))) (omega arith)
