use mathlib.Core.Path.{sym, ◌∙◌}
use Rattle.stored_header.proofs.Lists.{header_spelt}
use Rattle.stored_header.proofs.header_ok.Goals as goal

pub returns-then-offsets_ok : goal.returns-then-offsets_ok
returns-then-offsets_ok c =
    c.codes_ok.ensures ∙ sym (sym (header_spelt _ _ c.requires.0) ∙ simp (sym c.offsets_ok.ensures ∙ c.if-offsets_ok.true))

pub returns-else-offsets_ok : goal.returns-else-offsets_ok
returns-else-offsets_ok c =
    c.if-offsets_ok.false ∙ sym (sym (header_spelt _ _ c.requires.0) ∙ simp (sym c.offsets_ok.ensures ∙ c.if-offsets_ok.false))
