use mathlib.Core.Path.{sym, ap, ◌∙◌}
use Rattle.keywords.specs.Slots.{rows, row_in}
use Rattle.keywords.proofs.lengths_of.Goals as goal

pub returns : goal.returns
returns c = sym (ap (row_in rows) c.requires.0 ∙ c.requires.1)
