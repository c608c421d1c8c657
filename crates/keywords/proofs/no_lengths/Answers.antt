use mathlib.Core.Path.{sym}
use Rattle.keywords.specs.Slots.{rows}
use Rattle.keywords.proofs.Laws.{no_row}
use Rattle.keywords.proofs.no_lengths.Goals as goal

pub returns : goal.returns
returns c = sym (no_row Unit c.args.i rows c.requires)
