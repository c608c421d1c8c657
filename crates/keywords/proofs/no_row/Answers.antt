use mathlib.Core.Path.{sym}
use Rattle.keywords.proofs.Laws.{no_slot}
use Rattle.keywords.proofs.no_row.Goals as goal

pub returns : goal.returns
returns c = sym (no_slot c.args.h c.requires)
