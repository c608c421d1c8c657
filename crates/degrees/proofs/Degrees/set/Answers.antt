use mathlib.Core.Path.{◌∙◌}
use lib.ListN.{length-set}
use Rattle.degrees.proofs.Tables.{numbers_set, low_turn}
use Rattle.degrees.proofs.Degrees.set.Goals as goal

pub invariant_of-self : goal.invariant_of-self
invariant_of-self g c = record { long = length-set c.args.self.now.at c.args.i c.args.d ∙ c.args.self.now.long; low = low_turn c.args.self.now.at c.args.i c.args.d c.args.self.now.low c.requires.1 }

pub returns : goal.returns
returns g c = numbers_set c.args.self.now.at c.args.i c.args.d
