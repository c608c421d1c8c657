use mathlib.Core.Path.{refl}
use Rattle.model.specs.Basic.{total}
use Rattle.centre.specs.Centre.{lifted}
use Rattle.centre.proofs.Sums.none.Goals as goal

pub returns : goal.returns
unfolding total lifted
returns c = (refl, refl, refl)
