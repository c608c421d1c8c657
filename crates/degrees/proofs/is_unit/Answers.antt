use borrow.Author.Tests.{lt-leb, le-leb}
use Rattle.model.specs.WellFormed.{unit_ok}
use Rattle.degrees.proofs.is_unit.Goals as goal

pub returns-then-d-le-ONE : goal.returns-then-d-le-ONE
unfolding unit_ok
returns-then-d-le-ONE c = simp (le-leb _ _ c.if-d-le-ONE.true)

pub returns-else-d-le-ONE : goal.returns-else-d-le-ONE
unfolding unit_ok
returns-else-d-le-ONE c = simp (lt-leb _ _ c.if-d-le-ONE.false)
