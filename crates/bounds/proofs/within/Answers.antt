use borrow.Author.Tests.{le-leb, lt-leb}
use Rattle.bounds.proofs.within.Goals as goal

pub returns-then-c-a : goal.returns-then-c-a
returns-then-c-a c = simp (lt-leb _ _ c.if-c-a.true)

pub returns : goal.returns
returns c = simp (le-leb _ _ c.if-c-a.false)
