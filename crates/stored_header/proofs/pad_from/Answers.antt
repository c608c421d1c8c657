use borrow.Author.Tests.{lt-ltb, le-ltb}
use Rattle.stored_header.proofs.pad_from.Goals as goal

pub returns-then-x-a : goal.returns-then-x-a
returns-then-x-a c = simp (lt-ltb _ _ c.if-x-a.true)

pub returns : goal.returns
returns c = simp (le-ltb _ _ c.if-x-a.false)
