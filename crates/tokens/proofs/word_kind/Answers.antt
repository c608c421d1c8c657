use borrow.Author.Tests.{lt-ltb}
use mathlib.Core.Path.{sym}
use native.Mathlib.Omega.{arith}
use Rattle.model.specs.Keywords.{is_keyword}
use Rattle.model.specs.Tokens.{word_kind}
use Rattle.tokens.proofs.word_kind.Goals as goal

pub returns-in-Some-clause-value : goal.returns-in-Some-clause-value
unfolding word_kind is_keyword
returns-in-Some-clause-value c =
    let k = c.in-Some.ensures in
    simp (c.requires, sym k.0, lt-ltb _ _ k.1) (omega (arith, k.1))

pub returns-in-None-clause-value : goal.returns-in-None-clause-value
unfolding word_kind is_keyword
returns-in-None-clause-value c = simp (c.requires, sym c.in-None.ensures)
