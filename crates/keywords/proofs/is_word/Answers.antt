use mathlib.Core.Path.{sym}
use Rattle.laws.proofs.Words.{other_word}
use Rattle.keywords.proofs.is_word.Goals as goal

pub returns-then-w-t : goal.returns-then-w-t
returns-then-w-t c = let a = c.args in sym (other_word a.w.now a.t.now c.if-w-t.true)
