use borrow.Author.Rules.{rules}
use mathlib.Core.Path.{◌≡◌, refl}
use Prim.Native.Nat.{◌+◌}
use native.Mathlib.Omega.{arith}
use Rattle.word_writer.proofs.Over.{no_words, word_more}
use Rattle.word_writer.proofs.copy.Goals as goal

pub loop-i-init : goal.loop-i-init
loop-i-init c =
    let a = c.args in
    let z : a.at + 0 ≡ a.at = omega arith in
    (refl, rw z (no_words a.at a.out.now))

pub loop-i-preserved : goal.loop-i-preserved
loop-i-preserved c =
    let l = c.loop-i in
    let a = c.args in
    (search rules, word_more a.ws.now a.out.now l.out c.word.new.out a.at l.i (search rules) (search rules) l.invariant.1 c.word.ensures)
