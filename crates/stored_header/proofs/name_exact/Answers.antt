use mathlib.Core.Path.{ap, ◌∙◌}
use Prim.Native.Nat.{ℕ}
use lib.Dec.{leb}
use Rattle.model.specs.Image.{word_at}
use Rattle.stored_header.proofs.Names.{name_tests}
use Rattle.stored_header.proofs.name_exact.Goals as goal

pub returns : goal.returns
returns c =
    let a = c.args in
    let d = c.pad_word-c in
    let b = c.pad_word-b in
    let e = c.pad_word-a in
    ap (λ (k : ℕ). leb k 1) c.pad_word.ensures
    ∙ name_tests (word_at a.img.now) a.o _ _ _ _ _ _ _
    c.whole_word.ensures.0 c.whole_word-2.ensures.0
    c.whole_word-3.ensures.0 c.whole_word-4.ensures.0 e.ensures b.ensures d.ensures
