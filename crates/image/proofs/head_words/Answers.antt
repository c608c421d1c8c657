use Rattle.std.proofs.Common.{mul-one, arith}
use Rattle.model.specs.Image.{end_of, offsets}
use Rattle.image.specs.Rows.{head_words}
use Rattle.image.proofs.head_words.Goals as goal

pub overflow_cast-layout : goal.overflow_cast-layout
overflow_cast-layout c = let one = c.layout_word-layout.ensures in omega arith

pub returns : goal.returns
unfolding head_words end_of offsets
returns c =
    let one = c.layout_word-layout.ensures in
    simp (one, mul-one, c.pair_word.ensures, c.accu_word.ensures, c.act_word.ensures)
