use Rattle.std.proofs.Common.{◌≡◌, length, ap, arith}
use Rattle.model.specs.Image.{BLOCK_NAME, name_words}
use Rattle.word_writer.proofs.Over.{joined, retold}
use Rattle.image.proofs.header.Goals as goal

pub returns : goal.returns
unfolding name_words
returns c =
    let a = c.args in
    let first : length a.head ≡ BLOCK_NAME = omega (arith, c.well_formed) in
    let x = c.name_words in
    let y = c.name_words-2 in
    let wide2 : length x.result ≡ 4 = ap length x.ensures in
    let wide3 : length y.result ≡ 4 = ap length y.ensures in
    let p = c.copy-at in
    let q = c.copy-at-2 in
    let r = c.copy in
    record {
      wrote = joined (omega (arith, p.ensures.next, c.requires)) p.ensures
          (joined (omega (arith, p.ensures.next, q.ensures.next, p.auto, c.requires)) (retold x.ensures q.ensures) (retold y.ensures r.ensures));
      next = omega (arith, p.ensures.next, q.ensures.next, r.ensures.next);
    }
