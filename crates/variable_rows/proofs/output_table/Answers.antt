use borrow.Author.Rules.{rules}
use mathlib.Core.Path.{◌≡◌, refl, ap}
use native.Mathlib.Omega.{arith}
use lib.ListN.{length}
use Rattle.model.specs.Image.{name_words, output_width}
use Rattle.variable_rows.specs.Rows.{output_words, output_rows}
use Rattle.word_writer.proofs.Over.{retold}
use Rattle.variable_rows.proofs.Turns.{begins, goes, ends}
use Rattle.variable_rows.proofs.output_table.Goals as goal

pub loop-v-init : goal.loop-v-init
unfolding output_rows
loop-v-init c = (search rules, search rules, refl, begins _ _ _ _ _ _ c.args.first refl)

pub output_row-requires : goal.output_row-requires
output_row-requires c =
    let l = c.loop-v in
    (c.requires.2 l.v-index (omega (arith, c.requires.0)), omega (arith, c.requires.0, c.requires.1), c.requires.3 l.v-index)

pub overflow_add-n : goal.overflow_add-n
overflow_add-n c =
    omega (arith, c.requires.3 c.loop-v.v-index)

pub loop-v-preserved : goal.loop-v-preserved
unfolding output_words name_words
loop-v-preserved c =
    let l = c.loop-v in
    let row = c.output_row.ensures in
    let wide : length c.output_row.result ≡ output_width = ap length row in
    let more = c.requires.3 l.v-index in
    let w = c.copy-p in (
      omega arith,
      omega (arith, w.ensures.next),
      omega (arith, w.auto),
      goes _ _ _ _ _ _ l.v-index l.n l.p _ l.out _ (search rules) (omega (arith, c.requires)) (retold row w.ensures) l.invariant.3,
    )

pub returns : goal.returns
returns c = let l = c.loop-v in
    record {
      wrote = ends _ _ _ _ _ _ l.v-index l.n l.p l.out (search rules) l.invariant.3;
      next = omega arith;
    }
