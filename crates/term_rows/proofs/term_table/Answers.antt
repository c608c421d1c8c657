use borrow.Author.Rules.{rules}
use mathlib.Core.Path.{◌≡◌, refl, ap}
use native.Mathlib.Omega.{arith}
use lib.ListN.{length, get_or}
use Rattle.model.specs.Image.{name_words, term_width}
use Rattle.term_rows.specs.Rows.{term_words, term_rows}
use Rattle.word_writer.proofs.Over.{retold}
use Rattle.variable_rows.proofs.Turns.{begins, goes, ends}
use Rattle.term_rows.proofs.term_table.Goals as goal

pub loop-k-init : goal.loop-k-init
unfolding term_rows
loop-k-init c = (search rules, search rules, refl, begins _ _ _ _ _ _ 0 refl)

pub offset_bounds-terms-k : goal.offset_bounds-terms-k
offset_bounds-terms-k c = let h = c.requires.0.below c.loop-k.k-index in search rules

pub bounds-terms-k : goal.bounds-terms-k
bounds-terms-k c = let h = c.requires.0.below c.loop-k.k-index in search rules

pub term_row-requires : goal.term_row-requires
term_row-requires c =
    let l = c.loop-k in
    let k = get_or c.args.slots.now l.k-index 0 in
    (c.requires.2 k (c.requires.0.below l.k-index), omega (arith, c.requires.0.few), c.requires.1 k)

pub overflow_add-first : goal.overflow_add-first
overflow_add-first c =
    let l = c.loop-k in omega (arith, c.requires.0.few, c.requires.1 (get_or c.args.slots.now l.k-index 0))

pub loop-k-preserved : goal.loop-k-preserved
unfolding term_words name_words
loop-k-preserved c =
    let l = c.loop-k in
    let row = c.term_row.ensures in
    let wide : length c.term_row.result ≡ term_width = ap length row in
    let w = c.copy-p in
    let m = c.requires.1 (get_or c.args.slots.now l.k-index 0) in (
      omega arith,
      omega (arith, w.ensures.next),
      omega (arith, w.auto),
      goes _ _ _ _ _ _ l.k-index l.first l.p _ l.out _ (search rules) (omega (arith, c.requires)) (retold row w.ensures) l.invariant.3,
    )

pub returns : goal.returns
returns c = let l = c.loop-k in
    record {
      wrote = ends _ _ _ _ _ _ l.k-index l.first l.p l.out (search rules) l.invariant.3;
      next = omega arith;
    }
