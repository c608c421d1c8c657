use borrow.Author.Rules.{rules}
use mathlib.Core.Path.{◌≡◌, refl, ap}
use Prim.Native.Nat.{◌+◌}
use native.Mathlib.Omega.{arith}
use lib.ListN.{length, get_or}
use Rattle.model.specs.Image.{name_words, term_width}
use Rattle.term_rows.specs.Rows.{singleton_words, singleton_rows}
use Rattle.word_writer.proofs.Over.{retold}
use Rattle.variable_rows.proofs.Turns.{begins, goes, ends}
use Rattle.term_rows.proofs.singleton_table.Goals as goal

pub loop-i-init : goal.loop-i-init
unfolding singleton_rows
loop-i-init c =
    let z : c.args.first + 0 ≡ c.args.first = omega arith in
    (search rules, refl, rw z (begins _ _ _ _ _ _ c.args.first refl))

pub singleton_row-requires : goal.singleton_row-requires
singleton_row-requires c =
    let l = c.loop-i in
    let k = get_or c.args.slots.now l.i 0 in
    (c.requires.2 k (c.requires.0.below l.i), omega (arith, c.requires.0.few, c.requires.1))

pub loop-i-preserved : goal.loop-i-preserved
unfolding singleton_words name_words
loop-i-preserved c =
    let a = c.args in
    let l = c.loop-i in
    let row = c.singleton_row.ensures in
    let wide : length c.singleton_row.result ≡ term_width = ap length row in
    let w = c.copy-p in
    let e : a.first + (l.i + 1) ≡ a.first + l.i + 1 = omega arith in (
      omega (arith, w.ensures.next),
      omega (arith, w.auto),
      rw e (goes _ _ _ _ _ _ l.i (a.first + l.i) l.p _ l.out _ (search rules) (omega (arith, c.requires)) (retold row w.ensures) l.invariant.2),
    )

pub returns : goal.returns
returns c = let l = c.loop-i in
    record {
      wrote = ends _ _ _ _ _ _ l.i (c.args.first + l.i) l.p l.out (search rules) l.invariant.2;
      next = omega arith;
    }
