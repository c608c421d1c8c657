use Rattle.std.proofs.Common.{refl, arith, rules}
use Rattle.image.specs.Rows.{rule_words, rule_rows}
use Rattle.variable_rows.proofs.Turns.{begins, goes, ends}
use Rattle.image.proofs.rule_table.Goals as goal

pub loop-i-init : goal.loop-i-init
unfolding rule_rows
loop-i-init c = (search rules, refl, begins _ _ _ _ _ _ (0, 0) refl)

pub loop-i-preserved : goal.loop-i-preserved
unfolding rule_words
loop-i-preserved c =
    let l = c.loop-i in
    let w = c.copy-p.ensures in (
      omega (arith, w.next),
      omega (arith, c.copy-p.auto),
      goes _ _ _ _ _ _ l.i (l.word, l.conclusion) l.p _ l.out _ (search rules) (omega (arith, c.requires)) w l.invariant.2,
    )

pub returns : goal.returns
returns c = let l = c.loop-i in
    record {
      wrote = ends _ _ _ _ _ _ l.i (l.word, l.conclusion) l.p l.out (search rules) l.invariant.2;
      next = omega arith;
    }
