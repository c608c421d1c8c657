use borrow.Author.Rules.{rules}
use mathlib.Core.Path.{refl, ap}
use mathlib.Core.List.{[], ◌∷◌}
use Prim.Native.Nat.{ℕ}
use native.Mathlib.Omega.{arith}
use lib.ListN.{get_or}
use Rattle.block_tables.specs.View.{no_point}
use Rattle.variable_rows.specs.Rows.{onward}
use Rattle.term_rows.specs.Rows.{point_row}
use Rattle.word_writer.proofs.Over.{retold}
use Rattle.variable_rows.proofs.Turns.{begins, goes, ends}
use Rattle.term_rows.proofs.some_points.Goals as goal

pub loop-v-init : goal.loop-v-init
loop-v-init c = (search rules, refl, begins _ _ _ _ _ _ tt refl)

pub loop-v-preserved : goal.loop-v-preserved
loop-v-preserved c =
    let l = c.loop-v in
    let w = c.copy-p in (
      omega (arith, w.ensures.next),
      omega (arith, w.auto),
      goes _ _ _ _ _ _ l.v-index tt l.p _ l.out _ (search rules) (omega (arith, c.requires))
          (retold (ap (λ (x : ℕ). x ∷ (get_or c.args.points.now l.v-index no_point).degree.0 ∷ []) c.crisp_word.ensures) w.ensures) l.invariant.2,
    )

pub returns : goal.returns
returns c =
    let l = c.loop-v in
    record {
      wrote = ends (point_row c.args.points.now) onward _ _ _ _ l.v-index tt l.p l.out (search rules) l.invariant.2;
      next = omega arith;
    }
