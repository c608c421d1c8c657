use borrow.Author.Rules.{rules}
use mathlib.Core.Path.{refl, ap}
use mathlib.Core.List.{[], ◌∷◌}
use Prim.Native.Nat.{ℕ}
use native.Mathlib.Omega.{arith}
use lib.ListN.{get_or}
use Rattle.model.specs.Bounds.{M}
use Rattle.model.specs.Image.{crisp_word}
use Rattle.block_tables.specs.View.{no_singleton}
use Rattle.variable_rows.specs.Rows.{onward}
use Rattle.term_rows.specs.Rows.{singleton_points}
use Rattle.word_writer.proofs.Over.{retold}
use Rattle.variable_rows.proofs.Turns.{begins, goes, ends}
use Rattle.term_rows.proofs.singleton_points.Goals as goal

pub loop-k-init : goal.loop-k-init
unfolding singleton_points
loop-k-init c = (search rules, refl, begins _ _ _ _ _ _ tt refl)

pub loop-k-preserved : goal.loop-k-preserved
loop-k-preserved c =
    let l = c.loop-k in
    let w = c.copy-p in (
      omega (arith, w.ensures.next),
      omega (arith, w.auto),
      goes _ _ _ _ _ _ l.k-index tt l.p _ l.out _ (search rules) (omega (arith, c.requires))
          (retold (ap (λ (x : ℕ). x ∷ M ∷ []) c.crisp_word.ensures) w.ensures) l.invariant.2,
    )

pub returns : goal.returns
returns c =
    let a = c.args in
    let l = c.loop-k in
    record {
      wrote = ends (λ σ i. crisp_word (get_or a.terms.now (get_or a.slots.now i 0) no_singleton).at.0 ∷ M ∷ []) onward _ _ _ _ l.k-index tt l.p l.out
          (search rules) l.invariant.2;
      next = omega arith;
    }
