use mathlib.Core.Path.{sym, ap, ◌∙◌, subst}
use mathlib.Core.List.{List}
use Prim.Native.Nat.{ℕ}
use Rattle.model.specs.Evaluation.{evaluate_block}
use Rattle.model.specs.Image.{word_at, decode}
use Rattle.load.specs.Judged.{Judged}
use Rattle.block_evaluation.proofs.Laws.{tells_as}
use Rattle.evaluation.proofs.Laws.{evaluate_yes, evaluate_no}
use Rattle.evaluation.proofs.evaluate.Goals as goal

pub returns-in-Err : goal.returns-in-Err
unfolding Judged
returns-in-Err c =
    let a = c.args in
    let e = subst (Judged a.img.now) c.in-Err.is c.examine.ensures in
    tells_as _ a.before _ _ (evaluate_no a.img.now a.rs a.n a.before e.0) (rw e.1 at c.refused.ensures)

pub returns-in-Ok : goal.returns-in-Ok
unfolding Judged
returns-in-Ok c =
    let a = c.args in
    let e = subst (Judged a.img.now) c.in-Ok.is c.examine.ensures in
    let same = ap (λ (bytes : List ℕ). evaluate_block (decode (word_at bytes)) a.rs a.n a.before) e.1 in
    tells_as _ a.before _ _ (evaluate_yes a.img.now a.rs a.n a.before e.0 ∙ sym same) c.evaluate_accepted.ensures
