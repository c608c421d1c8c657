use mathlib.Core.Path.{refl, ◌∙◌}
use Prim.Native.Nat.{suc}
use lib.ListN.{length}
use Rattle.model.specs.Parse.{listed}
use Rattle.cursor.specs.View.{seen}
use Rattle.cursor.proofs.Laws.{enough}
use Rattle.rule_text.specs.Progress.{midst, gives}
use native.Mathlib.Omega.{arith}
use Rattle.rule_text.proofs.Laws as laws
use Rattle.rule_text.proofs.conclusion_list.Goals as goal

pub loop-q-init : goal.loop-q-init
loop-q-init c =
    let o = c.conclusion-q.ensures.onward in
    (record { fewer = omega arith; fits = o.fits; grows = omega arith; count = o.count }, λ b rs x m d k n h. laws.lists_begin _ b rs x m n _ _ h)

pub loop-q-preserved : goal.loop-q-preserved
loop-q-preserved c = let l = c.loop-q in
    let a = c.advance-q.ensures in
    let o = c.conclusion-q-in-loop-q.ensures in (
      laws.onward_then l.invariant.0 (laws.step_onward a.step o.onward),
      λ b rs x m d k n h.
          let y = l.invariant.1 b rs x m d k n h in
          laws.lists_go _ b rs x m n _ l.q _ _ _ _ _ y c.loop-q-test.true a.step
          (o.concludes b rs (gives y.more x) m d (laws.given_count rs x y.more ∙ (let z = y.count in omega arith))) (omega (arith, o.onward.fewer, a.moves.0)),
    )

pub returns : goal.returns
unfolding listed laws.another
returns c =
    let l = c.loop-q in
    let o = c.conclusion-q.ensures in
    record {
      concludes = (λ b rs q m d k.
          let x = o.concludes b rs q m d k in
          let y = gives x.more q in
          let n = suc (length (seen c.args.d.now.text.now c.conclusion-q.result.cursor (midst b rs y) m).rest) in
          laws.concludes_then x (laws.lists_end _ b rs y m n _ l.q _ _ refl
          (l.invariant.1 b rs y m d (laws.given_count rs q x.more ∙ (let z = x.count in omega arith)) n
          (enough c.args.d.now.text.now c.conclusion-q.result.cursor (midst b rs y) m)) c.loop-q-test.false));
      onward = laws.onward_then o.onward l.invariant.0;
    }
