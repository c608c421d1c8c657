use native.Mathlib.Omega.{arith}
use Rattle.cursor.proofs.Laws.{enough}
use Rattle.rule_text.specs.Progress.{holding}
use Rattle.rule_text.proofs.Laws as laws
use Rattle.rule_text.proofs.rules.Goals as goal

pub rule-q-requires-in-loop-q : goal.rule-q-requires-in-loop-q
rule-q-requires-in-loop-q c =
    let l = c.loop-q in
    let w = l.invariant.0 in
    let t = c.requires.2 in
    let b = t.block in
    let g = c.rule-q.ensures.goes b t.describes t.kept in
    let y = l.invariant.1 b t.describes g.rules g.kept _ (enough c.args.d.now.text.now c.rule-q.result.cursor (holding g.rules b) 0) in
    let z = w.fits.halted (λ e. omega (arith, c.loop-q-test.true)) in
    (w.fits, w.few, record { block = holding y.rules b; describes = laws.describes y.rules t.describes; kept = y.kept z })

pub loop-q-preserved : goal.loop-q-preserved
loop-q-preserved c =
    let l = c.loop-q in
    let f = c.rule-q-in-loop-q.ensures in
    let k = c.loop-q-test.true in
    let z = l.invariant.0.fits.halted (λ e. omega (arith, k)) in (
      laws.within_then l.invariant.0 f.within,
      λ b d rs x n h.
          let y = l.invariant.1 b d rs x n h in
          laws.runs_go _ b rs n _ l.q _ _ _ _ _ _ _ y k (f.goes (holding y.rules b) (laws.describes y.rules d) (y.kept z))
          (f.moves (λ e. omega (arith, k))),
    )

pub returns : goal.returns
returns c =
    let l = c.loop-q in
    let f = c.rule-q.ensures in
    record {
      goes = (λ b d k.
          let g = f.goes b d k in
          laws.runs_end _ b _ _ l.q _ _ _ _ _ _ g (l.invariant.1 b d g.rules g.kept _
          (enough c.args.d.now.text.now c.rule-q.result.cursor (holding g.rules b) _)) c.loop-q-test.false);
      within = laws.within_then f.within l.invariant.0;
    }
