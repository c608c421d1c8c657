use native.Mathlib.Omega.{arith}
use Rattle.model.specs.Keywords.{IS}
use Rattle.model.specs.Parse.{advance, expect}
use Rattle.model.specs.Rules.{concluded_term}
use Rattle.cursor.proofs.Laws.{steps}
use Rattle.rule_text.specs.Progress.{midst}
use Rattle.cursor.proofs.Laws.{never_zero}
use Rattle.rule_text.proofs.Laws as laws
use borrow.Author.Rules.{rules}
use Rattle.rule_text.proofs.conclusion.Goals as goal

pub returns-in-Err : goal.returns-in-Err
returns-in-Err c = let p = c.args.p in
    let g = c.requires in
    let s = c.args.d.now.text.now in
    let a = c.not_concluded.ensures.by_index s g.0 in
    let z = c.not_concluded.ensures.count in
    record {
      concludes = (λ b rs q m d n. laws.concludes_none _ _ a z
          (laws.output_fault s _ _ b d rs q p.cursor m _ (c.in-Err.ensures.by_index s g.0 (midst b rs q) m) (never_zero c.in-Err.fault)));
      onward = laws.onward_none _ a z (search rules);
    }

pub returns-in_default-output_of-clause-concludes : goal.returns-in_default-output_of-clause-concludes
returns-in_default-output_of-clause-concludes c =
    let p = c.args.p in
    let g = c.requires in
    let s = c.args.d.now.text.now in
    let r = c.not_concluded-in_default-output_of.ensures in
    λ b rs q m d n. laws.concludes_none _ _ (r.by_index s g.0) r.count
    (laws.output_unknown s _ _ b d rs q p.cursor m (c.in_default.ensures.by_index s g.0 (midst b rs q) m) _
    c.in_default-output_of.ensures (omega arith))

pub returns-in_default-output_of-clause-onward : goal.returns-in_default-output_of-clause-onward
returns-in_default-output_of-clause-onward c =
    let r = c.not_concluded-in_default-output_of.ensures in
    laws.onward_none _ (r.by_index c.args.d.now.text.now c.requires.0) r.count (search rules)

pub returns-then-p-ge-CONCLUSIONS : goal.returns-then-p-ge-CONCLUSIONS
returns-then-p-ge-CONCLUSIONS c =
    let p = c.args.p in
    let g = c.requires in
    let s = c.args.d.now.text.now in
    let a = c.not_concluded-then-p-ge-CONCLUSIONS.ensures.by_index s g.0 in
    let z = c.not_concluded-then-p-ge-CONCLUSIONS.ensures.count in
    record {
      concludes = (λ b rs q m d n. laws.concludes_none _ _ a z
          (laws.output_full s _ _ b d rs q p.cursor m (c.in_default.ensures.by_index s g.0 (midst b rs q) m) _
          c.in-Some.ensures.0 _ n c.in-Some.ensures.1 c.if-p-ge-CONCLUSIONS.true));
      onward = laws.onward_none _ a z (search rules);
    }

pub returns : goal.returns
returns c =
    let p = c.args.p in
    let g = c.requires in
    let s = c.args.d.now.text.now in
    let a = steps c.advance-q.ensures.step c.expect-q.ensures.step in
    record {
      concludes = (λ b rs q m d n. laws.as_well {part = λ y. concluded_term c.in-Some.o (expect IS (advance y))}
          (laws.output_known s _ _ b d rs q p.cursor m (c.in_default.ensures.by_index s g.0 (midst b rs q) m) _
          c.in-Some.ensures.0 _ n c.in-Some.ensures.1 c.if-p-ge-CONCLUSIONS.false)
          (laws.step_concludes a (c.concluded_term.ensures.concludes b rs q m d)));
      onward = laws.step_onward a c.concluded_term.ensures.onward;
    }
