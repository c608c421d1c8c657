use mathlib.Core.Path.{refl, sym}
use native.Mathlib.Omega.{arith}
use borrow.Author.Tests.{eq-eqb, ne_eqb}
use Rattle.model.specs.Rules.{plain as plain_of, operand as operandOf, condition_with}
use Rattle.cursor.proofs.Laws.{kind_seen}
use Rattle.condition_text.proofs.Laws as laws
use Rattle.condition_text.proofs.+condition_conjunction_operand_plain.Goals as goal

pub condition-loop-q-init : goal.condition-loop-q-init
condition-loop-q-init t c = (laws.unmoved _ c.conjunction-q.ensures.within.room, λ b d. laws.begins _ _ _ _ _ _ _)

pub condition-loop-q-preserved : goal.condition-loop-q-preserved
condition-loop-q-preserved t c =
    let l = c.loop-q in
    let n = c.count-n.ensures in
    let m = c.conjunction-m.ensures in
    let z = l.invariant.0.room.fits.halted (λ k. omega (arith, c.loop-q-test.true)) in
    let w = laws.turned z n.counts m.within c.put-q.ensures in (
      laws.within_then l.invariant.0 w,
      λ b d. laws.goes _ _ _ _ b _ l.q c.count-n.result c.conjunction-m.result c.put-q.result _ _ _ _
          (l.invariant.1 b d) c.loop-q-test.true z (n.words_value b) n.counts.put (m.reads_condition b d) c.put-q.ensures
          (rw c.put-q.ensures.cursor (omega (arith, n.counts.fewer, m.within.fewer))),
    )

pub condition-returns : goal.condition-returns
unfolding condition_with
condition-returns t c =
    let l = c.loop-q in
    let m = c.conjunction-q.ensures in
    record {
      reads_condition = λ b d. laws.stops _ _ _ _ b _ _ l.q _ _ _ (l.invariant.1 b d) c.loop-q-test.false (m.reads_condition b d) m.within.fewer;
      within = laws.within_then m.within l.invariant.0;
    }

pub conjunction-loop-q-init : goal.conjunction-loop-q-init
conjunction-loop-q-init t c = (laws.unmoved _ c.operand-q.ensures.within.room, λ b d. laws.begins _ _ _ _ _ _ _)

pub conjunction-loop-q-preserved : goal.conjunction-loop-q-preserved
conjunction-loop-q-preserved t c =
    let l = c.loop-q in
    let n = c.count-n.ensures in
    let m = c.operand-m.ensures in
    let z = l.invariant.0.room.fits.halted (λ k. omega (arith, c.loop-q-test.true)) in
    let w = laws.turned z n.counts m.within c.put-q.ensures in (
      laws.within_then l.invariant.0 w,
      λ b d. laws.goes _ _ _ _ b _ l.q c.count-n.result c.operand-m.result c.put-q.result _ _ _ _
          (l.invariant.1 b d) c.loop-q-test.true z (n.words_value b) n.counts.put (m.reads_condition b d) c.put-q.ensures
          (rw c.put-q.ensures.cursor (omega (arith, n.counts.fewer, m.within.fewer))),
    )

pub conjunction-returns : goal.conjunction-returns
conjunction-returns t c =
    let l = c.loop-q in
    let m = c.operand-q.ensures in
    record {
      reads_condition = λ b d. laws.stops _ _ _ _ b _ _ l.q _ _ _ (l.invariant.1 b d) c.loop-q-test.false (m.reads_condition b d) m.within.fewer;
      within = laws.within_then m.within l.invariant.0;
    }

pub operand-returns-then-p-ne-NOT-clause-reads_condition : goal.operand-returns-then-p-ne-NOT-clause-reads_condition
unfolding operandOf
operand-returns-then-p-ne-NOT-clause-reads_condition t c = λ b d. simp (kind_seen, ne_eqb _ _ c.if-p-ne-NOT.true) (c.plain.ensures.reads_condition b d)

pub operand-returns : goal.operand-returns
unfolding operandOf
operand-returns t c =
    let n = c.count-q.ensures in
    let w = c.plain-r.ensures in
    let z = c.requires.0.fits.halted (λ k. omega (arith, c.if-p-ne-NOT.false)) in
    record {
      reads_condition = λ b d. simp (kind_seen, eq-eqb _ _ c.if-p-ne-NOT.false, sym (n.words_value b))
          (laws.from n.counts.put (laws.negates (w.reads_condition b d) c.put.ensures));
      within = laws.turned z n.counts w.within c.put.ensures;
    }

pub plain-returns-then-p-ne-OPEN-clause-reads_condition : goal.plain-returns-then-p-ne-OPEN-clause-reads_condition
unfolding plain_of
plain-returns-then-p-ne-OPEN-clause-reads_condition t c = λ b d. simp (kind_seen, ne_eqb _ _ c.if-p-ne-OPEN.true) (c.subcondition.ensures.reads_condition b d)

pub plain-returns-then-depth-eq0-clause-reads_condition : goal.plain-returns-then-depth-eq0-clause-reads_condition
unfolding plain_of
plain-returns-then-depth-eq0-clause-reads_condition t c =
    let g = c.requires.0 in
    let a = c.refused.ensures.by_index c.args.d.now.text.now g.fits in
    let z = c.refused.ensures.stops in
    λ b d. simp (kind_seen, eq-eqb _ _ c.if-p-ne-OPEN.false, laws.paren_none _ c.if-depth-eq0.true) (laws.refuses 6 z a refl)

pub plain-returns-clause-reads_condition : goal.plain-returns-clause-reads_condition
unfolding plain_of
plain-returns-clause-reads_condition t c =
    let p = c.args.p in
    let a = c.advance-q.ensures.step in
    let m = c.condition-q.ensures in
    λ b d. simp (
      kind_seen,
      eq-eqb _ _ c.if-p-ne-OPEN.false,
      laws.paren_more _ c.if-depth-eq0.false,
      sym (a.reads b p.words),
    )
    (laws.closes (laws.from refl (m.reads_condition b d)) c.expect-q.ensures.step)
