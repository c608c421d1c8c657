use borrow.Author.Rules.{rules}
use Rattle.fuzzify_text.proofs.Laws as laws
use Rattle.fuzzify_text.proofs.point.Goals as goal

pub returns-then-c-ne-OPEN : goal.returns-then-c-ne-OPEN
returns-then-c-ne-OPEN c =
    let a = c.args in
    let g = c.requires in
    record {
      reads_point = laws.point_none a.s.now a.c c.refuse_for.result a.n a.last c.if-c-ne-OPEN.true (c.refuse_for.ensures.by_index _ g)
          c.refuse_for.ensures.halted;
      few = search rules;
    }

pub returns-then-n-ge-POINTS : goal.returns-then-n-ge-POINTS
returns-then-n-ge-POINTS c =
    let a = c.args in
    let g = c.requires in
    record {
      reads_point = laws.point_full a.s.now a.c c.refuse_for-then-n-ge-POINTS.result a.n a.last c.if-c-ne-OPEN.false c.if-n-ge-POINTS.true
          (c.refuse_for-then-n-ge-POINTS.ensures.by_index _ g) c.refuse_for-then-n-ge-POINTS.ensures.halted;
      few = search rules;
    }

pub returns : goal.returns
returns c =
    let a = c.args in
    let l = c.if-n-ge-POINTS.false in
    let d = c.advance-d in
    record {
      reads_point = laws.point_good a.s.now a.c d.result a.n a.last c.if-c-ne-OPEN.false c.point_from.result l d.ensures.step
          c.point_from.ensures;
      few = search rules;
    }
