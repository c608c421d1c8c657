use Rattle.cursor.proofs.Laws as laws
use Rattle.cursor.proofs.expect.Goals as goal

pub returns-then-c-k : goal.returns-then-c-k
returns-then-c-k c =
    record {
      step = laws.expects _ _ _ _ c.if-c-k.true c.advance.ensures.step;
      moves = λ h. c.advance.ensures.moves.0;
    }

pub returns : goal.returns
returns c =
    let g = c.requires.0 in
    record {
      step = laws.expects_not _ _ _ _ c.if-c-k.false (c.refuse_for.ensures.by_index _ g);
      moves = c.refuse_for.ensures.moves _ g;
    }
