use Rattle.fuzzify_text.proofs.Laws as laws
use Rattle.fuzzify_text.proofs.end_of_points.Goals as goal

pub returns-then-c-ne-SEMICOLON : goal.returns-then-c-ne-SEMICOLON
returns-then-c-ne-SEMICOLON c =
    let a = c.args in
    let g = c.requires in
    laws.end_none a.s.now a.c c.refuse_for.result a.n c.if-c-ne-SEMICOLON.true (c.refuse_for.ensures.by_index _ g)

pub returns-then-n-lt-LEAST_POINTS : goal.returns-then-n-lt-LEAST_POINTS
returns-then-n-lt-LEAST_POINTS c =
    let a = c.args in
    let g = c.requires in
    laws.end_few a.s.now a.c c.refuse_for-then-n-lt-LEAST_POINTS.result a.n c.if-c-ne-SEMICOLON.false c.if-n-lt-LEAST_POINTS.true (c.refuse_for-then-n-lt-LEAST_POINTS.ensures.by_index _ g)

pub returns : goal.returns
returns c =
    let a = c.args in
    let g = c.requires in
    laws.end_good a.s.now a.c c.advance.result a.n c.if-c-ne-SEMICOLON.false c.if-n-lt-LEAST_POINTS.false c.advance.ensures.step
