use Rattle.fuzzify_text.specs.Terms.{no_points}
use Rattle.fuzzify_text.proofs.Laws as laws
use Rattle.fuzzify_text.proofs.points.Invariants.{shape}
use Rattle.fuzzify_text.proofs.points.Goals as goal

pub loop-q-init : goal.loop-q-init
loop-q-init c = laws.begins c.args.s.now c.args.c _ c.requires

pub returns-in_default : goal.returns-in_default
returns-in_default c =
    let l = c.loop-q in
    let a = c.args in
    let r = c.point-a in
    laws.stops a.s.now (no_points a.c) (shape l.d l.n l.points) l.last l.invariant r.result r.ensures.reads_point c.in_default.is

pub returns-then-a-ne-COMMA : goal.returns-then-a-ne-COMMA
returns-then-a-ne-COMMA c =
    let l = c.loop-q in
    let a = c.args in
    let r = c.point-a in
    let h = c.in-Some.is in
    laws.leaves a.s.now (no_points a.c) (shape l.d l.n l.points) l.last l.invariant r.result r.ensures.reads_point c.in-Some.q h (rw h at r.ensures.few)
    c.if-a-ne-COMMA.true

pub loop-q-preserved : goal.loop-q-preserved
loop-q-preserved c =
    let l = c.loop-q in
    let a = c.args in
    let r = c.point-a in
    let h = c.in-Some.is in
    laws.goes a.s.now (no_points a.c) (shape l.d l.n l.points) l.last l.invariant r.result r.ensures.reads_point c.in-Some.q h (rw h at r.ensures.few)
    c.advance-d.result c.if-a-ne-COMMA.false c.advance-d.ensures.step c.advance-d.ensures.moves.0
