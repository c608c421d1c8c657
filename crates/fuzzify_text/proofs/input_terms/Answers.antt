use mathlib.Core.Path.{refl}
use Prim.Native.Nat.{◌<◌}
use native.Mathlib.Omega.{arith}
use Rattle.model.specs.Keywords.{TERM}
use Rattle.model.specs.Declarations.{input_term}
use Rattle.cursor.proofs.Laws.{lost_kind}
use Rattle.block_tables.specs.declared.Term.{Term}
use Rattle.parse_state.proofs.Laws as reading
use Rattle.parse_state.proofs.Laws.{at}
use Rattle.fuzzify_text.specs.Terms.{inputs_in}
use Rattle.cursor.proofs.Laws.{was_refused, stands}
use Rattle.fuzzify_text.proofs.Laws as laws
use Rattle.fuzzify_text.proofs.Stored.{term_put, term_added}
use Rattle.fuzzify_text.proofs.input_terms.Goals as goal

pub returns-then-c : goal.returns-then-c
returns-then-c c =
    let a = c.args in
    record {
      collects = λ t g. laws.terms_none a.s.now a.p.cursor (inputs_in a.names.now a.p t).tables c.refuse_for-r.result a.i g.holds
          c.if-c.true c.refuse_for-r.ensures.halted (c.refuse_for-r.ensures.by_index _ g.fits);
      count = refl;
    }

pub loop-c-init : goal.loop-c-init
loop-c-init c =
    let a = c.args in
    (record { from = c.requires.0; turning = λ t g. reading.turns_first TERM (input_term a.i) a.s.now (inputs_in a.names.now a.p t) g c.if-c.false }, refl)

pub returns-then-is_some : goal.returns-then-is_some
returns-then-is_some c =
    let l = c.loop-c in
    let a = c.args in
    let n = c.term_name-a in
    let m = n.ensures.named in
    record {
      collects = λ t g.
          let w = l.invariant.0.turning t g in
          let h = w.0.holds in
          let k : a.i < l.r.count = omega (arith, c.requires.1, l.invariant.1) in
          let u = (inputs_in l.names l.r t).tables in
          let p₀ = inputs_in a.names.now a.p t in
          let r = at n.result.cursor u in
          reading.turns_end TERM (input_term a.i) a.s.now p₀ r
          (reading.turns_more TERM (input_term a.i) a.s.now p₀ (at l.c u) r w c.loop-c-test.true
          (laws.turn_lost a.s.now u a.i l.c n.result (n.ensures.reached _ (laws.terms_known a.s.now u a.i h k)) h
          m.fits m.fewer (was_refused c.is_some.ensures c.if-is_some.true)) m.fewer)
          (λ z. omega (arith, lost_kind a.s.now n.result.cursor m.fits (was_refused c.is_some.ensures c.if-is_some.true)));
      count = l.invariant.1;
    }

pub loop-c-preserved : goal.loop-c-preserved
loop-c-preserved c =
    let l = c.loop-c in
    let a = c.args in
    let n = c.term_name-a in
    let m = n.ensures.named in
    let q = c.term_points-q in
    let y = (stands c.is_some.ensures c.if-is_some.false) in
    let k = c.term_place-k in
    let v : Term = record { start = n.result.start; end = n.result.end; count = q.result.count; points = q.result.points } in (
      record {
        from = l.invariant.0.from;
        turning = λ t g.
            let w = l.invariant.0.turning t g in
            let h = w.0.holds in
            let o : a.i < l.r.count = omega (arith, c.requires.1, l.invariant.1) in
            let u = (inputs_in l.names l.r t).tables in
            let z = term_added a.s.now u a.i k.result v k.ensures.0 o (m.room y) q.ensures.room.few q.ensures.room.size h
            m.order m.inside in
            reading.turns_more TERM (input_term a.i) a.s.now (inputs_in a.names.now a.p t) (at l.c u) (at q.result.cursor (term_put u a.i k.result v)) w
            c.loop-c-test.true
            (laws.turn_good a.s.now u a.i l.c n.result (n.ensures.reached _ (laws.terms_known a.s.now u a.i h o)) q.result
            (term_put u a.i k.result v) h o y m.fewer q.ensures z) (omega (arith, q.ensures.fewer, m.fewer));
      },
      l.invariant.1,
    )

pub returns : goal.returns
returns c =
    let l = c.loop-c in
    let a = c.args in
    record {
      collects = λ t g.
          reading.turns_end TERM (input_term a.i) a.s.now (inputs_in a.names.now a.p t) (at l.c (inputs_in l.names l.r t).tables) (l.invariant.0.turning t g)
          c.loop-c-test.false;
      count = l.invariant.1;
    }
