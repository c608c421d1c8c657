use mathlib.Core.Path.{refl}
use Prim.Native.Nat.{◌<◌}
use native.Mathlib.Omega.{arith}
use Rattle.model.specs.Keywords.{TERM}
use Rattle.model.specs.Declarations.{output_term}
use Rattle.cursor.proofs.Laws.{lost_kind}
use Rattle.block_tables.proofs.Singletons.{with_singleton_at, singleton_added}
use Rattle.parse_state.proofs.Laws as reading
use Rattle.parse_state.proofs.Laws.{at}
use Rattle.defuzzify_text.specs.Output.{with_outputs}
use Rattle.defuzzify_text.proofs.Laws as laws
use Rattle.defuzzify_text.proofs.output_terms.Goals as goal

pub returns-then-c : goal.returns-then-c
returns-then-c c =
    let a = c.args in
    record {
      collects = λ t g.
          let u = (with_outputs a.names.now a.p t).tables in
          reading.turns_none TERM (output_term a.o) a.s.now (at a.p.cursor u) c.refuse_for-r.result u (λ z. omega arith) c.refuse_for-r.ensures.halted
          (laws.term_not a.s.now a.p.cursor u a.o c.refuse_for-r.result c.if-c.true g.holds (c.refuse_for-r.ensures.by_index _ g.fits));
      count = refl;
    }

pub loop-c-init : goal.loop-c-init
loop-c-init c =
    let a = c.args in (
      record {
        from = c.requires.0;
        turning = λ t g. reading.turns_first TERM (output_term a.o) a.s.now (with_outputs a.names.now a.p t) g c.if-c.false;
      },
      refl,
    )

pub returns-in_default : goal.returns-in_default
returns-in_default c =
    let n = c.output_term-a in
    let l = c.loop-c in
    let a = c.args in
    let m = n.ensures.adds in
    let y = rw c.in_default.is at m.term in
    record {
      collects = λ t g.
          let w = l.invariant.0.turning t g in
          let u = (with_outputs l.names l.r t).tables in
          let p₀ = with_outputs a.names.now a.p t in
          let r = at n.result.cursor u in
          reading.turns_end TERM (output_term a.o) a.s.now p₀ r
          (reading.turns_more TERM (output_term a.o) a.s.now p₀ (at l.c u) r w c.loop-c-test.true
          (y.reads u w.0.holds (record { known = omega (arith, c.requires.1, l.invariant.1); names_are = refl; row_is = refl }))
          (n.ensures.moves (λ z. omega (arith, c.loop-c-test.true))))
          (λ z. omega (arith, lost_kind a.s.now n.result.cursor m.fits y.stops));
      count = l.invariant.1;
    }

pub loop-c-preserved : goal.loop-c-preserved
loop-c-preserved c =
    let n = c.output_term-a in
    let l = c.loop-c in
    let a = c.args in
    let m = n.ensures.adds in
    let y = rw c.in-Some.is at m.term in
    let k = c.singleton_place-k in (
      record {
        from = l.invariant.0.from;
        turning = λ t g.
            let w = l.invariant.0.turning t g in
            let u = (with_outputs l.names l.r t).tables in
            let h : a.o < l.r.count = omega (arith, c.requires.1, l.invariant.1) in
            let x = with_singleton_at u a.o k.result c.in-Some.u in
            let z = singleton_added a.s.now u a.o k.result c.in-Some.u k.ensures.0 h y.room w.0.holds y.order y.inside in
            reading.turns_more TERM (output_term a.o) a.s.now (with_outputs a.names.now a.p t) (at l.c u) (at n.result.cursor x) w
            c.loop-c-test.true (y.reads u x w.0.holds (record { known = h; names_are = refl; row_is = refl }) z)
            (n.ensures.moves (λ q. omega (arith, c.loop-c-test.true)));
      },
      l.invariant.1,
    )

pub returns : goal.returns
returns c =
    let l = c.loop-c in
    let a = c.args in
    record {
      collects = λ t g.
          reading.turns_end TERM (output_term a.o) a.s.now (with_outputs a.names.now a.p t) (at l.c (with_outputs l.names l.r t).tables)
          (l.invariant.0.turning t g) c.loop-c-test.false;
      count = l.invariant.1;
    }
