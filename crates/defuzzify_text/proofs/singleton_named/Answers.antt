use native.Mathlib.Omega.{arith}
use Rattle.cursor.proofs.Laws.{steps, never_zero}
use Rattle.parse_state.proofs.Laws as reading
use Rattle.defuzzify_text.proofs.Laws as laws
use Rattle.defuzzify_text.proofs.singleton_named.Goals as goal

pub returns-in-Err : goal.returns-in-Err
returns-in-Err c =
    let a = c.args in
    let d = c.refuse_for.ensures.by_index a.s.now c.requires.0 in
    record {
      term = record {
        reads = λ t g k.
            laws.named_none a.s.now a.c t a.o c.refuse_for.result _
            (c.in-Err.ensures.value _ 0 (laws.singletons a.s.now a.names.now t a.o a.v g k)) (never_zero c.in-Err.fault) g d;
        stops = c.refuse_for.ensures.halted;
      };
      fewer = d.fewer;
      fits = d.fits;
    }

pub expect-r-requires : goal.expect-r-requires
expect-r-requires c = ((c.singleton_at-r.ensures c.args.names.now 0).fits, omega arith)

pub returns : goal.returns
returns c =
    let a = c.args in
    let n = c.singleton_at-r.ensures a.names.now a.o in
    let d = steps c.advance-d.ensures.step c.expect-e.ensures.step in
    let e = c.expect-r.ensures.step in
    record {
      term = laws.term_then c.singleton_at-r.result.term (λ m. record {
        reads = λ t g k.
            let y = m.reads t g k in
            laws.named_some a.s.now a.c t a.o _ (c.in_default.ensures.value _ 0 (laws.singletons a.s.now a.names.now t a.o a.v g k))
            (reading.next (reading.next (reading.step t g d) y) (reading.step _ y.good.holds e));
        stops = λ y. m.stops (e.sticky y);
      }) (λ q m. record {
        reads = λ t u g k x.
            let y = m.reads t u g k x in
            laws.named_some a.s.now a.c t a.o _ (c.in_default.ensures.value _ 0 (laws.singletons a.s.now a.names.now t a.o a.v g k))
            (reading.next (reading.next (reading.step t g d) y) (reading.step _ y.good.holds e));
        order = m.order;
        inside = m.inside;
        room = m.room;
      }) n.term;
      fewer = omega (arith, d.fewer, n.fewer, e.fewer);
      fits = e.fits;
    }
