use native.Mathlib.Omega.{arith}
use Rattle.defuzzify_text.proofs.Laws as laws
use Rattle.defuzzify_text.proofs.output_term.Goals as goal

pub returns-then-v-ge-TERMS : goal.returns-then-v-ge-TERMS
returns-then-v-ge-TERMS c =
    let a = c.args in
    let h = c.requires in
    let d = c.refuse_for.ensures.by_index a.s.now h.0 in
    let l = c.if-v-ge-TERMS.true in
    record {
      adds = record {
        term = record {
          reads = λ t g k. laws.term_full a.s.now a.c t a.o c.refuse_for.result h.1 k.known (omega (arith, l, laws.terms_are k)) g d;
          stops = c.refuse_for.ensures.halted;
        };
        fewer = d.fewer;
        fits = d.fits;
      };
      moves = c.refuse_for.ensures.moves a.s.now h.0;
    }

pub returns : goal.returns
returns c =
    let a = c.args in
    let h = c.requires in
    let d = c.advance-d.ensures in
    let n = c.singleton_named.ensures in
    let l = c.if-v-ge-TERMS.false in
    record {
      adds = record {
        term = laws.term_then c.singleton_named.result.term (λ m. record {
          reads = λ t g k.
              laws.term_more a.s.now a.c t a.o c.advance-d.result _ h.1 k.known (omega (arith, l, laws.terms_are k)) g d.step (m.reads t g k);
          stops = m.stops;
        }) (λ q m. record {
          reads = λ t u g k x.
              laws.term_more a.s.now a.c t a.o c.advance-d.result _ h.1 k.known (omega (arith, l, laws.terms_are k)) g d.step
              (m.reads t u g k x);
          order = m.order;
          inside = m.inside;
          room = m.room;
        }) n.term;
        fewer = omega (arith, n.fewer, d.step.fewer);
        fits = n.fits;
      };
      moves = λ z. omega (arith, n.fewer, d.moves.0);
    }
