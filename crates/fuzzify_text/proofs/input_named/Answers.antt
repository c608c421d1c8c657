use native.Mathlib.Omega.{arith}
use Rattle.model.specs.Declarations.{fuzzify}
use Rattle.parse_state.proofs.Laws as reading
use Rattle.fuzzify_text.specs.Terms.{inputs_in, inputs_of}
use Rattle.cursor.proofs.Laws.{never_zero}
use Rattle.fuzzify_text.proofs.Laws as laws
use Rattle.fuzzify_text.proofs.input_named.Goals as goal

pub returns-in-Err : goal.returns-in-Err
unfolding fuzzify
returns-in-Err c =
    let a = c.args in
    let d = c.expect-d in
    let e = d.ensures.step in
    let r = c.refuse_for.ensures.by_index a.s.now e.fits in
    record {
      input = record {
        reads = λ ts t g.
            let u = (inputs_in a.names.now (inputs_of a.c a.n a.rows ts) t).tables in
            reading.next (reading.step u g.holds e)
            (laws.part_bad a.s.now d.result u c.refuse_for.result _ (c.in-Err.ensures.by_index _ e.fits _ 0) g.holds
            (never_zero c.in-Err.fault) r);
        stops = c.refuse_for.ensures.halted;
      };
      moves = λ z. omega (arith, d.ensures.moves z, r.fewer);
      fits = r.fits;
    }

pub returns-in_default-find : goal.returns-in_default-find
unfolding fuzzify
returns-in_default-find c =
    let a = c.args in
    let d = c.expect-d in
    let e = d.ensures.step in
    let r = c.refuse_for-in_default-find.ensures.by_index a.s.now e.fits in
    record {
      input = record {
        reads = λ ts t g.
            let u = (inputs_in a.names.now (inputs_of a.c a.n a.rows ts) t).tables in
            reading.next (reading.step u g.holds e)
            (laws.part_unknown a.s.now d.result u c.refuse_for-in_default-find.result (c.in_default.ensures.by_index _ e.fits _ 0) _ c.in_default-find.ensures
            g.holds (omega arith) r);
        stops = c.refuse_for-in_default-find.ensures.halted;
      };
      moves = λ z. omega (arith, d.ensures.moves z, r.fewer);
      fits = r.fits;
    }

pub returns-then-rows-i-ne0 : goal.returns-then-rows-i-ne0
unfolding fuzzify
returns-then-rows-i-ne0 c =
    let a = c.args in
    let d = c.expect-d in
    let e = d.ensures.step in
    let r = c.refuse_for-then-rows-i-ne0.ensures.by_index a.s.now e.fits in
    record {
      input = record {
        reads = λ ts t g.
            let u = (inputs_in a.names.now (inputs_of a.c a.n a.rows ts) t).tables in
            reading.next (reading.step u g.holds e)
            (laws.part_again a.s.now d.result u c.refuse_for-then-rows-i-ne0.result (c.in_default.ensures.by_index _ e.fits _ 0) _ c.in-Some.ensures.0
            g.holds c.in-Some.ensures.1 c.if-rows-i-ne0.true r);
        stops = c.refuse_for-then-rows-i-ne0.ensures.halted;
      };
      moves = λ z. omega (arith, d.ensures.moves z, r.fewer);
      fits = r.fits;
    }

pub returns : goal.returns
unfolding fuzzify
returns c =
    let a = c.args in
    let d = c.expect-d in
    let e = d.ensures.step in
    let r = c.advance.ensures in
    let l = c.in-Some.ensures.1 in
    record {
      input = record {
        reads = λ ts t g p k x q.
            let u = (inputs_in a.names.now (inputs_of a.c a.n a.rows ts) t).tables in
            reading.next (reading.step u g.holds e)
            (laws.part_good a.s.now d.result u c.advance.result (c.in_default.ensures.by_index _ e.fits _ 0) _ c.in-Some.ensures.0
            g.holds l p k c.if-rows-i-ne0.false r.step x q);
        known = l;
        fewer = omega (arith, r.moves.0, e.fewer);
      };
      moves = λ z. omega (arith, r.moves.0, e.fewer);
      fits = r.step.fits;
    }
