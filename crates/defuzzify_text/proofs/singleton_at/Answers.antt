use native.Mathlib.Omega.{arith}
use lib.Seq.{slice}
use Rattle.model.specs.Block.{with_singleton}
use Rattle.cursor.proofs.Laws.{never_zero}
use Rattle.defuzzify_text.proofs.Laws as laws
use Rattle.defuzzify_text.proofs.singleton_at.Goals as goal

pub returns-in-Err : goal.returns-in-Err
returns-in-Err c =
    let a = c.args in
    let h = c.requires in
    let d = c.refuse_for.ensures.by_index a.s.now h.0 in
    λ names o.
    record {
      term = record {
        reads = λ t g k.
            laws.figure_none a.s.now a.c c.refuse_for.result t o
            (λ x. with_singleton (record { name = slice a.start a.end a.s.now; at = x })) k.known _
            (laws.by_row a.s.now names a.c t o _ a.v k (c.in-Err.ensures.checked _ 0)) (never_zero c.in-Err.fault) g d;
        stops = c.refuse_for.ensures.halted;
      };
      fewer = d.fewer;
      fits = d.fits;
    }

pub returns-in-Ok : goal.returns-in-Ok
returns-in-Ok c =
    let a = c.args in
    let h = c.requires in
    let d = c.advance.ensures.step in
    let x = c.in-Ok.ensures in
    λ names o.
    record {
      term = record {
        reads = λ t u g k z.
            laws.figure_set a.s.now a.c c.advance.result t o
            (λ y. with_singleton (record { name = slice a.start a.end a.s.now; at = y })) k.known u _
            (laws.by_row a.s.now names a.c t o 0 a.v k (x.checked _ 0)) x.value.1 h.0 (λ y. omega (arith, x.value.0)) z d;
        order = h.2;
        inside = h.3;
        room = h.1;
      };
      fewer = d.fewer;
      fits = d.fits;
    }
