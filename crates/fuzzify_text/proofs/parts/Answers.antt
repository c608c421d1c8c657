use native.Mathlib.Omega.{arith}
use Rattle.model.specs.Keywords.{FUZZIFY}
use Rattle.model.specs.Declarations.{fuzzify}
use Rattle.cursor.proofs.Laws.{lost_kind}
use Rattle.parse_state.proofs.Laws as reading
use Rattle.fuzzify_text.specs.Terms.{inputs_in, inputs_of}
use Rattle.fuzzify_text.proofs.parts.Goals as goal

pub loop-i-init : goal.loop-i-init
loop-i-init c =
    let a = c.args in
    record { from = c.requires; leading = λ t g. reading.leads_first FUZZIFY fuzzify a.s.now (inputs_in a.names.now a.p t) g }

pub returns-in_default : goal.returns-in_default
returns-in_default c =
    let n = c.input_named-a in
    let l = c.loop-i in
    let a = c.args in
    let m = n.ensures in
    let y = rw c.in_default.is at m.input in
    λ t g.
    reading.leads_end FUZZIFY fuzzify a.s.now (inputs_in a.names.now a.p t) (inputs_in l.names l.q t)
    (inputs_in l.names (inputs_of n.result.cursor l.q.count l.q.rows l.q.terms) t) (l.invariant.leading t g)
    (y.reads l.q.terms t (l.invariant.leading t g).0) m.moves
    (λ z. omega (arith, lost_kind a.s.now n.result.cursor m.fits y.stops))

pub returns-then-q : goal.returns-then-q
returns-then-q c =
    let e = c.expect-q.ensures.step in
    let l = c.loop-i in
    let a = c.args in
    let m = c.input_named-a.ensures in
    λ t g.
    let w = l.invariant.leading t g in
    let x = c.input_terms-q.ensures.collects t (record { fits = m.fits; holds = w.0.holds }) in
    let y = (rw c.in-Some.is at m.input).reads l.q.terms t w.0 _ c.expect-q.result x e in
    reading.leads_end FUZZIFY fuzzify a.s.now (inputs_in a.names.now a.p t) (inputs_in l.names l.q t) _ w y
    (λ z. omega (arith, (rw c.in-Some.is at m.input).fewer, x.fewer, e.fewer)) c.if-q.true

pub loop-i-preserved : goal.loop-i-preserved
loop-i-preserved c =
    let e = c.expect-q.ensures.step in
    let l = c.loop-i in
    let a = c.args in
    let m = c.input_named-a.ensures in
    record {
      from = l.invariant.from;
      leading = λ t g.
          let w = l.invariant.leading t g in
          let x = c.input_terms-q.ensures.collects t (record { fits = m.fits; holds = w.0.holds }) in
          let y = (rw c.in-Some.is at m.input).reads l.q.terms t w.0 _ c.expect-q.result x e in
          reading.leads_on FUZZIFY fuzzify a.s.now (inputs_in a.names.now a.p t) (inputs_in l.names l.q t) _ w y
          (λ z. omega (arith, (rw c.in-Some.is at m.input).fewer, x.fewer, e.fewer)) (λ z. omega arith) c.if-q.false;
    }
