use native.Mathlib.Omega.{arith}
use Rattle.declaration_text.proofs.Laws as laws
use Rattle.parse_state.proofs.Laws as reading
use Rattle.declaration_text.specs.Declares.{with_inputs}
use Rattle.declaration_text.proofs.input_declaration.Goals as goal

pub returns : goal.returns
returns c =
    let r = c.requires in
    let x = c.inputs-q.ensures in
    let d = c.expect-q.ensures.step in
    let y = c.input_type-q.ensures _ _ in
    let e = c.expect-q-2.ensures.step in
    record {
      collects = λ t g.
          let u = x.collects t g in
          let v = y t (record { fits = d.fits; holds = u.good.holds }) in
          reading.also (reading.next (reading.next (reading.next u (reading.step _ u.good.holds d)) v) (reading.step _ v.good.holds e))
          (laws.declaration_is _ (with_inputs c.args.m c.args.names.now c.args.p t));
      moves = λ h.
          let u = x.collects r.tables r.good in
          omega (arith, x.moves h, d.fewer, (y r.tables (record { fits = d.fits; holds = u.good.holds })).fewer, e.fewer);
    }
