use native.Mathlib.Omega.{arith}
use Rattle.parse_state.proofs.Laws as reading
use Rattle.model.specs.Declarations.{defuzzify}
use Rattle.defuzzify_text.proofs.defuzzify_part.Goals as goal

pub returns : goal.returns
unfolding defuzzify
returns c =
    let r = c.requires in
    let d = c.expect-q.ensures in
    let x = c.defuzzify_named.ensures in
    record {
      collects = λ t g. reading.next (reading.step _ g.holds d.step) (x.collects t (record { fits = d.step.fits; holds = g.holds }));
      count = x.count;
      moves = λ h. omega (arith, d.moves h, (x.collects r.tables (record { fits = d.step.fits; holds = r.good.holds })).fewer);
    }
