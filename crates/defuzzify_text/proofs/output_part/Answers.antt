use mathlib.Core.Path.{◌∙◌}
use Rattle.cursor.proofs.Laws.{steps}
use Rattle.parse_state.proofs.Laws as reading
use Rattle.defuzzify_text.specs.Output.{part_text}
use Rattle.defuzzify_text.proofs.output_part.Goals as goal

pub returns : goal.returns
unfolding part_text
returns c =
    let x = c.optional_range-q.ensures in
    let y = c.output_terms-q.ensures in
    let m = c.method-q.ensures in
    let z = c.default_value-q.ensures in
    record {
      collects = λ t g.
          let u = x.by_index _ t g in
          let v = y.collects t u.good in
          let w = z.by_index _ t (record { fits = m.fits; holds = v.good.holds }) in
          reading.next (reading.next (reading.next (reading.next u v) (reading.step _ v.good.holds m)) w)
          (reading.step _ w.good.holds (steps c.expect-q.ensures.step c.expect-q-2.ensures.step));
      count = z.count ∙ y.count ∙ x.count;
    }
