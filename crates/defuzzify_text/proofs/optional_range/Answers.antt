use mathlib.Core.Path.{refl}
use Rattle.defuzzify_text.proofs.Laws as laws
use Rattle.defuzzify_text.specs.Output.{with_outputs}
use Rattle.cursor.proofs.Laws.{steps}
use Rattle.defuzzify_text.proofs.optional_range.Goals as goal

pub returns-then-p-ne-RANGE : goal.returns-then-p-ne-RANGE
returns-then-p-ne-RANGE c =
    let a = c.args in
    record {
      by_index = λ names t g. laws.range_not a.s.now a.p.cursor (with_outputs names a.p t).tables a.o c.if-p-ne-RANGE.true g;
      count = refl;
    }

pub returns : goal.returns
returns c =
    let a = c.args in
    record {
      by_index = λ names t g.
          laws.range_given a.s.now a.p.cursor (with_outputs names a.p t).tables a.o c.expect-e.result _ c.if-p-ne-RANGE.false g.holds
          (steps c.advance-d.ensures.step c.expect-e.ensures.step)
          (c.range_from.ensures.by_index names t (record { fits = c.expect-e.ensures.step.fits; holds = g.holds }));
      count = c.range_from.ensures.count;
    }
