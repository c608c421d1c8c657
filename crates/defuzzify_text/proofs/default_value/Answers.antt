use mathlib.Core.Path.{refl}
use Rattle.defuzzify_text.proofs.Laws as laws
use Rattle.defuzzify_text.specs.Output.{with_outputs}
use Rattle.defuzzify_text.proofs.default_value.Goals as goal

pub returns-then-p-ne-NC : goal.returns-then-p-ne-NC
returns-then-p-ne-NC c =
    let a = c.args in
    record {
      by_index = λ names t g. laws.default_given a.s.now a.p.cursor (with_outputs names a.p t).tables a.o _ c.if-p-ne-NC.true
          (c.default_number.ensures.by_index names t g);
      count = c.default_number.ensures.count;
    }

pub returns : goal.returns
returns c =
    let a = c.args in
    record {
      by_index = λ names t g. laws.default_nc a.s.now a.p.cursor (with_outputs names a.p t).tables a.o c.advance.result c.if-p-ne-NC.false g.holds
          c.advance.ensures.step;
      count = refl;
    }
