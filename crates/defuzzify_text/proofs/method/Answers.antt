use Rattle.cursor.proofs.Laws.{steps}
use Rattle.defuzzify_text.specs.Output.{method_text}
use Rattle.defuzzify_text.proofs.method.Goals as goal

pub returns : goal.returns
unfolding method_text
returns c =
    steps (steps (steps (steps (steps c.expect-a.ensures.step c.expect-b.ensures.step) c.expect-d.ensures.step)
    c.expect-e.ensures.step) c.expect-f.ensures.step) c.expect.ensures.step
