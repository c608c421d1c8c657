use mathlib.Core.Path.{refl}
use Rattle.rule_text.proofs.refused.Goals as goal

pub returns : goal.returns
returns c =
    record {
      by_index = (λ s g. (c.refuse_for.ensures.by_index s g, c.refuse_for.ensures.moves s g));
      totals = (refl, c.refuse_for.ensures.halted);
    }
