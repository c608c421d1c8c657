use mathlib.Core.Path.{◌≡◌}
use Rattle.model.specs.Declarations.{defuzzify}
use Rattle.cursor.specs.View.{left}
use Rattle.parse_state.proofs.Beside as beside
use Rattle.defuzzify_text.specs.Output.{with_outputs}
use Rattle.defuzzify_text.proofs.parts.Given as goal

abbrev pub invariant-loop-q : goal.invariant-loop-q
invariant-loop-q l = beside.Gathering 138 defuzzify l.s (with_outputs l.initial.names l.initial.q) (with_outputs l.names l.q) × (l.q.count ≡ l.initial.q.count)

abbrev pub decreases-loop-q : goal.decreases-loop-q
decreases-loop-q l = left l.s l.q.cursor
