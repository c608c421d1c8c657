use Rattle.model.specs.Keywords.{FUZZIFY}
use Rattle.model.specs.Declarations.{fuzzify}
use Rattle.cursor.specs.View.{left}
use Rattle.parse_state.proofs.Beside as beside
use Rattle.fuzzify_text.specs.Terms.{inputs_in}
use Rattle.fuzzify_text.proofs.parts.Given as goal

abbrev pub invariant-loop-i : goal.invariant-loop-i
invariant-loop-i l = beside.Leads FUZZIFY fuzzify l.s (inputs_in l.initial.names l.initial.q) (inputs_in l.names l.q)

abbrev pub decreases-loop-i : goal.decreases-loop-i
decreases-loop-i l = left l.s l.q.cursor
