use Rattle.model.specs.Declarations.{output_declaration}
use Rattle.cursor.specs.View.{left}
use Rattle.parse_state.proofs.Beside as beside
use Rattle.declaration_text.specs.Declares.{with_outputs}
use Rattle.declaration_text.proofs.all_outputs.Given as goal

abbrev pub invariant-loop-q : goal.invariant-loop-q
invariant-loop-q l = beside.Gathering 2 output_declaration l.s (with_outputs l.m l.initial.names l.initial.q) (with_outputs l.m l.names l.q)

abbrev pub decreases-loop-q : goal.decreases-loop-q
decreases-loop-q l = left l.s l.q.cursor
