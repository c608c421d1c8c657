use Rattle.model.specs.Bounds.{output_limit}
use Rattle.model.specs.Declarations.{variable, add_output, output_count}
use Rattle.cursor.specs.View.{left}
use Rattle.parse_state.proofs.Laws as reading
use Rattle.parse_state.proofs.Beside as beside
use Rattle.declaration_text.specs.Declares.{with_outputs}
use Rattle.declaration_text.proofs.outputs.Given as goal

abbrev pub invariant-loop-q : goal.invariant-loop-q
invariant-loop-q l = beside.Gathering 44 (reading.again (variable add_output output_count output_limit) l.s) l.s (with_outputs l.m l.initial.names l.initial.q) (with_outputs l.m l.names l.q)

abbrev pub decreases-loop-q : goal.decreases-loop-q
decreases-loop-q l = left l.s l.q.cursor
