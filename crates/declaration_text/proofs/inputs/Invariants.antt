use Rattle.model.specs.Bounds.{input_limit}
use Rattle.model.specs.Declarations.{variable, add_input, input_count}
use Rattle.cursor.specs.View.{left}
use Rattle.parse_state.proofs.Laws as reading
use Rattle.parse_state.proofs.Beside as beside
use Rattle.declaration_text.specs.Declares.{with_inputs}
use Rattle.declaration_text.proofs.inputs.Given as goal

abbrev pub invariant-loop-q : goal.invariant-loop-q
invariant-loop-q l = beside.Gathering 44 (reading.again (variable add_input input_count input_limit) l.s) l.s (with_inputs l.m l.initial.names l.initial.q) (with_inputs l.m l.names l.q)

abbrev pub decreases-loop-q : goal.decreases-loop-q
decreases-loop-q l = left l.s l.q.cursor
