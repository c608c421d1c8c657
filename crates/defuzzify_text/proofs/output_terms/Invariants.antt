use mathlib.Core.Path.{◌≡◌}
use mathlib.Core.List.{List}
use Prim.Native.Nat.{ℕ}
use Rattle.model.specs.Keywords.{TERM}
use Rattle.model.specs.Declarations.{output_term}
use Rattle.cursor.specs.declared.Cursor.{Cursor}
use Rattle.cursor.specs.View.{left}
use Rattle.block_tables.specs.declared.Tables.{Tables}
use Rattle.parse_state.specs.declared.ParseState.{ParseState}
use Rattle.parse_state.proofs.Laws.{at}
use Rattle.parse_state.proofs.Beside as beside
use Rattle.defuzzify_text.specs.declared.Outputs.{Outputs}
use Rattle.defuzzify_text.specs.Output.{with_outputs}
use Rattle.defuzzify_text.proofs.output_terms.Given as goal

abbrev pub here : List ℕ → Cursor → Outputs → Tables → ParseState
here names c r t = at c (with_outputs names r t).tables

abbrev pub invariant-loop-c : goal.invariant-loop-c
invariant-loop-c l = beside.Turns TERM (output_term l.o) l.s (here l.initial.names l.initial.c l.initial.r) (here l.names l.c l.r) × (l.r.count ≡ l.initial.r.count)

abbrev pub decreases-loop-c : goal.decreases-loop-c
decreases-loop-c l = left l.s l.c
