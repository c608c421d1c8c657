use Prim.Native.Nat.{◌+◌, ◌*◌}
use Rattle.model.specs.Block.{Block, and as andOf, or as or_of}
use Rattle.model.specs.Keywords.{AND, OR}
use Rattle.model.specs.Rules.{chain, operand as operandOf, parenthesis}
use Rattle.cursor.specs.View.{left}
use Rattle.symbol_table.specs.Declarations.{Declares}
use Rattle.condition_text.specs.Pending.{Balanced}
use Rattle.condition_text.proofs.Laws as laws
use Rattle.condition_text.proofs.+condition_conjunction_operand_plain.Given as goal

abbrev pub decreases-condition : goal.decreases-condition
decreases-condition l = 4 * l.depth + 3

abbrev pub decreases-conjunction : goal.decreases-conjunction
decreases-conjunction l = 4 * l.depth + 2

abbrev pub decreases-operand : goal.decreases-operand
decreases-operand l = 4 * l.depth + 1

abbrev pub decreases-plain : goal.decreases-plain
decreases-plain l = 4 * l.depth + 0

abbrev pub invariant-condition-loop-q : goal.invariant-condition-loop-q
invariant-condition-loop-q l =
    Balanced l.d.text.now 0 l.initial.q l.q l.initial.words l.words × ((b : Block) → Declares l.d b
    → laws.Going (chain (operandOf (parenthesis l.depth)) AND andOf) OR or_of l.d.text.now b l.initial.q l.initial.words l.q l.words)

abbrev pub decreases-condition-loop-q : goal.decreases-condition-loop-q
decreases-condition-loop-q l = left l.d.text.now l.q.cursor

abbrev pub invariant-conjunction-loop-q : goal.invariant-conjunction-loop-q
invariant-conjunction-loop-q l =
    Balanced l.d.text.now 0 l.initial.q l.q l.initial.words l.words × ((b : Block) → Declares l.d b
    → laws.Going (operandOf (parenthesis l.depth)) AND andOf l.d.text.now b l.initial.q l.initial.words l.q l.words)

abbrev pub decreases-conjunction-loop-q : goal.decreases-conjunction-loop-q
decreases-conjunction-loop-q l = left l.d.text.now l.q.cursor
