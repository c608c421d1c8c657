use Rattle.std.specs.Prelude.{None}
use mathlib.Core.Path.{◌≡◌}
use mathlib.Core.List.{List}
use Prim.Native.Nat.{ℕ, ◌<◌}
use Rattle.model.specs.Block.{Block, Rule}
use Rattle.cursor.specs.View.{left}
use Rattle.symbol_table.specs.Declarations.{Declares}
use Rattle.rule_text.specs.Progress.{Kept, Within}
use Rattle.rule_text.proofs.Laws as laws
use Rattle.rule_text.proofs.rules.Given as goal

abbrev pub invariant-loop-q : goal.invariant-loop-q
invariant-loop-q l =
    Within l.d.text.now l.initial.q l.q × ((b : Block) → Declares l.d b → (rs : List Rule) → (l.initial.q.cursor.refused ≡ None → Kept rs l.initial.rules l.initial.words l.initial.conclusions l.initial.q.totals)
    → (n : ℕ) → left l.d.text.now l.initial.q.cursor < n → laws.Runs l.d.text.now b rs n l.initial.q l.q l.rules l.words l.conclusions)

abbrev pub decreases-loop-q : goal.decreases-loop-q
decreases-loop-q l = left l.d.text.now l.q.cursor
