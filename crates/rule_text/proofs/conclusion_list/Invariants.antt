use mathlib.Core.Path.{◌≡◌}
use mathlib.Core.List.{List}
use Prim.Native.Nat.{ℕ, ◌<◌}
use lib.ListN.{length}
use Rattle.model.specs.Basic.{gather}
use Rattle.model.specs.Block.{Block, Rule}
use Rattle.cursor.specs.View.{left}
use Rattle.symbol_table.specs.Declarations.{Declares}
use Rattle.rule_text.specs.Progress.{Onward, midst}
use Rattle.rule_text.proofs.Laws as laws
use Rattle.rule_text.proofs.conclusion_list.Given as goal

abbrev pub invariant-loop-q : goal.invariant-loop-q
invariant-loop-q l =
    Onward l.d.text.now l.initial.q l.q × ((b : Block) (rs : List Rule) (x : Rule) (m : ℕ) → Declares l.d b
    → length (gather (λ r. r.conclusions) (midst b rs x).rules) ≡ l.initial.q.count
    → (n : ℕ) → left l.d.text.now l.initial.q.cursor < n → laws.Lists l.d.text.now b rs x m n l.initial.q l.q l.initial.conclusions l.conclusions)

abbrev pub decreases-loop-q : goal.decreases-loop-q
decreases-loop-q l = left l.d.text.now l.q.cursor
