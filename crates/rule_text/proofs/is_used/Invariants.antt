use mathlib.Core.Path.{◌≡◌}
use mathlib.Core.Bool.{not}
use mathlib.Core.List.{List}
use Prim.Native.Nat.{◌≤◌}
use lib.Dec.{eqb}
use lib.ListN.{drop}
use Rattle.model.specs.Basic.{all}
use Rattle.model.specs.Block.{Rule}
use Rattle.rule_text.specs.Progress.{Rows}
use Rattle.rule_text.proofs.is_used.Given as goal

abbrev pub invariant-loop-k : goal.invariant-loop-k
invariant-loop-k l = (l.k ≤ l.count) × ((rs : List Rule) → Rows rs l.rules l.count
    → all (λ q. not (eqb q.number l.number)) (drop l.k rs) ≡ all (λ q. not (eqb q.number l.number)) rs)
