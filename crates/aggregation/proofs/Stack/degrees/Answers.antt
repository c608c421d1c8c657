use mathlib.Core.Path.{sym, ap, ◌∙◌}
use Prim.Native.Nat.{ℕ}
use lib.ListN.{length}
use Rattle.degrees.specs.Tables.{numbers}
use Rattle.condition_words.specs.Machine.{stack_of}
use Rattle.condition_words.proofs.Stacks.{length_stack}
use Rattle.aggregation.proofs.Stack.degrees.Goals as goal

pub returns : goal.returns
returns c =
    let l = numbers c.self.inside.degrees.at in
    let e = c.self.view_is in
    ap (λ (k : ℕ). stack_of 0 l k) (sym (ap length e) ∙ length_stack 0 l c.self.inside.height) ∙ e
