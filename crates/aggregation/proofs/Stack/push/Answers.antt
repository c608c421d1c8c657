use mathlib.Core.Path.{ap, ◌∙◌}
use mathlib.Core.List.{List, ◌∷◌}
use Prim.Native.Nat.{ℕ, ◌+◌, ◌<◌}
use native.Mathlib.Omega.{arith}
use lib.ListN.{length, length-map}
use Rattle.degrees.specs.Tables.{numbers}
use Rattle.condition_words.specs.Machine.{stack_of}
use Rattle.condition_words.proofs.Stacks.{stack_push}
use Rattle.aggregation.proofs.Steps.{height_is}
use Rattle.aggregation.proofs.Stack.push.Goals as goal

pub set-requires : goal.set-requires
set-requires c =
    let h = height_is _ _ _ c.self.view_is in
    (omega arith, (omega (arith, h, c.requires.0), c.requires.1))

pub invariant_of-self : goal.invariant_of-self
invariant_of-self c =
    let h = height_is _ _ _ c.self.view_is in
    omega (arith, h, c.requires.0)

pub returns : goal.returns
returns c =
    let s = c.self.inside in
    let h = height_is _ _ _ c.self.view_is in
    let low : s.height < length (numbers s.degrees.at) = rw length-map (omega (arith, h, c.requires.0, s.degrees.long)) in
    ap (λ (x : List ℕ). stack_of 0 x (s.height + 1)) c.set.ensures ∙ stack_push 0 (numbers s.degrees.at) s.height c.args.d.0 low ∙ ap (λ (x : List ℕ). c.args.d.0 ∷ x) c.self.view_is
