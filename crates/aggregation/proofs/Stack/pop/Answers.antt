use mathlib.Core.Path.{sym, ap, ◌∙◌}
use mathlib.Core.List.{◌∷◌}
use Prim.Native.Nat.{ℕ, ◌-◌}
use native.Mathlib.Omega.{arith}
use Rattle.degrees.specs.Tables.{numbers}
use Rattle.condition_words.specs.Machine.{stack_of}
use Rattle.condition_words.proofs.Stacks.{stack_one}
use Rattle.aggregation.proofs.Steps.{height_is}
use Rattle.aggregation.proofs.Stack.pop.Goals as goal

pub overflow_sub-self : goal.overflow_sub-self
overflow_sub-self c = omega (arith, height_is _ _ _ c.self.view_is, c.requires)

pub returns : goal.returns
returns c =
    let s = c.self.inside in
    let l = numbers s.degrees.at in
    let h = height_is _ _ _ c.self.view_is in (
      sym c.self.view_is ∙ stack_one 0 l s.height (omega (arith, h, c.requires))
          ∙ ap (λ (x : ℕ). x ∷ stack_of 0 l (s.height - 1)) (sym c.get.ensures.0),
      c.get.ensures.1,
    )
