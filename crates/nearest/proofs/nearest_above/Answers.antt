use mathlib.Core.Path.{ap, ◌∙◌}
use Prim.Native.Nat.{ℕ, ◌+◌}
use Rattle.nearest_laws.proofs.Laws.{nearest_from}
use Rattle.nearest.proofs.nearest_above.Goals as goal

pub returns-then-least-a : goal.returns-then-least-a
returns-then-least-a c =
    let a = c.args in
    ap (λ (x : ℕ). a.k + x) c.nearest_quotient.ensures ∙ nearest_from a.k a.a a.b c.requires.1 c.if-least-a.true
