use mathlib.Core.Path.{sym, ap, ◌∙◌}
use Prim.Native.Nat.{ℕ, ◌<◌}
use native.Mathlib.Omega.{arith}
use lib.IntN.{sub_ℕ}
use borrow.Author.Tests.{lt-ltb}
use Rattle.model.specs.Bounds.{crisp_limit}
use Rattle.model.specs.Degrees.{nearest}
use Rattle.model.specs.Evaluation.{sum_of}
use Rattle.centre.proofs.Moment.{nearest_is}
use Rattle.centre.proofs.Sums.centre.Goals as goal

pub returns : goal.returns
returns c = (
  omega (arith, c.if-self-eq0.false),
  c.lower.ensures.1,
  λ ps hs s crisp.
      let some : 0 < sum_of hs = omega (arith, s.1, c.if-self-eq0.false) in
      rw (lt-ltb 0 (sum_of hs) some)
      (c.lower.ensures.0 ∙ ap (λ (x : ℕ). sub_ℕ x crisp_limit) (c.nearest_above-q.ensures ∙ (λ j. nearest (s.2 j) (s.1 j))) ∙ sym (nearest_is ps hs s.0 crisp some)),
)
