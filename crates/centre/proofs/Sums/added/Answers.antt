use mathlib.Core.Path.{◌≡◌, sym, ◌∙◌}
use mathlib.Core.List.{[], ◌∷◌}
use Prim.Native.Nat.{ℕ, ◌*◌}
use native.Mathlib.Omega.{arith}
use lib.ListN.{length-append}
use Rattle.laws.proofs.Lists.{total_last}
use Rattle.crisp.specs.Crisp.{above}
use Rattle.centre.proofs.Moment.{lifted_last}
use Rattle.centre.proofs.Sums.added.Goals as goal

pub returns-clause-sums_of : goal.returns-clause-sums_of
returns-clause-sums_of c ps hs s =
    let p = c.args.p.0 in
    let h = c.args.h.0 in
    let a : c.from-a.result ≡ above p = c.from-a.ensures ∙ c.lift.ensures.0 in
    let e : c.from-a.result * c.from-w.result ≡ above p * h = λ j. a j * c.from-w.ensures j in (
      length-append ps (p ∷ []) ∙ omega (arith, s.0) ∙ sym (length-append hs (h ∷ [])),
      omega (arith, s.1, total_last (λ (x : ℕ). x) hs h, c.from-w.ensures),
      omega (arith, s.2, lifted_last ps hs p h s.0, e),
    )
