-- Whether a buffer from a place on is as it was filled, byte by byte.
use mathlib.Core.Path.{◌≡◌, refl, sym, ap, ◌∙◌}
use mathlib.Core.Bool.{Bool, true, false}
use mathlib.Core.List.{List}
use Prim.Native.Nat.{ℕ, suc, ◌+◌, ◌≤◌, ◌<◌}
use native.Mathlib.Omega.{arith}
use borrow.Author.Tests.{eq-eqb, ne_eqb}
use lib.Dec.{eqb}
use lib.ListN.{length, drop, get_or}
use lib.ListN.{drop_of_length-le}
use lib.Seq.{drop-cons}
use Rattle.model.specs.Basic.{all}

module _ (fill : ℕ) (buf : List ℕ) (i : ℕ) where
  abbrev pub filled : Bool
  filled = all (eqb fill) (drop i buf)

  pub goes_on_lem : i < length buf → get_or buf i 0 ≡ fill → filled ≡ all (eqb fill) (drop (i + 1) buf)
  unfolding all
  goes_on_lem l e =
      let n : i + 1 ≡ suc i = omega arith in
      ap (all (eqb fill)) (drop-cons buf i 0 l) ∙ rw (n, eq-eqb fill (get_or buf i 0) (sym e)) refl

  pub stops : i < length buf → (get_or buf i 0 ≡ fill → ⊥) → filled ≡ false
  unfolding all
  stops l e = ap (all (eqb fill)) (drop-cons buf i 0 l) ∙ rw (ne_eqb fill (get_or buf i 0) (λ q. e (sym q))) refl

  pub ends : length buf ≤ i → filled ≡ true
  unfolding all
  ends l = ap (all (eqb fill)) (drop_of_length-le buf l)
