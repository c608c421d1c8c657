-- Two names of four words each, compared one word after the other.
use mathlib.Core.Path.{◌≡◌}
use mathlib.Core.Bool.{true, ◌&&◌}
use Prim.Native.Nat.{ℕ, suc, ◌+◌}
use native.Mathlib.Omega.{arith}
use lib.Dec.{eqb}
use Rattle.model.specs.Basic.{same, tab}

module _ (w : ℕ → ℕ) (o q : ℕ) where
  pub spread : same (tab w 4 o) (tab w 4 q)
      ≡ eqb (w o) (w q) && (eqb (w (o + 1)) (w (q + 1)) && (eqb (w (o + 2)) (w (q + 2)) && (eqb (w (o + 3)) (w (q + 3)) && true)))
  unfolding tab
  spread =
      λ j.
      eqb (w o) (w q)
      && (eqb (w (one o j)) (w (one q j)) && (eqb (w (two o j)) (w (two q j)) && (eqb (w (three o j)) (w (three q j)) && true)))
    where
      one : (k : ℕ) → suc k ≡ k + 1
      one k = omega arith

      two : (k : ℕ) → suc (suc k) ≡ k + 2
      two k = omega arith

      three : (k : ℕ) → suc (suc (suc k)) ≡ k + 3
      three k = omega arith
