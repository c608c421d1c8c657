-- Sums over terms, one more a turn: what is left from i up to n.
use mathlib.Core.Path.{◌≡◌}
use Prim.Native.Nat.{ℕ, ◌+◌, ◌-◌, ◌≤◌, ◌<◌}
use native.Mathlib.Numerals.{add-one}
use Rattle.laws.proofs.Places.{step, gone}
use Rattle.layout.specs.Tables.{sums}

module _ (c : ℕ → ℕ) (n i : ℕ) where
  pub sums_more : i < n → sums c (n - i) i ≡ c i + sums c (n - (i + 1)) (i + 1)
  unfolding sums
  sums_more h = rw (step n i h, add-one)

  pub sums_end : n ≤ i → sums c (n - i) i ≡ 0
  unfolding sums
  sums_end h = rw (gone n i h)
