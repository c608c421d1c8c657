-- One step over a text, at its first byte and at a place of it: whether what begins there passes, and how far what passes
-- goes on.
use mathlib.Core.Path.{◌≡◌}
use mathlib.Core.List.{List, [], ◌∷◌}
use mathlib.Core.Bool.{Bool, true, false}
use Prim.Native.Nat.{ℕ, suc, ◌+◌, ◌≤◌, ◌<◌}
use native.Mathlib.Numerals.{add-one}
use native.Mathlib.Omega.{arith}
use lib.ListN.{length, drop, get_or, drop_of_length-le}
use lib.Seq.{drop-cons}
use Rattle.model.specs.Basic.{run}
use Rattle.model.specs.Tokens.{is_underscore, starts, tidy}

pub tidy_cons : (c : ℕ) (w : List ℕ) → is_underscore c ≡ false → tidy (c ∷ w) ≡ tidy w
unfolding tidy
tidy_cons c [] e = simp e
tidy_cons c (d ∷ w) e = simp e

module _ (f : ℕ → Bool) (c : ℕ) (s : List ℕ) where
  pub run_in : f c ≡ true → run f (c ∷ s) ≡ suc (run f s)
  unfolding run
  run_in e = simp (run, e)

  pub run_out : f c ≡ false → run f (c ∷ s) ≡ 0
  unfolding run
  run_out e = simp (run, e)

module _ (f : ℕ → Bool) (s : List ℕ) (i : ℕ) where
  pub starts_here : i < length s → starts f (drop i s) ≡ f (get_or s i 0)
  starts_here h = rw (drop-cons s i 0 h)

  pub starts_end : length s ≤ i → starts f (drop i s) ≡ false
  starts_end h = rw (drop_of_length-le s h)

  pub run_more : i < length s → f (get_or s i 0) ≡ true → i + run f (drop i s) ≡ (i + 1) + run f (drop (i + 1) s)
  run_more h e =
      let q : run f (drop i s) ≡ suc (run f (drop (suc i) s)) = rw (drop-cons s i 0 h) (run_in f (get_or s i 0) (drop (suc i) s) e) in
      rw add-one (omega (arith, q))

  pub run_stop : i < length s → f (get_or s i 0) ≡ false → i + run f (drop i s) ≡ i
  run_stop h e =
      let q : run f (drop i s) ≡ 0 = rw (drop-cons s i 0 h) (run_out f (get_or s i 0) (drop (suc i) s) e) in
      omega (arith, q)

  pub run_end : length s ≤ i → i + run f (drop i s) ≡ i
  unfolding run
  run_end h =
      let q : run f (drop i s) ≡ 0 = rw (drop_of_length-le s h) in
      omega (arith, q)
