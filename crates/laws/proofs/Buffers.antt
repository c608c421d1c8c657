-- What bytes answer that go into a lent buffer: 10 where there is too little room, else their length.
use mathlib.Core.Path.{◌≡◌, refl, sym, ap, ◌∙◌}
use mathlib.Core.Bool.{false}
use mathlib.Core.List.{List, ◌++◌}
use mathlib.Core.Option.{some}
use Prim.Native.Nat.{ℕ, ◌≤◌, ◌<◌}
use native.Mathlib.Omega.{arith}
use borrow.Author.Tests.{lt-ltb, le-ltb}
use lib.Dec.{ltb}
use lib.ListN.{length, drop}
use Rattle.model.specs.Outcome.{accepted, refused, into, length_in, buffer_after}

pub fits : (s : List ℕ) (room : ℕ) → length s ≤ room → into room s ≡ accepted s
unfolding into
fits s room h = let f : ltb room (length s) ≡ false = le-ltb room (length s) h in rw f

module _ (s old : List ℕ) (n : ℕ) (long : length s ≡ n) where
  pub too_short : length old < n → (refused 10 (some n) ≡ length_in (into (length old) s)) × (old ≡ buffer_after old (into (length old) s))
  unfolding into
  too_short h = rw (long, lt-ltb (length old) n h) (refl, refl)

  pub stored : (new : List ℕ) → n ≤ length old → new ≡ s ++ drop n old
      → (accepted n ≡ length_in (into (length old) s)) × (new ≡ buffer_after old (into (length old) s))
  stored new h e =
      let f = fits s (length old) (omega arith) in
      (rw f (ap accepted (sym long)), rw f (e ∙ ap (λ (k : ℕ). s ++ drop k old) (sym long)))
