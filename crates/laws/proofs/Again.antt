-- A loop on fuel, turn by turn: with more fuel than what is left to read, m, it still comes to x.
use mathlib.Core.Path.{◌≡◌, sym, ◌∙◌}
use Prim.Native.Nat.{ℕ, zero, suc, ◌<◌}
use native.Mathlib.Omega.{arith}
use Rattle.model.specs.Parse.{Part, repeat_on}

abbrev pub Again : {A : Type 0} → (ℕ → A → A) → ℕ → A → A → Type 0
Again loop m a x = (f : ℕ) × (m < f) × (loop f a ≡ x)

module _ {A : Type 0} (loop : ℕ → A → A) {m : ℕ} {a x : A} where
  -- a turn that reads something
  pub again_more : {m' : ℕ} {a' : A} → ((f : ℕ) → loop (suc f) a ≡ loop f a') → m' < m → Again loop m a x → Again loop m' a' x
  again_more {m'} {a'} turn h (zero, p, e) = absurd (omega arith)
  again_more {m'} {a'} turn h (suc f, p, e) = (f, omega arith, sym (turn f) ∙ e)

  -- no turn more
  pub again_end : ((f : ℕ) → loop f a ≡ a) → Again loop m a x → a ≡ x
  again_end stop g = sym (stop g.0) ∙ g.2

-- the repetition of a part while a token of kind k stands
abbrev pub repeats : ℕ → Part → ℕ → Part
repeats k part f = repeat_on f k part
