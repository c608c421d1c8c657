-- What is told of an outcome.
use mathlib.Core.Path.{◌≡◌, refl, sym, ap}
use mathlib.Core.Option.{Option, none, some}
use Prim.Native.Nat.{ℕ}
use mir.Val.{bool_byte}
use Rattle.std.specs.Prelude as rust
use Rattle.std.specs.Option.{is_some, unwrap_or}
use Rattle.model.specs.Outcome.{Outcome, accepted, refused, and_then}
use Rattle.refusals.specs.Told.{place_of}
use Rattle.outcome_crossing.specs.Outcomes.{outcome_of}
use Rattle.outcome_crossing.specs.declared.GrillenhelmOutcome.{GrillenhelmOutcome}

-- number, whether there is a place, and the place
pub refusal_told : (o : Outcome ℕ) (number : ℕ) (place : rust.Option ℕ) → o ≡ refused number (place_of place)
    → ◌≡◌ {A = GrillenhelmOutcome}
    (record { refusal = number; has_place = bool_byte (is_some place); place = unwrap_or place 0; length = 0 }) (outcome_of (λ n. n) o)
refusal_told o number (rust.Some place) e = sym (ap (outcome_of (λ n. n)) e)
refusal_told o number rust.None e = sym (ap (outcome_of (λ n. n)) e)

-- a refusal is told alike whatever was to be answered
pub any_refusal : {A B : Type 0} (f : A → ℕ) (g : B → ℕ) (n : ℕ) (p : Option ℕ) → outcome_of f (refused n p) ≡ outcome_of g (refused n p)
any_refusal f g n none = refl
any_refusal f g n (some place) = refl

-- of a result that was made of another
pub told_then : {A B : Type 0} (g : B → ℕ) (f : A → B) (o : Outcome A) → outcome_of g (and_then o (λ a. accepted (f a))) ≡ outcome_of (λ a. g (f a)) o
told_then g f (accepted a) = refl
told_then g f (refused n none) = refl
told_then g f (refused n (some p)) = refl
