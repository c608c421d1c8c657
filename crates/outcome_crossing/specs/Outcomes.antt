-- A helper: how outcomes cross to a host, as numbers. `told_then` of proofs/Outcomes ties it to what the public functions
-- hand back, crossing_back has that nothing is lost.
use Rattle.std.proofs.Math.Option.{none, some}
use Rattle.std.specs.Prelude.{ℕ}
use Rattle.model.specs.Outcome.{Outcome, accepted, refused}
use Rattle.outcome_crossing.specs.declared.GrillenhelmOutcome.{GrillenhelmOutcome}

-- 0 and what was written, or the refusal's number and its place
abbrev pub outcome_of : {A : Type 0} → (A → ℕ) → Outcome A → GrillenhelmOutcome
outcome_of written (accepted a) = record { refusal = 0; has_place = 0; place = 0; length = written a }
outcome_of written (refused n none) = record { refusal = n; has_place = 0; place = 0; length = 0 }
outcome_of written (refused n (some p)) = record { refusal = n; has_place = 1; place = p; length = 0 }

-- where nothing is written
abbrev pub bare_outcome : {A : Type 0} → Outcome A → GrillenhelmOutcome
bare_outcome o = outcome_of (λ a. 0) o
