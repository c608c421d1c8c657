use Prim.Native.Nat.{ℕ}
use mathlib.Core.Path.{sym, ap, ◌∙◌}
use Rattle.std.specs.Prelude.{Result}
use Rattle.model.specs.Refusals.{number_and_place, verdict_of}
use Rattle.model.specs.declared.Refusal.{Refusal}
use Rattle.outcome_crossing.specs.Outcomes.{bare_outcome}
use Rattle.outcome_crossing.proofs.Outcomes.{any_refusal}
use Rattle.outcome_crossing.proofs.verdict.Goals as goal

pub returns-in-Ok : goal.returns-in-Ok
returns-in-Ok c =
    c.accepted.ensures ∙ ap (λ (v : Result (Unit {0}) Refusal). bare_outcome (verdict_of v)) (sym c.in-Ok.is)

pub returns-in-Err : goal.returns-in-Err
returns-in-Err c =
    let why = number_and_place c.in-Err.why in
    c.refused.ensures ∙ any_refusal {A = ℕ} {B = Unit {0}} (λ n. n) (λ a. 0) why.0 why.1 ∙ ap (λ (v : Result (Unit {0}) Refusal). bare_outcome (verdict_of v)) (sym c.in-Err.is)
