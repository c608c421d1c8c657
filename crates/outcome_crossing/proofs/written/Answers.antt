use mathlib.Core.Path.{sym, ap, ◌∙◌}
use Rattle.std.specs.Prelude.{ℕ, Result}
use Rattle.model.specs.Refusals.{written_of}
use Rattle.model.specs.declared.Refusal.{Refusal}
use Rattle.outcome_crossing.specs.Outcomes.{outcome_of}
use Rattle.outcome_crossing.proofs.written.Goals as goal

pub returns-in-Ok : goal.returns-in-Ok
returns-in-Ok c =
    c.accepted.ensures ∙ ap (λ (w : Result ℕ Refusal). outcome_of (λ n. n) (written_of w)) (sym c.in-Ok.is)

pub returns-in-Err : goal.returns-in-Err
returns-in-Err c =
    c.refused.ensures ∙ ap (λ (w : Result ℕ Refusal). outcome_of (λ n. n) (written_of w)) (sym c.in-Err.is)
