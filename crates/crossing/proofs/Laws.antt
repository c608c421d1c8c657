-- What the public functions hand back, crossed.
use mathlib.Core.Path.{◌≡◌, ap, ◌∙◌}
use mathlib.Core.List.{map}
use Rattle.model.specs.Outcome.{Outcome, verdict_in}
use Rattle.model.specs.Refusals.{verdict_of}
use Rattle.model.specs.Evaluation.{CallResult, Tells, leaving, record_in}
use Rattle.model.specs.declared.Held.{Held}
use Rattle.model.specs.declared.Evaluation.{Evaluation}
use Rattle.evaluation.specs.declared.Fresh.{Fresh}
use Rattle.model.specs.declared.Reply.{Reply}
use Rattle.outcome_crossing.specs.Outcomes.{bare_outcome}
use Rattle.call_crossing.specs.Values.{answer_of}
use Rattle.crossing.specs.Crossing.{fresh_of, evaluation_of, reply_of, fresh_in, evaluation_in}
use Rattle.crossing.specs.Crossing.{leaving as crossedLeaving}
use Rattle.outcome_crossing.proofs.Outcomes.{told_then}
use Rattle.crossing.specs.declared.GrillenhelmReply.{GrillenhelmReply}

-- what `evaluation::evaluate` ensures, crossed
pub crossed_tells : (e : Evaluation) (h : Held) (o : Outcome CallResult) → Tells e h o → evaluation_of e ≡ evaluation_in h o
crossed_tells e h o t =
    λ j. record {
      outcome = (ap bare_outcome t.verdict ∙ told_then (λ u. 0) (λ a. tt) o) j;
      answers = map answer_of (t.answers j);
      held = t.held j;
    }

-- what `daily::evaluate_held` ensures of its reply r and the record that it leaves, crossed
pub crossed_reply : (y : GrillenhelmReply) (r : Reply) (h after : Held) (o : Outcome CallResult) → y ≡ reply_of r → Tells (leaving r after) h o
    → crossedLeaving y after ≡ evaluation_in h o
crossed_reply y r h after o e t =
    ap (λ (z : GrillenhelmReply). crossedLeaving z after) e ∙ crossed_tells (leaving r after) h o t

-- what `evaluation::fresh_of` ensures, crossed
pub crossed_fresh : (f : Fresh) (o : Outcome Held) → verdict_of f.verdict ≡ verdict_in o → f.held ≡ record_in o → fresh_of f ≡ fresh_in o
crossed_fresh f o v h =
    λ j. record { outcome = (ap bare_outcome v ∙ told_then (λ u. 0) (λ a. tt) o) j; held = h j }
