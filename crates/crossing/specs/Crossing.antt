-- A helper: what the public functions hand back as it crosses to a host; the record crosses as it is. `proofs/Laws` has that
-- it is what model's definitions give (`crossed_fresh`, `crossed_tells`), crossing_back that nothing is lost.
use Rattle.std.specs.Prelude.{map}
use Rattle.model.specs.Outcome.{Outcome}
use Rattle.model.specs.Refusals.{verdict_of}
use Rattle.model.specs.Evaluation.{CallResult, answers_after, held_after, record_in}
use Rattle.model.specs.declared.Evaluation.{Evaluation}
use Rattle.evaluation.specs.declared.Fresh.{Fresh}
use Rattle.model.specs.declared.Held.{Held}
use Rattle.model.specs.declared.Reply.{Reply}
use Rattle.outcome_crossing.specs.Outcomes.{bare_outcome}
use Rattle.call_crossing.specs.Values.{answer_of}
use Rattle.crossing.specs.declared.GrillenhelmFresh.{GrillenhelmFresh}
use Rattle.crossing.specs.declared.GrillenhelmEvaluation.{GrillenhelmEvaluation}
use Rattle.crossing.specs.declared.GrillenhelmReply.{GrillenhelmReply}

-- THE PUBLIC FUNCTIONS' RESULTS
abbrev pub fresh_of : Fresh → GrillenhelmFresh
fresh_of f = record { outcome = bare_outcome (verdict_of f.verdict); held = f.held }

abbrev pub evaluation_of : Evaluation → GrillenhelmEvaluation
evaluation_of e =
    record { outcome = bare_outcome (verdict_of e.verdict); answers = map answer_of e.answers; held = e.held }

abbrev pub reply_of : Reply → GrillenhelmReply
reply_of r = record { outcome = bare_outcome (verdict_of r.verdict); answers = map answer_of r.answers }

-- WHAT THE DEFINITIONS GIVE
abbrev pub fresh_in : Outcome Held → GrillenhelmFresh
fresh_in o = record { outcome = bare_outcome o; held = record_in o }

-- a call on the record h
abbrev pub evaluation_in : Held → Outcome CallResult → GrillenhelmEvaluation
evaluation_in h o =
    record { outcome = bare_outcome o; answers = map answer_of (answers_after o); held = held_after h o }

-- a call for daily use as an evaluation: its reply, with the record that it leaves
abbrev pub leaving : GrillenhelmReply → Held → GrillenhelmEvaluation
leaving r after = record { outcome = r.outcome; answers = r.answers; held = after }
