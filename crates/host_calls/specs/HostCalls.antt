-- Lists of evaluation calls as a host in C or Rust makes them, in its numbers; the same crossed back; and demand 3 of them.
use Rattle.std.specs.Prelude.{List, [], ◌∷◌, map, ◌↔◌, ◌≡◌, ℕ}
use Rattle.model.specs.Basic.{Each}
use Rattle.model.specs.Block.{Block}
use Rattle.model.specs.Outcome.{accepted}
use Rattle.model.specs.Image.{loads}
use Rattle.model.specs.Buffers.{ReadsTo}
use Rattle.model.specs.Evaluation.{evaluate, starting, fresh}
use Rattle.model.specs.declared.Held.{Held}
use Rattle.demand_3.specs.Calls.{Call, Made, evaluated, daily, result_of, CallsHold}
use Rattle.outcome_crossing.specs.Outcomes.{bare_outcome}
use Rattle.call_crossing.specs.Values.{reading_of}
use Rattle.crossing.specs.Crossing.{evaluation_of, fresh_in, evaluation_in, leaving}
use Rattle.crossing_back.specs.Back.{evaluation_back, reply_back}
use Rattle.crossing.specs.declared.GrillenhelmEvaluation.{GrillenhelmEvaluation}
use Rattle.crossing.specs.declared.GrillenhelmFresh.{GrillenhelmFresh}
use Rattle.outcome_crossing.specs.declared.GrillenhelmOutcome.{GrillenhelmOutcome}
use Rattle.call_crossing.specs.declared.GrillenhelmReadings.{GrillenhelmReadings}
use Rattle.crossing.specs.declared.GrillenhelmReply.{GrillenhelmReply}

-- A LIST OF CALLS
-- a call and what came of it: what `grillenhelm_evaluate` returned; what `grillenhelm_evaluate_held` replied, and the lent
-- record then
pub data HostCall : Type 0 where
  returned : GrillenhelmReadings → GrillenhelmEvaluation → HostCall
  replied : GrillenhelmReadings → GrillenhelmReply → Held → HostCall

abbrev pub readings_in : HostCall → GrillenhelmReadings
readings_in (returned rs e) = rs
readings_in (replied rs r h) = rs

-- outcome, answers, and the record returned or left
abbrev pub seen_in : HostCall → GrillenhelmEvaluation
seen_in (returned rs e) = e
seen_in (replied rs r h) = leaving r h

abbrev pub call_back : GrillenhelmReadings → Call
call_back rs = record { readings = map reading_of rs.at; count = rs.count }

-- what the contracts of the two functions say of a call on the record h (`proofs/Contracts`)
abbrev pub HostLink : List ℕ → Held → GrillenhelmReadings → GrillenhelmEvaluation → Type 0
HostLink img h rs e = e ≡ evaluation_in h (evaluate img (call_back rs).readings (call_back rs).count h)

-- each later call gets the record that the call before returned or left
abbrev pub HostTrace : List ℕ → Held → List HostCall → Type 0
HostTrace img h [] = Unit {0}
HostTrace img h (k ∷ ks) = HostLink img h (readings_in k) (seen_in k) × HostTrace img (seen_in k).held ks

-- CROSSED BACK
abbrev pub made_back : HostCall → Made
made_back (returned rs e) = evaluated (call_back rs) (evaluation_back e)
made_back (replied rs r h) = daily (call_back rs) (reply_back r) h

-- nothing is lost: what was crossed back crosses to what the host saw
abbrev pub Whole : HostCall → Type 0
Whole k = evaluation_of (result_of (made_back k)) ≡ seen_in k

-- DEMAND 3, of what `grillenhelm_check`, `grillenhelm_fresh` and the two evaluations tell a host
pub record HostDemand3 (img : List ℕ) : Type 0 where
  -- a stored image passes the load check exactly when some text reads to it
  pub passes : (r : GrillenhelmOutcome) → r ≡ bare_outcome (loads img) → r.refusal ≡ 0 ↔ ((s : List ℕ) × ReadsTo s img)
  -- the rest holds of every list of calls on a passed image, the first of which gets the image's fresh held record
  pub calls : (b : Block) → loads img ≡ accepted b → (f : GrillenhelmFresh) → f ≡ fresh_in (fresh img)
      → (ks : List HostCall) → HostTrace img f.held ks
      → CallsHold b f.held (starting b) (map made_back ks) × Each Whole ks
