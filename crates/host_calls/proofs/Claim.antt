-- Demand 3 of every image and every list of calls that a host makes on it: such a list, crossed back, is a trace.
use Rattle.std.specs.Prelude.{if◌then◌else◌}
use mathlib.Core.Path.{◌≡◌, refl, sym, ap, ◌∙◌, subst}
use mathlib.Core.Bool.{Bool, true, false}
use mathlib.Core.List.{List, [], ◌∷◌, map}
use mathlib.Core.Logic.{◌↔◌}
use mathlib.Core.Option.{none}
use Prim.Native.Nat.{ℕ}
use native.Mathlib.Omega.{arith}
use Rattle.model.specs.Basic.{Each}
use Rattle.model.specs.Block.{Block}
use Rattle.model.specs.Outcome.{Outcome, accepted, refused, verdict_in}
use Rattle.model.specs.Refusals.{verdict_of}
use Rattle.model.specs.Image.{word_at, decode, is_image_of, loads}
use Rattle.model.specs.Buffers.{ReadsTo}
use Rattle.model.specs.Evaluation.{CallResult, evaluate, answers_after, Tells, starting, fresh, record_in}
use Rattle.model.specs.declared.Held.{Held}
use Rattle.demand_3.specs.Calls.{Trace, CallsHold}
use Rattle.calls.proofs.Claim.{demand_3}
use Rattle.calls.proofs.Traces.{call_told}
use Rattle.outcome_crossing.specs.Outcomes.{bare_outcome}
use Rattle.crossing.specs.Crossing.{fresh_in}
use Rattle.crossing_back.specs.Back.{verdict_back, answer_back, evaluation_back}
use Rattle.crossing.specs.declared.GrillenhelmEvaluation.{GrillenhelmEvaluation}
use Rattle.crossing.specs.declared.GrillenhelmFresh.{GrillenhelmFresh}
use Rattle.outcome_crossing.specs.declared.GrillenhelmOutcome.{GrillenhelmOutcome}
use Rattle.call_crossing.specs.declared.GrillenhelmReadings.{GrillenhelmReadings}
use Rattle.crossing.proofs.Laws.{crossed_tells}
use Rattle.crossing_back.proofs.Back.{told_back, answers_back}
use Rattle.host_calls.specs.HostCalls.{HostCall, returned, replied, readings_in, seen_in, call_back, HostLink, HostTrace, made_back, Whole, HostDemand3}

module _ (img : List ℕ) where
  abbrev outcome : Held → GrillenhelmReadings → Outcome CallResult
  outcome h rs = evaluate img (call_back rs).readings (call_back rs).count h

  -- what is crossed back of a call is what the definitions say of it
  tells_back : (h : Held) (rs : GrillenhelmReadings) (e : GrillenhelmEvaluation) → HostLink img h rs e → Tells (evaluation_back e) h (outcome h rs)
  tells_back h rs e l =
      let o = outcome h rs in
      let told = call_told img (call_back rs) h in
      record {
        verdict = ap (λ (x : GrillenhelmEvaluation). verdict_of (verdict_back x.outcome)) l ∙ told_back o told.0 told.1;
        answers = ap (λ (x : GrillenhelmEvaluation). map answer_back x.answers) l ∙ answers_back (answers_after o);
        held = ap (λ (x : GrillenhelmEvaluation). x.held) l;
      }

  traced : (ks : List HostCall) (h : Held) → HostTrace img h ks → Trace img h (map made_back ks)
  traced [] h t = tt
  traced (returned rs e ∷ ks) h t = (tells_back h rs e t.0, traced ks e.held t.1)
  traced (replied rs r after ∷ ks) h t = (tells_back h rs (seen_in (replied rs r after)) t.0, traced ks after t.1)

  whole : (h : Held) (k : HostCall) → HostLink img h (readings_in k) (seen_in k) → Whole k
  whole h (returned rs e) l = crossed_tells (evaluation_back e) h (outcome h rs) (tells_back h rs e l) ∙ sym l
  whole h (replied rs r after) l =
      let e = seen_in (replied rs r after) in
      crossed_tells (evaluation_back e) h (outcome h rs) (tells_back h rs e l) ∙ sym l

  all_whole : (ks : List HostCall) (h : Held) → HostTrace img h ks → Each Whole ks
  all_whole [] h t = tt
  all_whole (k ∷ ks) h t = (whole h k t.0, all_whole ks (seen_in k).held t.1)

  -- 0 is told exactly of an image that passes
  zero_iff : (bare_outcome (loads img)).refusal ≡ 0 ↔ verdict_in (loads img) ≡ accepted tt
  unfolding loads
  zero_iff = go (is_image_of img (decode (word_at img))) (decode (word_at img))
    where
      go : (t : Bool) (b : Block) → let o : Outcome Block = if t then accepted b else refused 11 none in
          (bare_outcome o).refusal ≡ 0 ↔ verdict_in o ≡ accepted tt
      go true b = (λ z. refl, λ z. refl)
      go false b = (λ z. absurd (omega (arith, z)), λ e. let z : ◌≡◌ {A = ℕ} 0 1 = cc in absurd (omega arith))

  host_passes : (r : GrillenhelmOutcome) → r ≡ bare_outcome (loads img) → r.refusal ≡ 0 ↔ ((s : List ℕ) × ReadsTo s img)
  host_passes r e =
      let told = ap (λ (o : GrillenhelmOutcome). o.refusal) e in
      let passes = (demand_3 img).passes in
      (λ z. passes.0 (zero_iff.0 (sym told ∙ z)), λ s. told ∙ zero_iff.1 (passes.1 s))

  host_calls : (b : Block) → loads img ≡ accepted b → (f : GrillenhelmFresh) → f ≡ fresh_in (fresh img)
      → (ks : List HostCall) → HostTrace img f.held ks → CallsHold b f.held (starting b) (map made_back ks) × Each Whole ks
  host_calls b loaded f e ks t =
      let held : f.held ≡ record_in (fresh img) = ap (λ (x : GrillenhelmFresh). x.held) e in
      let holds = (demand_3 img).calls b loaded (map made_back ks)
      (traced ks (record_in (fresh img)) (subst (λ (h : Held). HostTrace img h ks) held t)) in
      (subst (λ (h : Held). CallsHold b h (starting b) (map made_back ks)) (sym held) holds, all_whole ks f.held t)

pub host_demand_3 : (img : List ℕ) → HostDemand3 img
host_demand_3 img = record { passes = host_passes img; calls = host_calls img }
