-- One call on a record whose figures fit, by whether it is right: the record after it fits too, so that 13 never comes.
use Rattle.std.specs.Prelude.{if◌then◌else◌}
use mathlib.Core.Path.{◌≡◌, refl, sym, ap, ◌∙◌, subst}
use mathlib.Core.Bool.{Bool, true, false}
use mathlib.Core.List.{List, []}
use Prim.Native.Nat.{ℕ, ◌-◌}
use lib.IntN.{ℤ, pos}
use lib.ListN.{length, replicate, take}
use lib.Seq.{take_at}
use Rattle.model.specs.Bounds.{output_limit}
use Rattle.model.specs.Block.{Block}
use Rattle.model.specs.Outcome.{Outcome, accepted, refused, and_then}
use Rattle.model.specs.Refusals.{verdict_of}
use Rattle.model.specs.Image.{loads}
use Rattle.model.specs.WellFormed.{well_formed}
use Rattle.model.specs.Evaluation.{block_answers, no_answer, padded, figures, held_of, figures_of, CallResult, call_result, evaluate, Tells}
use Rattle.model.specs.declared.Answer.{Answer}
use Rattle.laws.proofs.Each.{Each}
use Rattle.demand_3.specs.Calls.{Call, right_call, ruling, input_degrees, answers_of, figures_after, answered, Made, call_of, result_of, Link, is_accepted, accepted_in, last_figures, Seen, outputs_seen}
use Rattle.calls.proofs.Right.{ruling_right}
use Rattle.calls.proofs.Records.{outcome_by, on_record}
use Rattle.calls.proofs.Outputs.{Good, Fit, all_told, past_outputs, count_answers, figures_back, held_fits}
use Rattle.calls.proofs.Low.{outputs_ok}

-- on the figures xs, which fit
module _ (img : List ℕ) (b : Block) (loaded : loads img ≡ accepted b) (xs : List ℤ) (fit : Fit b.outputs xs) (c : Call) where
  answers_on_record : answers_of b (figures_of (held_of xs)) c ≡ answers_of b xs c
  unfolding answers_of block_answers
  answers_on_record = ap (λ (l : List ℤ). answers_of b l c) (figures_back xs) ∙ past_outputs b _ 0 b.outputs xs (replicate (output_limit - length xs) (pos 0)) fit

  call_is : evaluate img c.readings c.count (held_of xs) ≡ outcome_by b xs c
  call_is =
      (on_record img b loaded (held_of xs) c).0 (held_fits b.outputs xs fit)
      ∙ ap (λ (gs : List Answer). and_then (ruling b c) (λ u. accepted (call_result gs))) answers_on_record

-- what a call does, by the block and the readings
pub record Step (b : Block) (xs : List ℤ) (m : Made) : Type 0 where
  pub right : accepted_in m ≡ right_call b (call_of m)
  pub verdict : verdict_of (result_of m).verdict ≡ ruling b (call_of m)
  pub answers : (result_of m).answers ≡ answered b xs (call_of m)
  pub held : (result_of m).held ≡ held_of (figures_after b xs (call_of m))
  pub last : last_figures b xs m ≡ figures_after b xs (call_of m)
  pub fit : Fit b.outputs (figures_after b xs (call_of m))
  pub good : Each Good (if accepted_in m then outputs_seen b (input_degrees b (call_of m)) 0 b.outputs xs (result_of m).answers else [])

module _ (img : List ℕ) (b : Block) (loaded : loads img ≡ accepted b) (ok : well_formed b ≡ true) (xs : List ℤ) (fit : Fit b.outputs xs) (m : Made) where
  abbrev c : Call
  c = call_of m

  abbrev gs : List Answer
  gs = answers_of b xs c

  told_all : Each Good (outputs_seen b (input_degrees b c) 0 b.outputs xs (padded no_answer gs)) × Fit b.outputs (figures gs)
  unfolding answers_of block_answers input_degrees
  told_all = all_told b (input_degrees b c) 0 b.outputs xs (replicate (output_limit - length gs) no_answer) (outputs_ok b ok) fit

  count : length gs ≡ length b.outputs
  unfolding answers_of block_answers input_degrees
  count = count_answers b (input_degrees b c) 0 b.outputs xs fit

  taken : take (length b.outputs) (padded no_answer gs) ≡ gs
  taken = ap (λ (n : ℕ). take n (padded no_answer gs)) (sym count) ∙ take_at gs (replicate (output_limit - length gs) no_answer) (length gs) refl

  -- by whether the call is right
  abbrev figures_by : Bool → List ℤ
  figures_by q = if q then figures gs else xs

  abbrev answers_by : Bool → List Answer
  answers_by q = padded no_answer (if q then gs else [])

  abbrev seen_by : Bool → List Seen
  seen_by q = if q then outputs_seen b (input_degrees b c) 0 b.outputs xs (result_of m).answers else []

  last_by : (q : Bool) → (result_of m).answers ≡ answers_by q → (if q then figures (take (length b.outputs) (result_of m).answers) else xs) ≡ figures_by q
  last_by true e = ap (λ (l : List Answer). figures (take (length b.outputs) l)) e ∙ ap figures taken
  last_by false e = refl

  fit_by : (q : Bool) → Fit b.outputs (figures_by q)
  fit_by true = told_all.1
  fit_by false = fit

  good_by : (q : Bool) → (result_of m).answers ≡ answers_by q → Each Good (seen_by q)
  good_by true e = subst (λ (l : List Answer). Each Good (outputs_seen b (input_degrees b c) 0 b.outputs xs l)) (sym e) told_all.0
  good_by false e = tt

  step_by : (q : Bool) → accepted_in m ≡ q → right_call b c ≡ q → verdict_of (result_of m).verdict ≡ ruling b c
      → (result_of m).answers ≡ answers_by q → (result_of m).held ≡ held_of (figures_by q) → Step b xs m
  unfolding last_figures figures_after answered
  step_by q acc f v a h = record {
    right = acc ∙ sym f;
    verdict = v;
    answers = a ∙ ap answers_by (sym f);
    held = h ∙ ap (λ (q : Bool). held_of (figures_by q)) (sym f);
    last = ap (λ (q : Bool). if q then figures (take (length b.outputs) (result_of m).answers) else xs) acc ∙ last_by q a ∙ ap figures_by (sym f);
    fit = fit_by (right_call b c);
    good = subst (λ (q : Bool). Each Good (seen_by q)) (sym acc) (good_by q a);
  }

  pub step : Link img (held_of xs) m → Step b xs m
  step l = go (ruling b c) refl (subst (λ (p : Outcome CallResult). Tells (result_of m) (held_of xs) p) (call_is img b loaded xs fit c) l)
    where
      right_by : (q : Bool) → is_accepted (ruling b c) ≡ q → right_call b c ≡ q
      right_by q e = sym (ruling_right b c) ∙ e

      Told : Outcome (Unit {0}) → Type 0
      Told r = Tells (result_of m) (held_of xs) (and_then r (λ u. accepted (call_result gs)))

      go : (r : Outcome (Unit {0})) → ruling b c ≡ r → Told (ruling b c) → Step b xs m
      go (accepted u) e t =
          let r = subst Told e t in
          step_by true (ap is_accepted r.verdict) (right_by true (ap is_accepted e)) (r.verdict ∙ sym e) r.answers r.held
      go (refused k p) e t =
          let r = subst Told e t in
          step_by false (ap is_accepted r.verdict) (right_by false (ap is_accepted e)) (r.verdict ∙ sym e) r.answers r.held
