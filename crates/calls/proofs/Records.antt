-- What the papers leave free: calls on a record that no call returned, and calls on an image that is not accepted.
use Rattle.std.specs.Prelude.{if◌then◌else◌}
use mathlib.Core.Path.{◌≡◌, refl, sym, ap, ◌∙◌, subst}
use mathlib.Core.Bool.{Bool, true, false, not}
use mathlib.Core.List.{List, [], ◌∷◌}
use mathlib.Core.Option.{none}
use Prim.Native.Nat.{ℕ}
use lib.Dec.{eqb}
use lib.IntN.{ℤ}
use lib.ListN.{length}
use Rattle.model.specs.Basic.{Each}
use Rattle.model.specs.Block.{Block}
use Rattle.model.specs.Outcome.{Outcome, accepted, refused, and_then, verdict_in}
use Rattle.model.specs.Refusals.{verdict_of}
use Rattle.model.specs.Image.{loads}
use Rattle.model.specs.Evaluation.{block_answers, no_answer, padded, held_of, figures_of, held_ok, values_of, CallResult, call_result, evaluate_block, evaluate, Tells, fresh_of, fresh, record_in}
use Rattle.model.specs.declared.Held.{Held}
use Rattle.demand_3.specs.Calls.{Call, ruling, given, answers_of, Made, call_of, result_of, Trace, record_after}
use Rattle.laws.proofs.Tests.{clash}

-- ANY RECORD on an accepted image: an answer by that record where it passes, else 13 where the number is right
-- the outcome of a call by its readings and the figures xs
abbrev pub outcome_by : Block → List ℤ → Call → Outcome CallResult
outcome_by b xs c = and_then (ruling b c) (λ u. accepted (call_result (answers_of b xs c)))

module _ (img : List ℕ) (b : Block) (loaded : loads img ≡ accepted b) (h : Held) (c : Call) where
  abbrev called : Outcome CallResult
  called = evaluate img c.readings c.count h

  pub on_record : (held_ok b.outputs (figures_of h) ≡ true → called ≡ outcome_by b (figures_of h) c)
      × (held_ok b.outputs (figures_of h) ≡ false → called ≡ (if eqb c.count (length b.inputs) then refused 13 none else refused 12 none))
  unfolding evaluate evaluate_block ruling answers_of
  on_record = (λ e. opened ∙ passing n k o e, λ e. opened ∙ failing n k e)
    where
      n : Bool
      n = eqb c.count (length b.inputs)

      k : Bool
      k = held_ok b.outputs (figures_of h)

      o : Outcome (List ℤ)
      o = values_of 0 b.inputs c.readings

      answer : List ℤ → Outcome CallResult
      answer xs = accepted (call_result (block_answers b xs (figures_of h)))

      opened : called ≡ (if not n then refused 12 none else if not k then refused 13 none else and_then o answer)
      opened = ap (λ (l : Outcome Block). and_then l (λ d. evaluate_block d c.readings c.count h)) loaded

      passing : (n k : Bool) (o : Outcome (List ℤ)) → k ≡ true
          → (if not n then refused 12 none else if not k then refused 13 none else and_then o answer)
          ≡ and_then (if not n then refused 12 none else verdict_in o) (λ u. answer (given o))
      passing false k o e = refl
      passing true false o e = clash e
      passing true true (accepted xs) e = refl
      passing true true (refused m p) e = refl

      failing : (n k : Bool) → k ≡ false
          → (if not n then refused 12 none else if not k then refused 13 none else and_then o answer) ≡ (if n then refused 13 none else refused 12 none)
      failing false k e = refl
      failing true false e = refl
      failing true true e = clash (sym e)

-- AN IMAGE THAT IS NOT ACCEPTED: 11, no answer in any place, the record as it came; its fresh record is all zero
module _ (img : List ℕ) (not_loaded : loads img ≡ refused 11 none) where
  pub fresh_zero : record_in (fresh img) ≡ held_of []
  unfolding fresh
  fresh_zero = ap (λ (o : Outcome Block). record_in (and_then o (λ b. accepted (fresh_of b)))) not_loaded

  called_11 : (c : Call) (h : Held) → evaluate img c.readings c.count h ≡ refused 11 none
  unfolding evaluate
  called_11 c h = ap (λ (o : Outcome Block). and_then o (λ b. evaluate_block b c.readings c.count h)) not_loaded

  abbrev Nothing : Made → Type 0
  Nothing m = (verdict_of (result_of m).verdict ≡ refused 11 none) × ((result_of m).answers ≡ padded no_answer [])

  pub not_accepted : (ms : List Made) (h : Held) → Trace img h ms → Each Nothing ms × (record_after h ms ≡ h)
  not_accepted [] h t = (tt, refl)
  not_accepted (m ∷ ms) h t =
      let told : Tells (result_of m) h (refused 11 none) = subst (λ (o : Outcome CallResult). Tells (result_of m) h o) (called_11 (call_of m) h) t.0 in
      let r = not_accepted ms (result_of m).held t.1 in
      (((told.verdict, told.answers), r.0), r.1 ∙ told.held)
