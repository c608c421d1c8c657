-- Nothing is lost: what is crossed back is what crossed.
use mathlib.Core.Path.{◌≡◌, refl, sym, ap, ◌∙◌}
use mathlib.Core.Bool.{false}
use mathlib.Core.List.{List, [], ◌∷◌, map}
use mathlib.Core.Option.{Option, none, some}
use Prim.Native.Nat.{ℕ}
use lib.Dec.{eqb}
use Rattle.std.specs.Prelude.{Result, Ok, Err}
use Rattle.model.specs.Outcome.{Outcome, refused, verdict_in}
use Rattle.model.specs.Refusals.{number_and_place, written_of, verdict_of}
use Rattle.model.specs.declared.Answer.{Answer}
use Rattle.model.specs.declared.Evaluation.{Evaluation}
use Rattle.model.specs.declared.Mark.{Mark}
use Rattle.model.specs.declared.Mark.TheVariants.{None, Fired, Default, Held as HeldMark}
use Rattle.model.specs.declared.Refusal.{Refusal}
use Rattle.model.specs.declared.Refusal.TheVariants.{TextTooLong, WrongToken, WrongNumber, WrongName, NotDeclared, TooMany, WrongPosition, Unpaired, PartMissing, BufferTooShort, ImageNotAccepted, WrongCount, WrongHeld, WrongReading, TextOver}
use Rattle.model.specs.declared.Reply.{Reply}
use Rattle.refusals.proofs.Numbers.{above_zero}
use Rattle.outcome_crossing.specs.Outcomes.{outcome_of, bare_outcome}
use Rattle.call_crossing.specs.Values.{mark_number, answer_of}
use Rattle.crossing.specs.Crossing.{evaluation_of, reply_of}
use Rattle.crossing_back.specs.Back.{outcome_back, verdict_back, mark_back, answer_back, evaluation_back, reply_back}
use Rattle.outcome_crossing.specs.declared.GrillenhelmOutcome.{GrillenhelmOutcome}
use Rattle.outcome_crossing.proofs.Outcomes.{told_then}

refusal_back : (n : ℕ) (p : Option ℕ) → eqb n 0 ≡ false → outcome_back (outcome_of (λ k. k) (refused n p)) ≡ refused n p
refusal_back n none z = rw z refl
refusal_back n (some place) z = rw z refl

pub outcome_back_lem : (w : Result ℕ Refusal) → outcome_back (outcome_of (λ n. n) (written_of w)) ≡ written_of w
outcome_back_lem (Ok n) = refl
outcome_back_lem (Err r) = refusal_back (number_and_place r).0 (number_and_place r).1 (above_zero r)

pub verdict_back_lem : (v : Result (Unit {0}) Refusal) → verdict_back (bare_outcome (verdict_of v)) ≡ v
verdict_back_lem (Ok u) = refl
verdict_back_lem (Err TextTooLong) = refl
verdict_back_lem (Err (WrongToken place)) = refl
verdict_back_lem (Err (WrongNumber place)) = refl
verdict_back_lem (Err (WrongName place)) = refl
verdict_back_lem (Err (NotDeclared place)) = refl
verdict_back_lem (Err (TooMany place)) = refl
verdict_back_lem (Err (WrongPosition place)) = refl
verdict_back_lem (Err (Unpaired place)) = refl
verdict_back_lem (Err (PartMissing place)) = refl
verdict_back_lem (Err (BufferTooShort needed)) = refl
verdict_back_lem (Err ImageNotAccepted) = refl
verdict_back_lem (Err WrongCount) = refl
verdict_back_lem (Err WrongHeld) = refl
verdict_back_lem (Err (WrongReading index)) = refl
verdict_back_lem (Err TextOver) = refl

-- of an outcome that a verdict tells
pub told_back : {A : Type 0} (o : Outcome A) (v : Result (Unit {0}) Refusal) → verdict_of v ≡ verdict_in o → verdict_of (verdict_back (bare_outcome o)) ≡ verdict_in o
told_back o v e =
    ap (λ (c : GrillenhelmOutcome). verdict_of (verdict_back c)) (sym (told_then (λ u. 0) (λ a. tt) o) ∙ ap bare_outcome (sym e))
    ∙ ap verdict_of (verdict_back_lem v) ∙ e

pub mark_back_lem : (m : Mark) → mark_back (mark_number m) ≡ m
mark_back_lem None = refl
mark_back_lem Fired = refl
mark_back_lem Default = refl
mark_back_lem HeldMark = refl

answer_back_lem : (a : Answer) → answer_back (answer_of a) ≡ a
answer_back_lem a = λ j. record { mark = mark_back_lem a.mark j; thousandths = a.thousandths; sum = a.sum; value = a.value }

pub answers_back : (xs : List Answer) → map answer_back (map answer_of xs) ≡ xs
answers_back [] = refl
answers_back (a ∷ xs) = λ j. answer_back_lem a j ∷ answers_back xs j

pub evaluation_back_lem : (e : Evaluation) → evaluation_back (evaluation_of e) ≡ e
evaluation_back_lem e = λ j. record { verdict = verdict_back_lem e.verdict j; answers = answers_back e.answers j; held = e.held }

pub reply_back_lem : (r : Reply) → reply_back (reply_of r) ≡ r
reply_back_lem r = λ j. record { verdict = verdict_back_lem r.verdict j; answers = answers_back r.answers j }
