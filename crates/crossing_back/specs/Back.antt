-- What a host's numbers say: outcomes, marks, answers and evaluations crossed back. `proofs/Back` has that nothing is lost.
use Rattle.std.specs.Prelude.{map, ℕ, eqb, Result, Ok, Err, if◌then◌else◌}
use Rattle.std.proofs.Math.Option.{none, some}
use Rattle.model.specs.Outcome.{Outcome, accepted, refused}
use Rattle.model.specs.declared.Answer.{Answer}
use Rattle.model.specs.declared.Evaluation.{Evaluation}
use Rattle.model.specs.declared.Mark.{Mark}
use Rattle.model.specs.declared.Mark.TheVariants.{None, Fired, Default, Held as HeldMark}
use Rattle.model.specs.declared.Refusal.{Refusal}
use Rattle.model.specs.declared.Refusal.TheVariants.{TextTooLong, WrongToken, WrongNumber, WrongName, NotDeclared, TooMany, WrongPosition, Unpaired, PartMissing, BufferTooShort, ImageNotAccepted, WrongCount, WrongHeld, WrongReading, TextOver}
use Rattle.model.specs.declared.Reply.{Reply}
use Rattle.call_crossing.specs.declared.GrillenhelmAnswer.{GrillenhelmAnswer}
use Rattle.crossing.specs.declared.GrillenhelmEvaluation.{GrillenhelmEvaluation}
use Rattle.outcome_crossing.specs.declared.GrillenhelmOutcome.{GrillenhelmOutcome}
use Rattle.crossing.specs.declared.GrillenhelmReply.{GrillenhelmReply}

-- how many bytes were written, or the refusal
abbrev pub outcome_back : GrillenhelmOutcome → Outcome ℕ
outcome_back o =
    if eqb o.refusal 0 then accepted o.length
    else refused o.refusal (if eqb o.has_place 1 then some o.place else none)

-- the refusal of a number and a place
abbrev pub refusal_back : ℕ → ℕ → Refusal
refusal_back n p =
    if eqb n 1 then TextTooLong else
    if eqb n 2 then WrongToken p else
    if eqb n 3 then WrongNumber p else
    if eqb n 4 then WrongName p else
    if eqb n 5 then NotDeclared p else
    if eqb n 6 then TooMany p else
    if eqb n 7 then WrongPosition p else
    if eqb n 8 then Unpaired p else
    if eqb n 9 then PartMissing p else
    if eqb n 10 then BufferTooShort p else
    if eqb n 11 then ImageNotAccepted else
    if eqb n 12 then WrongCount else
    if eqb n 13 then WrongHeld else
    if eqb n 14 then WrongReading p else TextOver

abbrev pub verdict_back : GrillenhelmOutcome → Result (Unit {0}) Refusal
verdict_back o = if eqb o.refusal 0 then Ok tt else Err (refusal_back o.refusal o.place)

abbrev pub mark_back : ℕ → Mark
mark_back n = if eqb n 0 then None else if eqb n 1 then Fired else if eqb n 2 then Default else HeldMark

abbrev pub answer_back : GrillenhelmAnswer → Answer
answer_back a =
    record { mark = mark_back a.mark; thousandths = record { 0 = a.thousandths }; sum = a.sum; value = a.value }

abbrev pub evaluation_back : GrillenhelmEvaluation → Evaluation
evaluation_back e =
    record { verdict = verdict_back e.outcome; answers = map answer_back e.answers; held = e.held }

abbrev pub reply_back : GrillenhelmReply → Reply
reply_back r = record { verdict = verdict_back r.outcome; answers = map answer_back r.answers }
