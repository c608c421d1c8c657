-- What a host's numbers say, computed.
use mathlib.Core.Path.{◌≡◌, refl}
use mathlib.Core.Bool.{true, false}
use mathlib.Core.List.{List, [], ◌∷◌, map}
use mathlib.Core.Option.{none, some}
use Prim.Native.Nat.{ℕ}
use lib.Ieee.{fin}
use lib.IntN.{pos, negsuc}
use lib.ListN.{replicate}
use Rattle.std.specs.Prelude.{Ok, Err}
use Rattle.model.specs.Outcome.{accepted, refused}
use Rattle.model.specs.Evaluation.{held_of, no_answer, padded}
use Rattle.model.specs.declared.Mark.TheVariants.{Fired, Default, Held as HeldMark}
use Rattle.model.specs.declared.Reading.TheVariants.{Real, Int, Absent}
use Rattle.model.specs.declared.Refusal.TheVariants.{BufferTooShort, ImageNotAccepted, WrongCount, WrongHeld, WrongReading, TextOver}
use Rattle.call_crossing.specs.Values.{reading_of, answer_of}
use Rattle.crossing_back.specs.Back.{outcome_back, verdict_back, answer_back, evaluation_back, reply_back}
use Rattle.call_crossing.specs.declared.GrillenhelmAnswer.{GrillenhelmAnswer}
use Rattle.outcome_crossing.specs.declared.GrillenhelmOutcome.{GrillenhelmOutcome}
use Rattle.call_crossing.specs.declared.GrillenhelmReading.{GrillenhelmReading}

-- READINGS
abbrev read : ℕ → GrillenhelmReading
read kind = record { kind = kind; real = fin false 15 (pos 1); whole = negsuc 4 }

readings : map reading_of (read 0 ∷ read 1 ∷ read 2 ∷ read 3 ∷ []) ≡ Absent ∷ Real (fin false 15 (pos 1)) ∷ Int (negsuc 4) ∷ Absent ∷ []
readings = refl

-- OUTCOMES
abbrev told : ℕ → ℕ → ℕ → ℕ → GrillenhelmOutcome
told number placed place length = record { refusal = number; has_place = placed; place = place; length = length }

outcomes : map outcome_back (told 0 0 0 364 ∷ told 10 1 364 0 ∷ told 2 1 0 0 ∷ told 11 0 0 0 ∷ [])
    ≡ accepted 364 ∷ refused 10 (some 364) ∷ refused 2 (some 0) ∷ refused 11 none ∷ []
outcomes = refl

verdicts : map verdict_back (told 0 0 0 0 ∷ told 11 0 0 0 ∷ told 12 0 0 0 ∷ told 13 0 0 0 ∷ told 14 1 3 0 ∷ told 10 1 7 0 ∷ told 16 0 0 0 ∷ [])
    ≡ Ok tt ∷ Err ImageNotAccepted ∷ Err WrongCount ∷ Err WrongHeld ∷ Err (WrongReading 3) ∷ Err (BufferTooShort 7)
    ∷ Err TextOver ∷ []
verdicts = refl

-- EVALUATIONS
-- 25 fired, a default of -3, a held 0; no fourth output
abbrev answers : List GrillenhelmAnswer
answers =
    record { mark = 1; thousandths = pos 25000; sum = 1000000; value = fin false 25 (pos 0) }
    ∷ record { mark = 2; thousandths = negsuc 2999; sum = 0; value = fin true 3 (pos 0) }
    ∷ record { mark = 3; thousandths = pos 0; sum = 0; value = fin false 0 (pos 0) }
    ∷ replicate 3 (record { mark = 0; thousandths = pos 0; sum = 0; value = fin false 0 (pos 0) })

answered : map answer_back answers
    ≡ record { mark = Fired; thousandths = record { 0 = pos 25000 }; sum = 1000000; value = fin false 25 (pos 0) }
    ∷ record { mark = Default; thousandths = record { 0 = negsuc 2999 }; sum = 0; value = fin true 3 (pos 0) }
    ∷ record { mark = HeldMark; thousandths = record { 0 = pos 0 }; sum = 0; value = fin false 0 (pos 0) }
    ∷ replicate 3 no_answer
answered = refl

evaluated : evaluation_back (record { outcome = told 0 0 0 0; answers = answers; held = held_of (pos 25000 ∷ negsuc 2999 ∷ []) })
    ≡ record { verdict = Ok tt; answers = map answer_back answers; held = held_of (pos 25000 ∷ negsuc 2999 ∷ []) }
evaluated = refl

replied : reply_back (record { outcome = told 14 1 3 0; answers = map answer_of (padded no_answer []) })
    ≡ record { verdict = Err (WrongReading 3); answers = padded no_answer [] }
replied = refl
