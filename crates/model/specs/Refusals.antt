-- Refusal numbers: the number and the place of each case of each answer.
use Rattle.std.specs.Prelude.{Bool, ℕ, Result, Ok, Err}
use Rattle.std.proofs.Math.Option.{Option, none, some}
use Rattle.model.specs.Basic.{between}
use Rattle.model.specs.Outcome.{Outcome, accepted, refused}
use Rattle.model.specs.declared.Refusal.{Refusal}
use Rattle.model.specs.declared.Refusal.TheVariants.{TextTooLong, WrongToken, WrongNumber, WrongName, NotDeclared, TooMany, WrongPosition, Unpaired, PartMissing, BufferTooShort, ImageNotAccepted, WrongCount, WrongHeld, WrongReading, TextOver}

abbrev pub number_and_place : Refusal → ℕ × Option ℕ
number_and_place TextTooLong = (1, some 0)
number_and_place (WrongToken place) = (2, some place)
number_and_place (WrongNumber place) = (3, some place)
number_and_place (WrongName place) = (4, some place)
number_and_place (NotDeclared place) = (5, some place)
number_and_place (TooMany place) = (6, some place)
number_and_place (WrongPosition place) = (7, some place)
number_and_place (Unpaired place) = (8, some place)
number_and_place (PartMissing place) = (9, some place)
number_and_place (BufferTooShort needed) = (10, some needed)
number_and_place ImageNotAccepted = (11, none)
number_and_place WrongCount = (12, none)
number_and_place WrongHeld = (13, none)
number_and_place (WrongReading index) = (14, some index)
number_and_place TextOver = (16, none)

-- the numbers by which the reader's rules refuse
abbrev pub reader_number : ℕ → Bool
reader_number n = between 2 9 n

abbrev pub refusal_of : {A : Type 0} → Refusal → Outcome A
refusal_of r = refused (number_and_place r).0 (number_and_place r).1

-- what a public function answers: its result, or the refusal
abbrev pub told_of : {A : Type 0} → Result A Refusal → Outcome A
told_of (Ok a) = accepted a
told_of (Err r) = refusal_of r

-- the reader's and the lister's answer: how many bytes were written
abbrev pub written_of : Result ℕ Refusal → Outcome ℕ
written_of w = told_of w

-- the load check's answer, and that of an evaluation
abbrev pub verdict_of : Result (Unit {0}) Refusal → Outcome (Unit {0})
verdict_of v = told_of v
