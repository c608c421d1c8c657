use mathlib.Core.Path.{◌≡◌, refl, ap, ◌∙◌}
use mathlib.Core.Option.{none, some}
use Prim.Native.Nat.{ℕ}
use Rattle.std.specs.Prelude.{Option, Some, None}
use Rattle.model.specs.Outcome.{Outcome, refused}
use Rattle.model.specs.Refusals.{refusal_of}
use Rattle.refusals.specs.Told.{place_of}
use Rattle.refusals.proofs.number_and_place.Goals as goal

-- a refusal with a place, and one without
module _ {o : Outcome ℕ} {n number : ℕ} {place : Option ℕ} where
  told_at : {p : ℕ} → o ≡ refused n (some p) → (number ≡ n) × (place ≡ Some p) → o ≡ refused number (place_of place)
  told_at e (a, b) = e ∙ rw (a, b) refl

  told_nowhere : o ≡ refused n none → (number ≡ n) × (place ≡ None) → o ≡ refused number (place_of place)
  told_nowhere e (a, b) = e ∙ rw (a, b) refl

pub returns-in-TextTooLong : goal.returns-in-TextTooLong
returns-in-TextTooLong c = told_at (ap refusal_of c.in-TextTooLong.is) c.at.ensures

pub returns-in-WrongToken : goal.returns-in-WrongToken
returns-in-WrongToken c = told_at (ap refusal_of c.in-WrongToken.is) c.at-in-WrongToken.ensures

pub returns-in-WrongNumber : goal.returns-in-WrongNumber
returns-in-WrongNumber c = told_at (ap refusal_of c.in-WrongNumber.is) c.at-in-WrongNumber.ensures

pub returns-in-WrongName : goal.returns-in-WrongName
returns-in-WrongName c = told_at (ap refusal_of c.in-WrongName.is) c.at-in-WrongName.ensures

pub returns-in-NotDeclared : goal.returns-in-NotDeclared
returns-in-NotDeclared c = told_at (ap refusal_of c.in-NotDeclared.is) c.at-in-NotDeclared.ensures

pub returns-in-TooMany : goal.returns-in-TooMany
returns-in-TooMany c = told_at (ap refusal_of c.in-TooMany.is) c.at-in-TooMany.ensures

pub returns-in-WrongPosition : goal.returns-in-WrongPosition
returns-in-WrongPosition c = told_at (ap refusal_of c.in-WrongPosition.is) c.at-in-WrongPosition.ensures

pub returns-in-Unpaired : goal.returns-in-Unpaired
returns-in-Unpaired c = told_at (ap refusal_of c.in-Unpaired.is) c.at-in-Unpaired.ensures

pub returns-in-PartMissing : goal.returns-in-PartMissing
returns-in-PartMissing c = told_at (ap refusal_of c.in-PartMissing.is) c.at-in-PartMissing.ensures

pub returns-in-BufferTooShort : goal.returns-in-BufferTooShort
returns-in-BufferTooShort c = told_at (ap refusal_of c.in-BufferTooShort.is) c.at-in-BufferTooShort.ensures

pub returns-in-ImageNotAccepted : goal.returns-in-ImageNotAccepted
returns-in-ImageNotAccepted c = told_nowhere (ap refusal_of c.in-ImageNotAccepted.is) c.nowhere.ensures

pub returns-in-WrongCount : goal.returns-in-WrongCount
returns-in-WrongCount c = told_nowhere (ap refusal_of c.in-WrongCount.is) c.nowhere-in-WrongCount.ensures

pub returns-in-WrongHeld : goal.returns-in-WrongHeld
returns-in-WrongHeld c = told_nowhere (ap refusal_of c.in-WrongHeld.is) c.nowhere-in-WrongHeld.ensures

pub returns-in-WrongReading : goal.returns-in-WrongReading
returns-in-WrongReading c = told_at (ap refusal_of c.in-WrongReading.is) c.at-in-WrongReading.ensures

pub returns-in-TextOver : goal.returns-in-TextOver
returns-in-TextOver c = told_nowhere (ap refusal_of c.in-TextOver.is) c.nowhere-in-TextOver.ensures
