-- The numbers of refusals.
use mathlib.Core.Path.{◌≡◌, refl}
use mathlib.Core.Bool.{false}
use lib.Dec.{eqb}
use Rattle.model.specs.Refusals.{number_and_place}
use Rattle.model.specs.declared.Refusal.{Refusal}
use Rattle.model.specs.declared.Refusal.TheVariants.{TextTooLong, WrongToken, WrongNumber, WrongName, NotDeclared, TooMany, WrongPosition, Unpaired, PartMissing, BufferTooShort, ImageNotAccepted, WrongCount, WrongHeld, WrongReading, TextOver}

-- 0 is the number of no refusal
pub above_zero : (r : Refusal) → eqb (number_and_place r).0 0 ≡ false
above_zero TextTooLong = refl
above_zero (WrongToken place) = refl
above_zero (WrongNumber place) = refl
above_zero (WrongName place) = refl
above_zero (NotDeclared place) = refl
above_zero (TooMany place) = refl
above_zero (WrongPosition place) = refl
above_zero (Unpaired place) = refl
above_zero (PartMissing place) = refl
above_zero (BufferTooShort needed) = refl
above_zero ImageNotAccepted = refl
above_zero WrongCount = refl
above_zero WrongHeld = refl
above_zero (WrongReading index) = refl
above_zero TextOver = refl
