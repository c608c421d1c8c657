-- A helper: the numbers of the reader's faults. The contract of `refusal_of` ties them to model's.
use Rattle.std.specs.Prelude.{ℕ}
use Rattle.refusals.specs.declared.Fault.{Fault}
use Rattle.refusals.specs.declared.Fault.TheVariants.{WrongToken, WrongNumber, WrongName, NotDeclared, TooMany, WrongPosition, Unpaired, PartMissing}

abbrev pub number : Fault → ℕ
number WrongToken = 2
number WrongNumber = 3
number WrongName = 4
number NotDeclared = 5
number TooMany = 6
number WrongPosition = 7
number Unpaired = 8
number PartMissing = 9
