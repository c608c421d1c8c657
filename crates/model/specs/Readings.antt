-- Readings: what a REAL, an INT or no reading at all is as a crisp value; and a crisp value as a 64-bit float.
use Rattle.std.specs.Prelude.{Bool, ℕ, ◌*◌, Float, ℤ, pos, neg_ℤ, ◌*ℤ◌, Result, Ok, Err, if◌then◌else◌}
use Rattle.std.proofs.Math.Option.{Option, none, some}
use Rattle.std.specs.Float.{nan, inf, fin, binary64}
use Rattle.std.specs.Float.Ieee.{up, down, of_int, div}
use Rattle.std.specs.Int.Signed.{lt_z}
use Rattle.model.specs.Bounds.{crisp_limit}
use Rattle.model.specs.Block.{InputType, real, int}
use Rattle.model.specs.Degrees.{nearestℤ}
use Rattle.model.specs.declared.Crisp.{Crisp}
use Rattle.model.specs.declared.NotTaken.{NotTaken}
use Rattle.model.specs.declared.NotTaken.TheVariants.{Absent as Missing, NotFinite, WrongKind}
use Rattle.model.specs.declared.Reading.{Reading}
use Rattle.model.specs.declared.Reading.TheVariants.{Real, Int, Absent}

-- to the nearest crisp bound
abbrev pub clamped : ℤ → ℤ
clamped z =
    if lt_z z (neg_ℤ (pos crisp_limit)) then neg_ℤ (pos crisp_limit) else
    if lt_z (pos crisp_limit) z then pos crisp_limit else z

-- a finite float is m * up e / down e, negative where s is true (lib.Ieee)
abbrev pub nearest_thousandth : Bool → ℕ → ℤ → ℤ
nearest_thousandth s m e = nearestℤ (if s then neg_ℤ (pos (1000 * m * up e)) else pos (1000 * m * up e)) (down e)

unfoldable pub real_of : Float → Result Crisp NotTaken
real_of nan = Err NotFinite
real_of (inf s) = Err NotFinite
real_of (fin s m e) = Ok (record { 0 = clamped (nearest_thousandth s m e) })

unfoldable pub taken : InputType → Reading → Result Crisp NotTaken
taken real (Real x) = real_of x
taken real (Int n) = Err WrongKind
taken real Absent = Err Missing
taken int (Real x) = Err WrongKind
taken int (Int n) = Ok (record { 0 = n *ℤ pos 1000 })
taken int Absent = Err Missing

-- none where the reading is absent, not finite or not of the declared type
abbrev pub value_in : Result Crisp NotTaken → Option ℤ
value_in (Ok c) = some c.0
value_in (Err e) = none

-- thousandths / 1000, rounded once
unfoldable pub float_of : ℤ → Float
float_of t = div binary64 (of_int binary64 t) (of_int binary64 (pos 1000))
