-- What a reading gives lies in the crisp bounds.
use mathlib.Core.Path.{◌≡◌, ap}
use lib.IntN.{ℤ}
use lib.Ieee.{Float, nan, inf, fin}
use Rattle.std.specs.Prelude.{Result, Ok, IfOk}
use Rattle.model.specs.Readings.{nearest_thousandth, real_of}
use Rattle.model.specs.declared.Crisp.{Crisp}
use Rattle.model.specs.declared.NotTaken.{NotTaken}
use Rattle.crisp.specs.Crisp.{InCrisp}
use Rattle.readings.proofs.Rounding.{clamped_crisp}

abbrev pub Bounded : Result Crisp NotTaken → Type 0
Bounded t = IfOk t (λ c. InCrisp c.0)

pub real_bounded : (x : Float) → Bounded (real_of x)
unfolding real_of
real_bounded nan = tt
real_bounded (inf s) = tt
real_bounded (fin s m e) = clamped_crisp (nearest_thousandth s m e)

pub value_is : (r : Crisp) (z : ℤ) → r.0 ≡ z → ◌≡◌ {A = Result Crisp NotTaken} (Ok r) (Ok (record { 0 = z }))
value_is r z e = ap (λ (y : ℤ). Ok (record { 0 = y })) e
