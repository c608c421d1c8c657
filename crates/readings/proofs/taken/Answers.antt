use borrow.Author.Rules.{rules}
use mathlib.Core.Path.{◌≡◌, refl, ap, ◌∙◌}
use lib.IntN.{ℤ, pos, ◌*ℤ◌}
use mir.Syntax.{w16}
use mir.Val.{SFits}
use mir.ValLaws.{to_z-of_z}
use Rattle.std.specs.Prelude.{Err}
use Rattle.model.specs.Readings.{taken}
use Rattle.model.specs.declared.NotTaken.TheVariants.{Absent}
use Rattle.model.specs.declared.InputType.{InputType}
use Rattle.model.specs.declared.InputType.TheVariants.{Real, Int}
use Rattle.model.specs.declared.Reading.TheVariants as reading
use Rattle.readings.proofs.Bounds.{real_bounded, value_is}
use Rattle.readings.proofs.taken.Goals as goal
use Rattle.readings.proofs.taken.Goals.{After-int}

fits_int : (c : After-int) → SFits w16 c.in-Int-Int.n
fits_int c = search rules

absent : (k : InputType) → Err Absent ≡ taken k (reading.Absent)
unfolding taken
absent Real = refl
absent Int = refl

pub returns-in_default-Absent : goal.returns-in_default-Absent
returns-in_default-Absent c = rw c.in_default-Absent.is-1 (absent c.args.kind, tt)

pub returns-in-Real-Real : goal.returns-in-Real-Real
unfolding taken
returns-in-Real-Real c =
    rw (c.in-Real-Real.is-0, c.in-Real-Real.is-1) (c.real.ensures, rw c.real.ensures (real_bounded _))

pub returns-in-Real-Int : goal.returns-in-Real-Int
unfolding taken
returns-in-Real-Int c = rw (c.in-Real-Int.is-0, c.in-Real-Int.is-1) (refl, tt)

pub returns-in-Int-Real : goal.returns-in-Int-Real
unfolding taken
returns-in-Int-Real c = rw (c.in-Int-Real.is-0, c.in-Int-Real.is-1) (refl, tt)

pub returns-in-Int-Int : goal.returns-in-Int-Int
unfolding taken
returns-in-Int-Int c =
    let n = c.in-Int-Int.n in
    rw (c.in-Int-Int.is-0, c.in-Int-Int.is-1) (
      value_is c.int.result (n *ℤ pos 1000) (c.int.ensures.0 ∙ ap (λ (z : ℤ). z *ℤ pos 1000) (to_z-of_z w16 n (fits_int (goal.at.returns-in-Int-Int c).After-int))),
      c.int.ensures.1,
    )
