use borrow.Author.Rules.{rules}
use mathlib.Core.Path.{◌≡◌, refl}
use lib.Ieee.{binary64, of_bits, of_int}
use lib.IntN.{pos}
use mir.Syntax.{w32}
use mir.Val.{SFits}
use mir.ValLaws.{to_z-of_z}
use Rattle.model.specs.Readings.{float_of}
use Rattle.crisp.proofs.to_float.Goals as goal
use Rattle.crisp.proofs.to_float.Goals.{Start}

-- the literal 1000.0
thousand : of_bits binary64 4652007308841189376 ≡ of_int binary64 (pos 1000)
unfolding of_bits of_int
thousand = refl

fits : (c : Start) → SFits w32 c.args.x.0
fits c = search rules

pub returns : goal.returns
unfolding float_of
returns c = rw (to_z-of_z w32 c.args.x.0 (fits (goal.at.returns c).Start), thousand)
