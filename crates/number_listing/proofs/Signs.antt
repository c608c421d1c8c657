-- The text of a crisp value by its sign.
use mathlib.Core.Path.{◌≡◌, refl, sym}
use mathlib.Core.List.{◌++◌}
use native.Mathlib.Omega.{arith}
use Rattle.std.proofs.Common.{ℤ, pos, negsuc, nat_abs, true, false}
use borrow.Author.Tests.{ltb-true}
use lib.Signed.{lt_z}
use Rattle.model.specs.Basic.{bytes}
use Rattle.model.specs.Listing.{thousandths_text, crisp_text}
use Rattle.laws.proofs.Tests.{clash}

pub below_zero : (z : ℤ) → lt_z z (pos 0) ≡ true → crisp_text z ≡ bytes "-" ++ thousandths_text (nat_abs z)
unfolding crisp_text
below_zero (pos n) h = absurd (omega (arith, ltb-true n 0 h))
below_zero (negsuc n) h = refl

pub not_below : (z : ℤ) → lt_z z (pos 0) ≡ false → crisp_text z ≡ thousandths_text (nat_abs z)
unfolding crisp_text
not_below (pos n) h = refl
not_below (negsuc n) h = clash (sym h)
