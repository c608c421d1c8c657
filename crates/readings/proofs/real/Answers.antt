use mathlib.Core.Path.{◌≡◌, refl, sym, ap, ◌∙◌, subst}
use mathlib.Core.Bool.{Bool, true, false}
use Prim.Native.Nat.{ℕ, ◌*◌, ◌/◌, ◌%◌, ◌^◌, min}
use native.Mathlib.Omega.{arith}
use lib.Dec.{T, leb}
use lib.IntN.{ℤ}
use lib.Ieee.{binary32, fits, to_bits}
use lib.Ieee.Bits.{to_bits-lt}
use mir.Syntax.{w32}
use mir.ValLaws.{to_z_pos}
use borrow.Author.Tests.{le-leb, lt-leb}
use Rattle.std.specs.Prelude.{Ok}
use Rattle.model.specs.Bounds.{crisp_limit}
use Rattle.model.specs.Readings.{real_of}
use Rattle.readings.specs.Fields.{magnitude_of, significand_of}
use Rattle.readings.proofs.Rounding.{side, signed}
use Rattle.laws.proofs.Signed.{minus_fits, taken_from_zero, negated}
use Rattle.readings.proofs.Bits.{finite, special, at_bits, no_nan, is_nan_lem}
use Rattle.readings.proofs.real.Goals as goal
use Rattle.readings.proofs.real.Goals.{After-magnitude-v, Else-x}

fits_x : (c : Else-x) → T (fits binary32 c.args.x)
fits_x c = subst T (sym c.well_formed.0.1) tt

-- what the code's magnitude is, under the sign s of x
answered : (c : After-magnitude-v) →
    let x = c.args.x in
    let q = c.significand-q.result in
    let k = c.exponent-k.result in
    (s : Bool) → leb 2147483648 (to_bits binary32 x) ≡ s
    → (d : ℕ) → c.magnitude-v.result ≡ min (magnitude_of d (1000 * (q * 2 ^ k)) (2 ^ 149)) crisp_limit → d ≡ side s
    → (z : ℤ) → z ≡ signed s c.magnitude-v.result → Ok (record { 0 = z }) ≡ real_of x
answered c s es d em ed z ez =
    let x = c.args.x in
    let n = to_bits binary32 x in
    let e = n % 2147483648 / 8388608 in
    let t = n % 8388608 in
    let q = c.significand-q in
    let k = c.exponent-k in
    ap (λ (z : ℤ). Ok (record { 0 = z })) (ez ∙ ap (signed s) (em
    ∙ ap (λ (y : ℕ). min (magnitude_of y (1000 * (q.result * 2 ^ k.result)) (2 ^ 149)) crisp_limit) ed
    ∙ ap (λ (y : ℕ). min (magnitude_of (side s) (1000 * (y * 2 ^ k.result)) (2 ^ 149)) crisp_limit) q.ensures.0
    ∙ ap (λ (y : ℕ). min (magnitude_of (side s) (1000 * (significand_of e t * 2 ^ y)) (2 ^ 149)) crisp_limit) k.ensures))
    ∙ sym (at_bits x (fits_x c.before.before.before.before) s es ∙ finite s e t c.if-e-eq255.false)

pub returns-then-x : goal.returns-then-x
returns-then-x c = is_nan_lem c.args.x c.if-x.true

pub float_to_bits-b : goal.float_to_bits-b
float_to_bits-b c = no_nan c.args.x c.if-x.false

pub overflow_cast-b : goal.overflow_cast-b
overflow_cast-b c = omega (arith, to_bits-lt binary32 c.args.x (fits_x (goal.at.overflow_cast-b c).Else-x))

pub returns-then-e-eq255 : goal.returns-then-e-eq255
returns-then-e-eq255 c =
    let x = c.args.x in
    let n = to_bits binary32 x in
    sym (at_bits x (fits_x (goal.at.returns-then-e-eq255 c).Else-x) (leb 2147483648 n) refl ∙ special (leb 2147483648 n) (n % 2147483648 / 8388608) (n % 8388608) c.if-e-eq255.true)

pub magnitude-v-requires : goal.magnitude-v-requires
magnitude-v-requires c = (
  omega (arith, to_bits-lt binary32 c.args.x (fits_x (goal.at.magnitude-v-requires c).Else-x)),
  c.significand-q.ensures.1,
  λ h. c.significand-q.ensures.2 (omega (arith, c.exponent-k.ensures)),
)

pub overflow_sub-result : goal.overflow_sub-result
overflow_sub-result c =
    let v = c.magnitude-v in
    rw (taken_from_zero v.result v.ensures.1) (minus_fits v.result v.ensures.1)

pub returns-then-b-lt2147483648 : goal.returns-then-b-lt2147483648
returns-then-b-lt2147483648 c =
    let v = c.magnitude-v in
    let n = to_bits binary32 c.args.x in
    answered (goal.at.returns-then-b-lt2147483648 c).After-magnitude-v false (lt-leb 2147483648 n c.if-b-lt2147483648.true) _ v.ensures.0 (omega arith) _ (to_z_pos w32 v.result (omega (arith, v.ensures.1)))

pub returns-else-b-lt2147483648 : goal.returns-else-b-lt2147483648
returns-else-b-lt2147483648 c =
    let v = c.magnitude-v in
    let n = to_bits binary32 c.args.x in
    answered (goal.at.returns-else-b-lt2147483648 c).After-magnitude-v true (le-leb 2147483648 n c.if-b-lt2147483648.false) _ v.ensures.0 (omega (arith, to_bits-lt binary32 c.args.x (fits_x (goal.at.returns-else-b-lt2147483648 c).Else-x))) _
    (negated v.result v.ensures.1)
