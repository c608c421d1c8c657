use mathlib.Core.Path.{◌≡◌}
use Prim.Native.Nat.{ℕ, ◌*◌, ◌-◌, ◌%◌, ◌^◌, ◌≤◌, ◌<◌}
use native.Mathlib.Nat.{mod-eq_of_lt}
use native.Mathlib.Omega.{arith}
use mir.Facts.{Fits-below}
use lib.Count.{count_leading_zeros}
use Rattle.long_quotient.proofs.Shifts.{Aligned, aligned, some_shift, one_less}
use Rattle.long_quotient.proofs.shift_below.Goals as goal

abbrev shift : ℕ → ℕ → ℕ
shift b r = count_leading_zeros 64 b - count_leading_zeros 64 r

-- b, shifted so that it has as many bits as r
bits : (b r : ℕ) → (0 < b) × (b ≤ r) × (r < 4611686018427387904) → (count_leading_zeros 64 r ≤ count_leading_zeros 64 b) × (shift b r < 64) × Aligned b r (shift b r)
bits b r p = aligned b r p.0 p.1 (omega (arith, p.2))

-- nothing is shifted out
whole : (b r : ℕ) → Aligned b r (shift b r) → (b * 2 ^ shift b r) % 18446744073709551616 ≡ b * 2 ^ shift b r
whole b r al = mod-eq_of_lt al.fits

pub overflow_sub-k : goal.overflow_sub-k
overflow_sub-k c = (bits c.args.b c.args.r c.requires).0

pub overflow_cast-k : goal.overflow_cast-k
overflow_cast-k c = Fits-below {n = 63} tt (omega (arith, (bits c.args.b c.args.r c.requires).1))

pub overflow_shl-b : goal.overflow_shl-b
overflow_shl-b c = (bits c.args.b c.args.r c.requires).1

pub overflow_sub-result : goal.overflow_sub-result
overflow_sub-result c =
    let b = c.args.b in
    let r = c.args.r in
    let al = (bits b r c.requires).2 in
    omega (arith, some_shift b r (shift b r) al c.requires.1 (omega (arith, c.if-b-k.false, whole b r al)))

pub returns-then-b-k : goal.returns-then-b-k
returns-then-b-k c =
    let b = c.args.b in
    let r = c.args.r in
    let h = bits b r c.requires in
    record {
      result_bound = (omega (arith, c.if-b-k.true, whole b r h.2), h.2.most);
      small = h.1;
    }

pub returns-else-b-k : goal.returns-else-b-k
returns-else-b-k c =
    let b = c.args.b in
    let r = c.args.r in
    let h = bits b r c.requires in
    record {
      result_bound = one_less b r (shift b r) h.2 c.requires.1 (omega (arith, c.if-b-k.false, whole b r h.2));
      small = omega (arith, h.1);
    }
