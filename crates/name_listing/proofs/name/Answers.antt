use mathlib.Core.Path.{◌≡◌, ◌∙◌}
use Prim.Native.Nat.{◌+◌, ◌*◌, ◌-◌}
use native.Mathlib.Omega.{arith}
use Rattle.model.specs.Image.{word_at}
use Rattle.name_field.proofs.Names.{part_bytes, name_front}
use Rattle.name_listing.proofs.name.Goals as goal

pub returns-in-Some : goal.returns-in-Some
returns-in-Some c =
    let a = c.args in
    let (low, high, part, long) = c.in-Some.ensures.lookup.0 in
    let n : a.o * 4 + 16 - a.o * 4 ≡ 16 = omega arith in
    let bytes = part ∙ part_bytes a.img.now a.o (λ k. omega (arith, c.type_inv.img k)) _ n (omega (arith, n, high)) in
    rw (← (name_front (word_at a.img.now) a.o _ _ bytes c.first_zero.ensures.value)) c.puts.ensures

pub returns-in_default : goal.returns-in_default
returns-in_default c =
    let a = c.args in
    rw (← (name_front (word_at a.img.now) a.o _ _ c.bytes_at-s.ensures c.first_zero-in_default.ensures.value)) c.puts-in_default.ensures
