use mathlib.Core.Path.{◌≡◌, refl, ap, ◌∙◌}
use Prim.Native.Nat.{◌+◌, ◌*◌, ◌-◌}
use native.Mathlib.Omega.{arith}
use Rattle.model.specs.Tokens.{is_name}
use Rattle.model.specs.Image.{word_at}
use Rattle.name_field.proofs.Names.{part_bytes, name_front}
use Rattle.stored_names.proofs.name_ok.Goals as goal

pub returns : goal.returns
returns c =
    let a = c.args in
    let n : a.o * 4 + 16 - a.o * 4 ≡ 16 = omega arith in
    let e = part_bytes a.img.now a.o (λ k. omega (arith, c.type_inv.img k)) _ n (omega (arith, n, c.requires)) in
    c.field_ok.ensures ∙ ap is_name (name_front (word_at a.img.now) a.o _ _ e refl)
