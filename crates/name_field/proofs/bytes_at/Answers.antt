use mathlib.Core.Path.{◌≡◌, refl, ap, ◌∙◌}
use mathlib.Core.List.{List, ◌++◌, append-nil}
use Prim.Native.Nat.{ℕ, ◌-◌}
use native.Mathlib.Omega.{arith}
use lib.ListN.{set, replicate, length-set}
use Rattle.model.specs.Basic.{tab}
use Rattle.laws.proofs.Places.{fill_front}
use Rattle.name_field.proofs.Names.{byte_of, four_words}
use Rattle.name_field.proofs.bytes_at.Goals as goal

pub loop-k-init : goal.loop-k-init
unfolding tab
loop-k-init c = (refl, refl)

pub loop-k-preserved : goal.loop-k-preserved
loop-k-preserved c =
    let l = c.loop-k in
    let a = c.args in
    let e = fill_front (byte_of a.img.now a.o) 0 _ 16 l.k c.loop-k-test.true c.byte.ensures in
    let more = ap (λ (x : List ℕ). set x l.k c.byte.result) l.invariant.1 ∙ e in
    (simp length-set l.invariant.0, more)

pub returns : goal.returns
returns c =
    let l = c.loop-k in
    let a = c.args in
    let f = byte_of a.img.now a.o in
    let e : l.k ≡ 16 = omega (arith, l.auto, c.loop-k-test.false) in
    let full = ap (λ (n : ℕ). tab f n 0 ++ replicate (16 - n) 0) e ∙ append-nil (tab f 16 0) in
    l.invariant.1 ∙ full ∙ four_words a.img.now a.o (λ k. omega (arith, c.type_inv.img k))
