use mathlib.Core.Path.{◌≡◌}
use Prim.Native.Nat.{◌+◌, ◌-◌}
use Rattle.model.specs.Basic.{all, tab}
use Rattle.model.specs.WellFormed.{conclusion_ok}
use Rattle.model.specs.Image.{word_at, conclusion_at, decode}
use Rattle.stored_conclusions.proofs.conclusions_ok.Given as goal

abbrev pub invariant-loop-i : goal.invariant-loop-i
invariant-loop-i l =
    let w = word_at l.image.stored.bytes.now in
    let ok = conclusion_ok (decode w) in
    all ok (tab (conclusion_at w) (l.s + l.k - l.i) l.i) ≡ all ok (tab (conclusion_at w) l.k l.s)
