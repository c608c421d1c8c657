use mathlib.Core.Path.{◌≡◌}
use Prim.Native.Nat.{◌-◌}
use Rattle.model.specs.Basic.{all, tab}
use Rattle.model.specs.Image.{word_at}
use Rattle.stored_variables.specs.Stored.{input_stored}
use Rattle.stored_variables.proofs.inputs_ok.Given as goal

abbrev pub invariant-loop-i : goal.invariant-loop-i
invariant-loop-i l =
    let ok = input_stored (word_at l.image.stored.bytes.now) in
    let n = l.image.stored.header.inputs.rows in
    all ok (tab (λ j. j) (n - l.i) l.i) ≡ all ok (tab (λ j. j) n 0)
