use mathlib.Core.Path.{◌≡◌}
use Prim.Native.Nat.{◌+◌, ◌-◌}
use Rattle.model.specs.Basic.{all, tab}
use Rattle.model.specs.Ranges.{range_view}
use Rattle.model.specs.WellFormed.{singleton_ok}
use Rattle.model.specs.Image.{word_at, singleton_at}
use Rattle.stored_outputs.proofs.singletons_ok.Given as goal

abbrev pub invariant-loop-t : goal.invariant-loop-t
invariant-loop-t l =
    let f = singleton_at (word_at l.image.stored.bytes.now) in
    let ok = singleton_ok (range_view l.range) in
    all ok (tab f (l.s + l.k - l.t) l.t) ≡ all ok (tab f l.k l.s)
