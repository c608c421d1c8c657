use mathlib.Core.Path.{◌≡◌}
use Prim.Native.Nat.{◌-◌}
use Rattle.model.specs.Image.{word_at}
use Rattle.stored_rules.specs.Walk.{rules_walk}
use Rattle.stored_rules.proofs.rows_ok.Given as goal

abbrev pub invariant-loop-i : goal.invariant-loop-i
invariant-loop-i l =
    let walk = rules_walk (word_at l.image.stored.bytes.now) in
    walk (l.header.rules.rows - l.i) l.i l.totals.words l.totals.conclusions ≡ walk l.header.rules.rows 0 0 0
