use mathlib.Core.Path.{◌≡◌}
use mathlib.Core.Bool.{true}
use Prim.Native.Nat.{◌-◌}
use lib.Dec.{eqb}
use lib.ListN.{length}
use Rattle.model.specs.Basic.{distinct, tab}
use Rattle.model.specs.Image.{word_at}
use Rattle.rule_numbers.specs.Numbers.{rule_number}
use Rattle.rule_numbers.proofs.Numbers.{Met}
use Rattle.rule_numbers.proofs.numbers_distinct.Given as goal

abbrev pub invariant-loop-i : goal.invariant-loop-i
invariant-loop-i l =
    let f = rule_number (word_at l.image.bytes.now) in
    let e = l.image.header.rules.rows in
    (length l.met ≡ 256) × (distinct eqb (tab f (e - l.i) l.i) ≡ true) × Met f e l.i l.met
