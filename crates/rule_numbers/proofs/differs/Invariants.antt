use mathlib.Core.Path.{◌≡◌}
use mathlib.Core.Bool.{not}
use Prim.Native.Nat.{◌-◌}
use lib.Dec.{eqb}
use Rattle.model.specs.Basic.{all, tab}
use Rattle.model.specs.Image.{word_at}
use Rattle.rule_numbers.specs.Numbers.{rule_number}
use Rattle.rule_numbers.proofs.differs.Given as goal

abbrev pub invariant-loop-j : goal.invariant-loop-j
invariant-loop-j l =
    let numbers = tab (rule_number (word_at l.image.bytes.now)) in
    let e = l.image.header.rules.rows in
    all (λ n. not (eqb l.number n)) (numbers (e - l.j) l.j) ≡ all (λ n. not (eqb l.number n)) (numbers (e - l.first) l.first)
