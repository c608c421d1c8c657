use mathlib.Core.Path.{◌≡◌, ◌∙◌}
use mathlib.Core.Bool.{true, false}
use native.Mathlib.Omega.{arith}
use borrow.Author.Rules.{rules}
use Rattle.model.specs.Basic.{between, run}
use lib.ListN.{length}
use Prim.Native.Nat.{◌≤◌}
use Rattle.model.specs.Tokens.{is_digit}
use Rattle.numerals.proofs.Values as values
use Rattle.numerals.proofs.rule_number.Goals as goal
use Rattle.numerals.proofs.rule_number.Goals.{then-w-gt-DIGITS-via-then-w-gt-DIGITS, then-w-gt-DIGITS-via-else-w-gt-DIGITS+then-digits_end-w}

pub returns-then-w-gt-DIGITS-clause-value : goal.returns-then-w-gt-DIGITS-clause-value
returns-then-w-gt-DIGITS-clause-value c =
    let w = c.args.w.now in
    elim c.then-w-gt-DIGITS.branch [
      | then-w-gt-DIGITS-via-then-w-gt-DIGITS x ↦ values.rule_long w x.if-w-gt-DIGITS.true
      | then-w-gt-DIGITS-via-else-w-gt-DIGITS+then-digits_end-w x ↦ values.rule_other w (omega (arith, x.digits_end.ensures.value))
    ]

pub returns-then-contains-clause-value : goal.returns-then-contains-clause-value
returns-then-contains-clause-value c =
    let k : between 1 65535 c.decimal-n.result ≡ true = search rules in
    let a : length c.args.w.now ≤ run is_digit c.args.w.now = omega (arith, c.digits_end.ensures.value) in
    (values.rule_by c.args.w.now a c.if-w-gt-DIGITS.false ∙ (rw c.decimal-n.ensures.0 at k), c.decimal-n.ensures.0)

pub returns-else-contains-clause-value : goal.returns-else-contains-clause-value
returns-else-contains-clause-value c =
    let k : between 1 65535 c.decimal-n.result ≡ false = search rules in
    let a : length c.args.w.now ≤ run is_digit c.args.w.now = omega (arith, c.digits_end.ensures.value) in
    values.rule_by c.args.w.now a c.if-w-gt-DIGITS.false ∙ (rw c.decimal-n.ensures.0 at k)
