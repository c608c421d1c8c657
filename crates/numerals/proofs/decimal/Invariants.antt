use mathlib.Core.Path.{◌≡◌}
use lib.ListN.{drop}
use Rattle.model.specs.Tokens.{decimal_from, decimal}
use Rattle.numerals.proofs.Digits as laws
use Rattle.numerals.proofs.decimal.Given as goal

abbrev pub invariant-loop-c : goal.invariant-loop-c
invariant-loop-c l = record {
  small : laws.Small l.n l.c-index;
  rest : decimal_from l.n (drop l.c-index l.w) ≡ decimal l.w;
}
