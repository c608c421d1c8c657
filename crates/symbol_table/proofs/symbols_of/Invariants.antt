use mathlib.Core.Path.{◌≡◌}
use Prim.Native.Nat.{◌*◌, ◌≤◌}
use lib.ListN.{length, get_or}
use Rattle.model.specs.Bounds.{term_limit}
use Rattle.symbol_table.specs.Firsts.{Firsts, terms_at}
use Rattle.symbol_table.proofs.Laws as laws
use Rattle.symbol_table.proofs.symbols_of.Given as goal

abbrev pub invariant-loop-v : goal.invariant-loop-v
invariant-loop-v l = record {
  size : length l.r ≡ laws.symbol_count;
  small : get_or l.r l.v 0 ≤ l.v * term_limit;
  firsts : Firsts (terms_at l.t) l.v l.r;
}
