use Prim.Native.Nat.{◌*◌}
use Rattle.rule_text.proofs.Laws as laws
use native.Mathlib.Omega.{arith}
use Rattle.rule_text.proofs.put_row.Goals as goal

pub returns : goal.returns
returns c = record { put = omega arith; said = let a = c.args in laws.four_put a.rules.now (a.k * 4) a.number a.words a.conclusions a.weight.0 }
