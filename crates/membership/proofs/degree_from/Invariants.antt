use mathlib.Core.Path.{◌≡◌}
use Prim.Native.Nat.{◌+◌, ◌-◌}
use lib.Signed.{◌≤ℤ◌}
use Rattle.model.specs.Basic.{tab}
use Rattle.model.specs.Degrees.{degree_from}
use Rattle.model.specs.Image.{word_at, point_at}
use Rattle.membership.proofs.degree_from.Given as goal

-- the degree is that from the point before i on
abbrev pub invariant-loop-i : goal.invariant-loop-i
invariant-loop-i l =
    let f = point_at (word_at l.stored.bytes.now) in record {
      reached : (f (l.i - 1)).at ≤ℤ l.x.0;
      rest : degree_from l.x.0 (f (l.i - 1)) (tab f (l.end - l.i) l.i) ≡ degree_from l.x.0 (f l.first) (tab f (l.end - (l.first + 1)) (l.first + 1));
    }
