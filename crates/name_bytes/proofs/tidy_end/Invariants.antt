use Rattle.std.proofs.Common.{◌≡◌, false, drop}
use Rattle.name_bytes.specs.Names.{tidy_end}
use Rattle.name_bytes.proofs.tidy_end.Given as goal

abbrev pub invariant-loop-i : goal.invariant-loop-i
invariant-loop-i l = tidy_end l.under l.i (drop l.i l.s) ≡ tidy_end false 0 l.s
