use mathlib.Core.Path.{◌≡◌}
use lib.ListN.{length, drop}
use Rattle.model.specs.Basic.{alike}
use Rattle.keywords.proofs.is_word.Given as goal

abbrev pub invariant-loop-i : goal.invariant-loop-i
invariant-loop-i l = (length l.w ≡ length l.t) × (alike (drop l.i l.w) (drop l.i l.t) ≡ alike l.w l.t)
