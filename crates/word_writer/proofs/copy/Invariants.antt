use Rattle.std.proofs.Common.{◌≡◌, ◌+◌, length, take}
use Rattle.word_writer.specs.Over.{Wrote}
use Rattle.word_writer.proofs.copy.Given as goal

abbrev pub invariant-loop-i : goal.invariant-loop-i
invariant-loop-i l = (length l.out ≡ length l.initial.out) × Wrote l.at (l.at + l.i) (take l.i l.ws) l.initial.out l.out
