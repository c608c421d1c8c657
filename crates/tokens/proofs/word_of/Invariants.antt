use mathlib.Core.Path.{◌≡◌}
use Prim.Native.Nat.{◌+◌}
use lib.ListN.{drop}
use Rattle.model.specs.Basic.{run}
use Rattle.model.specs.Tokens.{is_name_byte}
use Rattle.tokens.specs.Tokens.{tidy_word}
use Rattle.tokens.proofs.word_of.Given as goal

abbrev pub invariant-loop-i : goal.invariant-loop-i
invariant-loop-i l = (l.i + run is_name_byte (drop l.i l.s) ≡ run is_name_byte l.s) × (tidy_word (drop l.i l.s) ≡ tidy_word l.s)
