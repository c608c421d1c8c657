use mathlib.Core.Path.{◌≡◌}
use lib.ListN.{drop}
use Rattle.model.specs.Tokens.{comment_part}
use Rattle.tokens.proofs.Laws.{comment_from}
use Rattle.tokens.proofs.comment_piece.Given as goal

abbrev pub invariant-loop-i : goal.invariant-loop-i
invariant-loop-i l = comment_from l.rest l.i ≡ comment_part (drop 2 l.rest)
