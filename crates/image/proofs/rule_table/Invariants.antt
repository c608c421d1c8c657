use Rattle.std.proofs.Common.{◌≡◌, ◌+◌, ◌*◌, length}
use Rattle.model.specs.Image.{rule_width}
use Rattle.image.specs.Rows.{rule_words, rule_next, rule_rows}
use Rattle.variable_rows.proofs.Turns.{Going}
use Rattle.image.proofs.rule_table.Given as goal

abbrev pub invariant-loop-i : goal.invariant-loop-i
invariant-loop-i l =
    (l.p ≡ l.at + l.i * rule_width) × (length l.out ≡ length l.initial.out)
    × Going (rule_words l.rules) (rule_next l.rules) (rule_rows l.rules l.n) l.n l.initial.out l.at l.i (l.word, l.conclusion) l.p l.out
