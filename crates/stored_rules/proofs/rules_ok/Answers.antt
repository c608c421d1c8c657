use native.Mathlib.Omega.{arith}
use borrow.Author.Rules.{rules}
use Rattle.std.proofs.lemmas.Grind.{common_steps}
use Rattle.model.specs.Basic.{every}
use Rattle.model.specs.Image.{word_at}
use Rattle.stored_rules.specs.Walk.{rules_stored}
use Rattle.stored_rules.proofs.Rules.{rules_spelt}
use Rattle.stored_rules.proofs.rules_ok.Goals as goal

pub returns-then-rows_ok : goal.returns-then-rows_ok
unfolding every rules_stored
returns-then-rows_ok c = rw (← rules_spelt (word_at c.args.image.now.stored.bytes.now)) (search rules)

pub returns-else-rows_ok : goal.returns-else-rows_ok
unfolding every rules_stored
returns-else-rows_ok c = rw (← rules_spelt (word_at c.args.image.now.stored.bytes.now)) (grind (arith, common_steps))
