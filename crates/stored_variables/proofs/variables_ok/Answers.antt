use native.Mathlib.Omega.{arith}
use borrow.Author.Rules.{rules}
use Rattle.std.proofs.lemmas.Grind.{common_steps}
use Rattle.model.specs.Basic.{every}
use Rattle.model.specs.Image.{word_at}
use Rattle.stored_variables.specs.Stored.{variables_stored}
use Rattle.stored_variables.proofs.Wellformed.{variables_same}
use Rattle.stored_variables.proofs.variables_ok.Goals as goal

pub returns-then-outputs_ok : goal.returns-then-outputs_ok
unfolding every variables_stored
returns-then-outputs_ok c =
    rw (← variables_same (word_at c.args.image.now.stored.bytes.now) c.args.image.now.laid) (search rules)

pub returns-else-outputs_ok : goal.returns-else-outputs_ok
unfolding every variables_stored
returns-else-outputs_ok c =
    rw (← variables_same (word_at c.args.image.now.stored.bytes.now) c.args.image.now.laid) (grind (arith, common_steps))
