use native.Mathlib.Omega.{arith}
use borrow.Author.Rules.{rules}
use Rattle.std.proofs.lemmas.Grind.{common_steps}
use Rattle.model.specs.Basic.{every}
use Rattle.model.specs.Image.{word_at}
use Rattle.rule_rows.specs.Rows.{rule_tests}
use Rattle.rule_rows.proofs.Rules.{rule_spelt, small}
use Rattle.rule_rows.proofs.rule_ok.Goals as goal

pub stored_condition-requires : goal.stored_condition-requires
stored_condition-requires c = let m = small c.args.image.now in search rules

pub returns-then-conclusions_ok : goal.returns-then-conclusions_ok
unfolding every rule_tests
returns-then-conclusions_ok c =
    let image = c.args.image.now in
    rw (← rule_spelt (word_at image.stored.bytes.now) image.laid image.input_terms image.counted c.args.i) (search rules)

pub returns-else-conclusions_ok : goal.returns-else-conclusions_ok
unfolding every rule_tests
returns-else-conclusions_ok c =
    let image = c.args.image.now in
    rw (← rule_spelt (word_at image.stored.bytes.now) image.laid image.input_terms image.counted c.args.i) (grind (arith, common_steps))
