use mathlib.Core.Path.{sym, ◌∙◌}
use native.Mathlib.Nat.{sub-zero}
use Rattle.model.specs.Image.{word_at}
use Rattle.laws.proofs.Places.{all_more, all_stop, all_end}
use Rattle.stored_variables.specs.Stored.{input_stored}
use Rattle.stored_variables.proofs.inputs_ok.Goals as goal

pub loop-i-init : goal.loop-i-init
loop-i-init c = rw sub-zero

pub returns-then-not-input_ok : goal.returns-then-not-input_ok
returns-then-not-input_ok c =
    let stored = c.args.image.now.stored in
    sym (all_stop (input_stored (word_at stored.bytes.now)) (λ j. j) stored.header.inputs.rows c.loop-i.i c.loop-i-test.true (sym c.input_ok.ensures ∙ c.if-not-input_ok.true)) ∙ c.loop-i.invariant

pub loop-i-preserved : goal.loop-i-preserved
loop-i-preserved c =
    let stored = c.args.image.now.stored in
    sym (all_more (input_stored (word_at stored.bytes.now)) (λ j. j) stored.header.inputs.rows c.loop-i.i c.loop-i-test.true (sym c.input_ok.ensures ∙ c.if-not-input_ok.false)) ∙ c.loop-i.invariant

pub returns : goal.returns
returns c =
    let stored = c.args.image.now.stored in
    sym (all_end (input_stored (word_at stored.bytes.now)) (λ j. j) stored.header.inputs.rows c.loop-i.i c.loop-i-test.false) ∙ c.loop-i.invariant
