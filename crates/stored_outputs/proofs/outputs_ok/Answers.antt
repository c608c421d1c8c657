use mathlib.Core.Path.{sym, ◌∙◌}
use native.Mathlib.Nat.{sub-zero}
use Rattle.model.specs.Image.{word_at}
use Rattle.laws.proofs.Places.{all_more, all_stop, all_end}
use Rattle.stored_outputs.specs.Stored.{output_stored}
use Rattle.stored_outputs.proofs.outputs_ok.Goals as goal

pub loop-i-init : goal.loop-i-init
loop-i-init c = rw sub-zero

pub returns-then-not-output_ok : goal.returns-then-not-output_ok
returns-then-not-output_ok c =
    let stored = c.args.image.now.stored in
    sym (all_stop (output_stored (word_at stored.bytes.now)) (λ j. j) stored.header.outputs.rows c.loop-i.i c.loop-i-test.true (sym c.output_ok.ensures ∙ c.if-not-output_ok.true)) ∙ c.loop-i.invariant

pub loop-i-preserved : goal.loop-i-preserved
loop-i-preserved c =
    let stored = c.args.image.now.stored in
    sym (all_more (output_stored (word_at stored.bytes.now)) (λ j. j) stored.header.outputs.rows c.loop-i.i c.loop-i-test.true (sym c.output_ok.ensures ∙ c.if-not-output_ok.false)) ∙ c.loop-i.invariant

pub returns : goal.returns
returns c =
    let stored = c.args.image.now.stored in
    sym (all_end (output_stored (word_at stored.bytes.now)) (λ j. j) stored.header.outputs.rows c.loop-i.i c.loop-i-test.false) ∙ c.loop-i.invariant
