use mathlib.Core.Path.{sym, ap, ◌∙◌}
use mathlib.Core.Bool.{Bool, true, false}
use mathlib.Core.Option.{some}
use Prim.Native.Nat.{◌+◌}
use Rattle.model.specs.Image.{word_at}
use Rattle.std.specs.Prelude.{◌≡◌, is_some}
use Rattle.condition_words.specs.Machine.{turn}
use Rattle.condition_words.proofs.Passes.{Left, left_start, left_turn}
use Rattle.condition_stack.specs.Shapes.{shapes, held, view}
use Rattle.condition_stack.proofs.Steps.{fails, ends}
use Rattle.stored_conditions.proofs.stored_condition.Goals as goal
use Rattle.stored_conditions.proofs.stored_condition.Goals.{After-step}

-- one more word
turned : (c : After-step) (b : Bool) → is_some c.step.result ≡ b
    → Left (shapes c.args.m) (word_at c.args.img.now) c.args.d c.args.n (c.loop-i.i + 1) (view c.step.new.stack.shapes c.step.new.stack.height b)
unfolding turn
turned c b e =
    let l = c.loop-i in
    left_turn (shapes c.args.m) (word_at c.args.img.now) c.args.d c.args.n l.i _ (some (held l.stack.shapes l.stack.height)) _
    c.loop-i-test.true c.whole_word.ensures.0
    (ap (λ (x : Bool). view c.step.new.stack.shapes c.step.new.stack.height x) (sym e) ∙ c.step.ensures) l.invariant

pub loop-i-init : goal.loop-i-init
loop-i-init c = rw c.new-stack.ensures (left_start (shapes c.args.m) (word_at c.args.img.now) c.args.d c.args.n)

pub returns-then-is_none : goal.returns-then-is_none
returns-then-is_none c = fails _ _ _ _ _ (turned (goal.at.returns-then-is_none c).After-step false c.if-is_none.ensures)

pub loop-i-preserved : goal.loop-i-preserved
loop-i-preserved c = turned (goal.at.loop-i-preserved c).After-step true c.if-is_none.ensures

pub returns : goal.returns
returns c = ends _ _ _ _ _ _ _ c.loop-i-test.false c.loop-i.invariant
