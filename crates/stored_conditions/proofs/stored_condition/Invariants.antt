use mathlib.Core.Option.{some}
use Rattle.model.specs.Image.{word_at}
use Rattle.condition_stack.specs.Shapes.{shapes, held}
use Rattle.condition_words.proofs.Passes.{Left}
use Rattle.stored_conditions.proofs.stored_condition.Given as goal

abbrev pub invariant-loop-i : goal.invariant-loop-i
invariant-loop-i l = Left (shapes l.m) (word_at l.img) l.d l.n l.i (some (held l.stack.shapes l.stack.height))
