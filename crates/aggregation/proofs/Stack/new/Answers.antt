use mathlib.Core.Path.{refl}
use Rattle.condition_words.specs.Machine.{stack_of}
use Rattle.aggregation.proofs.Stack.new.Goals as goal

pub returns : goal.returns
unfolding stack_of
returns c = refl
