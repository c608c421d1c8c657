use mathlib.Core.Path.{refl}
use lib.Ieee.{of_bits}
use Rattle.output_answer.proofs.no_answer.Goals as goal

pub returns : goal.returns
unfolding of_bits
returns c = refl
