use mathlib.Core.Path.{◌≡◌}
use mathlib.Core.List.{◌++◌}
use Prim.Native.Nat.{◌-◌, ◌≤◌}
use lib.IntN.{pos}
use lib.ListN.{replicate}
use Rattle.model.specs.Basic.{tab}
use Rattle.model.specs.Bounds.{output_limit}
use Rattle.model.specs.Image.{word_at}
use Rattle.model.specs.Evaluation.{no_answer}
use Rattle.degrees.specs.Tables.{numbers}
use Rattle.defuzzification.specs.Outputs.{height_of}
use Rattle.defuzzification.proofs.Answers.{answer_at}
use Rattle.defuzzification.proofs.outputs.Given as goal

abbrev pub invariant-loop-i : goal.invariant-loop-i
invariant-loop-i l =
    let f = answer_at (word_at l.image.stored.bytes.now) (height_of (numbers l.hs.at) l.image.input_terms) l.held.figures in record {
      few : l.i-end ≤ output_limit;
      answers : l.answers ≡ tab f l.i 0 ++ replicate (output_limit - l.i) no_answer;
      figures : l.figures ≡ tab (λ j. (f j).thousandths) l.i 0 ++ replicate (output_limit - l.i) (record { 0 = pos 0 });
    }
