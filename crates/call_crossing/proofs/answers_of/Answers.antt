use Rattle.std.proofs.Common.{rules, arith}
use Rattle.model.specs.Evaluation.{no_answer}
use Rattle.call_crossing.specs.Values.{answer_of}
use Rattle.call_crossing.proofs.Arrays.{all_told}
use Rattle.call_crossing.proofs.answers_of.Goals as goal

pub returns : goal.returns
returns c =
    let m = c.map.ensures.items in
    all_told answer_of no_answer c.args.xs c.map.result 6 (omega (arith, c.well_formed)) m.long
    (λ i l. let q = m.at i no_answer (answer_of no_answer) l in search rules)
