use mathlib.Core.Path.{ap, ◌∙◌}
use mathlib.Core.List.{List}
use Rattle.model.specs.Evaluation.{evaluate}
use Rattle.model.specs.declared.Reading.{Reading}
use Rattle.crossing.specs.Crossing.{evaluation_in}
use Rattle.crossing.proofs.Laws.{crossed_tells}
use Rattle.grillenhelm.proofs.grillenhelm_evaluate.Goals as goal

pub returns : goal.returns
returns c =
    let e = c.evaluate-e in
    let rs = c.readings_of-rs in
    let x = c.args in
    c.evaluation_of.ensures ∙ crossed_tells e.result x.held _ e.ensures
    ∙ ap (λ (l : List Reading). evaluation_in x.held (evaluate x.image.now l x.readings.count x.held)) rs.ensures
