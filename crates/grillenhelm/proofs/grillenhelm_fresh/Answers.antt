use mathlib.Core.Path.{◌∙◌}
use Rattle.model.specs.Evaluation.{fresh}
use Rattle.crossing.proofs.Laws.{crossed_fresh}
use Rattle.grillenhelm.proofs.grillenhelm_fresh.Goals as goal

pub returns : goal.returns
returns c =
    let f = c.fresh_of-f in
    let o = fresh c.args.image.now in
    c.fresh_of.ensures ∙ crossed_fresh f.result o f.ensures.0 f.ensures.1
