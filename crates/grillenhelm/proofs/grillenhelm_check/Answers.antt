use mathlib.Core.Path.{ap, ◌∙◌}
use Rattle.model.specs.Image.{loads}
use Rattle.outcome_crossing.specs.Outcomes.{bare_outcome}
use Rattle.outcome_crossing.proofs.Outcomes.{told_then}
use Rattle.grillenhelm.proofs.grillenhelm_check.Goals as goal

pub returns : goal.returns
returns c =
    let o = loads c.args.image.now in
    c.verdict.ensures ∙ ap bare_outcome c.check-v.ensures ∙ told_then (λ u. 0) (λ b. tt) o
