use mathlib.Core.Path.{ap, ◌∙◌}
use Rattle.std.specs.Prelude.{Err}
use Rattle.model.specs.Refusals.{verdict_of}
use Rattle.load.specs.Judged.{Judged}
use Rattle.load.proofs.Laws.{handed_on, verdict_yes, verdict_no}
use Rattle.load.proofs.check.Goals as goal

pub returns-in_err-examine : goal.returns-in_err-examine
unfolding Judged
returns-in_err-examine c =
    let (f, why) = c.in_err-examine.ensures in
    ap verdict_of (handed_on _ c.from_residual.ensures.1 ∙ ap Err why) ∙ verdict_no c.args.img.now f

pub returns : goal.returns
unfolding Judged
returns c = verdict_yes c.args.img.now c.in_ok-examine.ensures.0
