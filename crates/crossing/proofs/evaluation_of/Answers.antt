use Rattle.crossing.proofs.evaluation_of.Goals as goal

pub returns : goal.returns
returns c =
    λ j. record { outcome = c.verdict.ensures j; answers = c.answers_of.ensures j; held = c.args.e.held }
