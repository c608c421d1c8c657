use Rattle.crossing.proofs.fresh_of.Goals as goal

pub returns : goal.returns
returns c = λ j. record { outcome = c.verdict.ensures j; held = c.args.f.held }
