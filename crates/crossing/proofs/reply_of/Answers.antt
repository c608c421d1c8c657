use Rattle.crossing.proofs.reply_of.Goals as goal

pub returns : goal.returns
returns c = λ j. record { outcome = c.verdict.ensures j; answers = c.answers_of.ensures j }
