use Rattle.model.specs.Image.{name_words}
use Rattle.laws.proofs.Slices.{part}
use Rattle.variable_rows.proofs.name_words.Goals as goal

pub returns : goal.returns
unfolding name_words
returns c = simp (c.word.ensures.0, c.word-2.ensures.0, c.word-3.ensures.0, c.word-4.ensures.0, part)
