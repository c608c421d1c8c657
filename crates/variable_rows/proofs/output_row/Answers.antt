use Rattle.model.specs.Image.{name_words}
use Rattle.variable_rows.specs.Rows.{output_words}
use Rattle.variable_rows.proofs.Views.{bit_byte}
use Rattle.variable_rows.proofs.output_row.Goals as goal

pub returns : goal.returns
unfolding output_words name_words
returns c =
    simp (
      c.name_words-n.ensures,
      bit_byte,
      c.from.ensures,
      c.from-2.ensures,
      c.given_word.ensures,
      c.given_word-2.ensures,
      c.given_word-3.ensures,
    )
