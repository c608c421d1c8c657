use Rattle.model.specs.Image.{name_words}
use Rattle.variable_rows.specs.Rows.{input_words}
use Rattle.variable_rows.proofs.Views.{bit_byte}
use Rattle.variable_rows.proofs.input_row.Goals as goal

pub returns : goal.returns
unfolding input_words name_words
returns c = simp (c.name_words-n.ensures, c.from.ensures, bit_byte)
