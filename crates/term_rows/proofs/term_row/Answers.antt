use Rattle.model.specs.Image.{name_words}
use Rattle.term_rows.specs.Rows.{term_words}
use Rattle.term_rows.proofs.term_row.Goals as goal

pub returns : goal.returns
unfolding term_words name_words
returns c = simp c.name_words-w.ensures
