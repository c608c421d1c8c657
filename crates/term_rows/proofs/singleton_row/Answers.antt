use Rattle.model.specs.Image.{name_words}
use Rattle.term_rows.specs.Rows.{singleton_words}
use Rattle.term_rows.proofs.singleton_row.Goals as goal

pub returns : goal.returns
unfolding singleton_words name_words
returns c = simp c.name_words-w.ensures
