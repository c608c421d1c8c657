use Rattle.keywords.proofs.Laws.{row_here}
use Rattle.keywords.proofs.keyword_row.Goals as goal

pub returns : goal.returns
returns c =
    let a = c.args in
    let p = c.requires in
    row_here a.h a.keyword a.start a.size p.h_value.0 p.h_value.1 p.place.0 p.place.1
