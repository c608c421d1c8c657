use Rattle.std.proofs.Common.{rules, ◌∙◌, arith, ℕ}
use Rattle.model.specs.Image.{word_at, term_at, TERM_TABLE, term_place}
use Rattle.layout.specs.Tables.{term_count, term_next, term_row}
use Rattle.stored_rows.specs.Tests.{term_test}
use Rattle.stored_rows.proofs.RowTests.{term_row_lem}
use Rattle.layout.proofs.Whole.{term_next_lem}
use Rattle.stored_tables.proofs.Loops.{up_to_rows, given, valued}
use Rattle.stored_tables.proofs.term_rows.Goals as goal

pub returns : goal.returns
returns c =
    let w = word_at c.args.image.now.bytes.now in
    let test = λ (i n : ℕ). term_test w (term_place w i) n in
    let rows = c.end_of.ensures.value test (term_count w) (search rules) (search rules)
    ∙ up_to_rows term_row term_next (term_at w) w (w TERM_TABLE) 6 test (term_count w) (term_row_lem w) (term_next_lem w)
    _ _ 0 0 _ (omega arith) (omega arith) in
    record { laid = given _ _ _ rows; counted = valued _ _ _ rows; small = c.end_of.ensures.small }
