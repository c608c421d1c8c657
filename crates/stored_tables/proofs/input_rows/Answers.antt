use Rattle.std.proofs.Common.{rules, ◌∙◌, arith, ℕ}
use Rattle.model.specs.Image.{word_at, input_at, INPUT_TABLE, input_place}
use Rattle.layout.specs.Tables.{input_count, input_next, input_row, input_rows}
use Rattle.stored_rows.specs.Tests.{input_test}
use Rattle.stored_rows.proofs.RowTests.{input_row_lem, input_next_lem}
use Rattle.stored_tables.proofs.Loops.{up_to_rows, given, valued}
use Rattle.stored_tables.proofs.input_rows.Goals as goal

pub returns : goal.returns
unfolding input_rows
returns c =
    let w = word_at c.args.image.now.bytes.now in
    let test = λ (i n : ℕ). input_test w (input_place w i) n in
    let rows = c.end_of.ensures.value test (input_count w) (search rules) (search rules)
    ∙ up_to_rows input_row input_next (input_at w) w (w INPUT_TABLE) 7 test (input_count w) (input_row_lem w) (input_next_lem w)
    _ _ 0 0 _ (omega (arith, c.args.image.now.heads.inputs.rows)) (omega arith) in
    record { laid = given _ _ _ rows; counted = valued _ _ _ rows }
