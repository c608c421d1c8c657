use Rattle.std.proofs.Common.{rules, refl, ◌∙◌, arith, ℕ}
use Rattle.model.specs.Image.{word_at, output_at, OUTPUT_TABLE, output_place}
use Rattle.layout.specs.Tables.{output_count, output_next, output_row}
use Rattle.stored_rows.specs.Tests.{output_test}
use Rattle.stored_rows.proofs.RowTests.{output_row_lem, output_next_lem}
use Rattle.stored_tables.proofs.Loops.{up_to_rows, given, valued}
use Rattle.stored_tables.proofs.output_rows.Goals as goal

pub returns : goal.returns
returns c =
    let w = word_at c.args.image.now.bytes.now in
    let heads = c.args.image.now.heads in
    let test = λ (i n : ℕ). output_test w (output_place w i) n in
    let rows = c.end_of.ensures.value test (output_count w) (search rules) (search rules)
    ∙ up_to_rows output_row output_next (output_at w) w (w OUTPUT_TABLE) 11 test (output_count w) (output_row_lem w heads.fits) (output_next_lem w)
    _ _ 0 c.args.first _ (omega (arith, heads.outputs.rows)) refl in
    record { laid = given _ _ _ rows; counted = valued _ _ _ rows }
