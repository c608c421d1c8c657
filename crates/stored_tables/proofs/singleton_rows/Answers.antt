use Rattle.std.proofs.Common.{rules, refl, ◌∙◌, arith, ℕ}
use Rattle.model.specs.Image.{word_at, TERM_TABLE, term_place}
use Rattle.layout.specs.Tables.{output_term_at, term_next, term_row}
use Rattle.stored_rows.specs.Tests.{singleton_test}
use Rattle.stored_rows.proofs.RowTests.{output_term_row}
use Rattle.stored_tables.proofs.Loops.{up_to_rows, given}
use Rattle.stored_tables.proofs.singleton_rows.Goals as goal

pub returns : goal.returns
returns c =
    let w = word_at c.args.image.now.bytes.now in
    let test = λ (i n : ℕ). singleton_test w (term_place w i) n in
    let rows = c.end_of.ensures.value test (λ i. 1) (search rules) (search rules)
    ∙ up_to_rows term_row term_next (output_term_at w) w (w TERM_TABLE) 6 test (λ i. 1) (output_term_row w) (λ i n. refl)
    _ c.args.n c.args.s c.args.q _ (omega arith) refl in
    c.is_some.ensures ∙ given _ _ _ rows
