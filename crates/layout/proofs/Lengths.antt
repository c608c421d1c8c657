-- How long the header and the tables of a block are.
use mathlib.Core.Path.{◌≡◌, refl, ap, ◌∙◌}
use Prim.Native.Nat.{◌*◌}
use lib.ListN.{length}
use Rattle.model.specs.Basic.{gather}
use Rattle.model.specs.Block.{Block}
use Rattle.model.specs.Image.{name_words, terms, points, input_table, output_table, term_table, point_words, rule_table, offsets, header, term_at, input_at, output_at, rule_at}
use Rattle.laws.proofs.Lists.{length_rows}
use Rattle.layout.specs.Tables.{input_row, input_next, output_row, output_next, term_row, term_next, rule_row, rule_next}
use Rattle.layout.proofs.RowLaws.{length_laid}
use Rattle.layout.proofs.TableLaws.{input_table_lem, output_table_lem, term_table_lem, rule_table_lem}
use Rattle.layout.proofs.Parts.{wide_input, wide_output, wide_term}

module _ (b : Block) where
  pub header_long : length (header b) ≡ 28
  unfolding header offsets name_words
  header_long = refl

  pub inputs_long : length (input_table 0 b.inputs) ≡ length b.inputs * 7
  inputs_long = ap length (input_table_lem 0 b.inputs) ∙ length_laid input_row input_next (input_at (λ k. k)) (λ k. k) 0 7 wide_input 0 b.inputs

  pub outputs_long : length (output_table b 0 b.outputs) ≡ length b.outputs * 11
  outputs_long = ap length (output_table_lem b) ∙ length_laid output_row output_next (output_at (λ k. k)) (λ k. k) 0 11 wide_output _ b.outputs

  pub terms_long : length (term_table 0 (terms b)) ≡ length (terms b) * 6
  terms_long = ap length (term_table_lem 0 (terms b)) ∙ length_laid term_row term_next (term_at (λ k. k)) (λ k. k) 0 6 wide_term 0 (terms b)

  pub points_long : length (gather point_words (points b)) ≡ length (points b) * 2
  points_long = length_rows point_words 2 (λ p. refl) (points b)

  pub rules_long : length (rule_table 0 0 b.rules) ≡ length b.rules * 6
  rules_long = ap length (rule_table_lem 0 0 b.rules) ∙ length_laid rule_row rule_next (rule_at (λ k. k)) (λ k. k) 0 6 (λ σ r. refl) (0, 0) b.rules
