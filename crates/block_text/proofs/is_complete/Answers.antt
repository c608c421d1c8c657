use mathlib.Core.Path.{sym, ◌∙◌}
use Rattle.model.specs.Bounds.{input_limit}
use Rattle.symbol_table.specs.Symbols.{input_count, output_count}
use Rattle.block_text.specs.Block.{all_have_terms}
use Rattle.block_text.proofs.Laws.{along_range}
use Rattle.block_text.proofs.is_complete.Goals as goal

pub returns-then-have_terms : goal.returns-then-have_terms
unfolding all_have_terms
returns-then-have_terms c =
    let t = c.args.symbols.now in
    let e = sym (along_range t 0 (input_count t)) ∙ sym c.have_terms.ensures ∙ c.if-have_terms.true in
    simp e (c.have_terms-then-have_terms.ensures ∙ along_range t input_limit (output_count t))

pub returns-else-have_terms : goal.returns-else-have_terms
unfolding all_have_terms
returns-else-have_terms c =
    let t = c.args.symbols.now in
    let e = sym (along_range t 0 (input_count t)) ∙ sym c.have_terms.ensures ∙ c.if-have_terms.false in
    simp e c.if-have_terms.false
