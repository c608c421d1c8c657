use borrow.Author.Rules.{rules}
use Rattle.stored_terms.proofs.Named.{input_term_within}
use Rattle.stored_terms.proofs.term_ok.Goals as goal

pub row-row-requires : goal.row-row-requires
row-row-requires c = let l = input_term_within c.args.image.now in search rules

pub overflow_add-row : goal.overflow_add-row
overflow_add-row c = let l = input_term_within c.args.image.now in search rules

pub word-points-requires : goal.word-points-requires
word-points-requires c = let l = input_term_within c.args.image.now in search rules

pub name_ok-requires : goal.name_ok-requires
name_ok-requires c = let l = input_term_within c.args.image.now in search rules

pub overflow_add-row-then-point_count_ok : goal.overflow_add-row-then-point_count_ok
overflow_add-row-then-point_count_ok c = let l = input_term_within c.args.image.now in search rules

pub word-requires : goal.word-requires
word-requires c = let l = input_term_within c.args.image.now in search rules
