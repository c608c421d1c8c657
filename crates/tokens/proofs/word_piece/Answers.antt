use borrow.Author.Tests.{not-true, not-false}
use borrow.Author.Rules.{rules}
use borrow.Author.Tests.{not-true, not-false}
use native.Mathlib.Omega.{arith}
use mathlib.Core.Path.{sym, ◌∙◌}
use mathlib.Core.Bool.{true, false}
use lib.Seq.{length-take-le}
use Rattle.model.specs.Tokens.{word_kind}
use Rattle.tokens.proofs.Laws.{word_some, word_tidy, word_piece_lem}
use Rattle.tokens.proofs.word_piece.Goals as goal

pub overflow_sub-result : goal.overflow_sub-result
overflow_sub-result c =
    omega (arith, word_some c.args.rest.now c.requires.0 c.requires.1)

pub returns-then-not-w : goal.returns-then-not-w
unfolding word_kind
returns-then-not-w c =
    let w = c.word_of-w.ensures.end_value in
    let t = word_tidy c.args.rest.now _ false w.0 (sym (not-true _ c.if-not-w.true) ∙ w.1) in
    record {
      result_value = word_piece_lem c.args.rest.now c.word_of-w.result.end 1 c.requires.0 c.requires.1 w.0 (simp t);
      within = (search rules, omega (arith, word_some c.args.rest.now c.requires.0 c.requires.1));
    }

pub slice_bounds-word_kind-end : goal.slice_bounds-word_kind-end
slice_bounds-word_kind-end c =
    sym (length-take-le c.word_of-w.result.end c.args.rest.now (search rules))

pub word_kind-requires : goal.word_kind-requires
word_kind-requires c =
    let w = c.word_of-w.ensures.end_value in
    word_tidy c.args.rest.now _ true w.0 (sym (not-false _ c.if-not-w.false) ∙ w.1)

pub overflow_sub-result-2 : goal.overflow_sub-result-2
overflow_sub-result-2 c =
    omega (arith, word_some c.args.rest.now c.requires.0 c.requires.1)

pub returns : goal.returns
returns c =
    record {
      result_value = word_piece_lem c.args.rest.now c.word_of-w.result.end c.word_kind.result c.requires.0 c.requires.1
          c.word_of-w.ensures.end_value.0 c.word_kind.ensures.value;
      within = (c.word_kind.ensures.within, omega (arith, word_some c.args.rest.now c.requires.0 c.requires.1));
    }
