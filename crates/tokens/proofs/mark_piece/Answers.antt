use borrow.Author.Rules.{rules}
use native.Mathlib.Omega.{arith}
use mathlib.Core.Path.{sym, ◌∙◌}
use lib.Seq.{drop-drop}
use Rattle.model.specs.Tokens.{piece_at}
use Rattle.tokens.proofs.Laws.{mark_some}
use Rattle.tokens.proofs.mark_piece.Goals as goal

pub returns-then-is_signed : goal.returns-then-is_signed
unfolding piece_at
returns-then-is_signed c =
    record {
      result_value = simp (
        c.requires.other.0,
        c.requires.other.1,
        c.requires.other.2,
        sym c.is_signed.ensures ∙ c.if-is_signed.true,
        sym c.number_part.ensures.value,
      );
      within = (search rules, omega (arith, c.number_part.ensures.within));
    }

pub comment_piece-requires : goal.comment_piece-requires
comment_piece-requires c =
    let h = c.is_pair.ensures.within c.if-is_pair.true in
    omega arith

pub returns-then-is_pair : goal.returns-then-is_pair
unfolding piece_at
returns-then-is_pair c =
    record {
      result_value = simp (
        c.requires.other.0,
        c.requires.other.1,
        c.requires.other.2,
        sym c.is_signed.ensures ∙ c.if-is_signed.false,
        sym c.is_pair.ensures.value
            ∙ c.if-is_pair.true,
        drop-drop,
      ) c.comment_piece.ensures.result_value;
      within = c.comment_piece.ensures.within;
    }

pub returns-then-is_pair-2 : goal.returns-then-is_pair-2
unfolding piece_at
returns-then-is_pair-2 c =
    let h = c.is_pair-2.ensures.within c.if-is_pair-2.true in
    record {
      result_value = simp (
        c.requires.other.0,
        c.requires.other.1,
        c.requires.other.2,
        sym c.is_signed.ensures ∙ c.if-is_signed.false,
        sym c.is_pair.ensures.value
            ∙ c.if-is_pair.false,
        sym c.is_pair-2.ensures.value ∙ c.if-is_pair-2.true,
      );
      within = (search rules, omega arith);
    }

pub returns-then-is_pair-3 : goal.returns-then-is_pair-3
unfolding piece_at
returns-then-is_pair-3 c =
    let h = c.is_pair-3.ensures.within c.if-is_pair-3.true in
    record {
      result_value = simp (
        c.requires.other.0,
        c.requires.other.1,
        c.requires.other.2,
        sym c.is_signed.ensures ∙ c.if-is_signed.false,
        sym c.is_pair.ensures.value
            ∙ c.if-is_pair.false,
        sym c.is_pair-2.ensures.value ∙ c.if-is_pair-2.false,
        sym c.is_pair-3.ensures.value ∙ c.if-is_pair-3.true,
      );
      within = (search rules, omega arith);
    }

pub returns-then-is_mark : goal.returns-then-is_mark
unfolding piece_at
returns-then-is_mark c =
    record {
      result_value = simp (
        c.requires.other.0,
        c.requires.other.1,
        c.requires.other.2,
        sym c.is_signed.ensures ∙ c.if-is_signed.false,
        sym c.is_pair.ensures.value
            ∙ c.if-is_pair.false,
        sym c.is_pair-2.ensures.value ∙ c.if-is_pair-2.false,
        sym c.is_pair-3.ensures.value ∙ c.if-is_pair-3.false,
        sym c.is_mark.ensures ∙ c.if-is_mark.true,
      );
      within = (mark_some _ (sym c.is_mark.ensures ∙ c.if-is_mark.true), c.requires.rest_nonzero);
    }

pub returns : goal.returns
unfolding piece_at
returns c =
    record {
      result_value = simp (
        c.requires.other.0,
        c.requires.other.1,
        c.requires.other.2,
        sym c.is_signed.ensures ∙ c.if-is_signed.false,
        sym c.is_pair.ensures.value
            ∙ c.if-is_pair.false,
        sym c.is_pair-2.ensures.value ∙ c.if-is_pair-2.false,
        sym c.is_pair-3.ensures.value ∙ c.if-is_pair-3.false,
        sym c.is_mark.ensures ∙ c.if-is_mark.false,
      );
      within = (search rules, c.requires.rest_nonzero);
    }
