use borrow.Author.Rules.{rules}
use native.Mathlib.Omega.{arith}
use mathlib.Core.Path.{sym, ◌∙◌}
use Rattle.model.specs.Tokens.{piece_at}
use Rattle.tokens.proofs.first_piece.Goals as goal

pub returns-then-is_blank : goal.returns-then-is_blank
unfolding piece_at
returns-then-is_blank c =
    record {
      result_value = simp (sym c.is_blank.ensures ∙ c.if-is_blank.true);
      within = search rules;
    }

pub word_piece-requires : goal.word_piece-requires
word_piece-requires c = (search rules, sym c.starts_name.ensures ∙ c.if-starts_name.true)

pub returns-then-starts_name : goal.returns-then-starts_name
unfolding piece_at
returns-then-starts_name c =
    record {
      result_value = simp (sym c.is_blank.ensures ∙ c.if-is_blank.false, sym c.starts_name.ensures ∙ c.if-starts_name.true)
          c.word_piece.ensures.result_value;
      within = c.word_piece.ensures.within;
    }

pub returns-then-is_digit : goal.returns-then-is_digit
unfolding piece_at
returns-then-is_digit c =
    record {
      result_value = simp (
        sym c.is_blank.ensures ∙ c.if-is_blank.false,
        sym c.starts_name.ensures ∙ c.if-starts_name.false,
        sym c.is_digit.ensures
            ∙ c.if-is_digit.true,
        sym c.number_part.ensures.value,
      );
      within = (search rules, omega (arith, c.number_part.ensures.within));
    }

pub mark_piece-requires : goal.mark_piece-requires
mark_piece-requires c =
    record {
      rest_nonzero = c.requires;
      other = (
        sym c.is_blank.ensures ∙ c.if-is_blank.false,
        sym c.starts_name.ensures ∙ c.if-starts_name.false,
        sym c.is_digit.ensures ∙ c.if-is_digit.false,
      );
    }

pub returns : goal.returns
returns c = c.mark_piece.ensures
