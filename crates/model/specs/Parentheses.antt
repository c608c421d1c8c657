-- Which parentheses a condition needs: its forms in one order, from tight to loose, and which of them stand bare where.
use Rattle.std.specs.Prelude.{ℕ, suc, max, ltb, eqb, if◌then◌else◌}
use Rattle.model.specs.Block.{Op, and, or, Condition, term, neg, two}

-- THE FORMS: `x IS t`, `x IS NOT t`, a NOT in front, AND, OR
abbrev pub TERM_FORM : ℕ
TERM_FORM = 0

abbrev pub NOT_TERM_FORM : ℕ
NOT_TERM_FORM = 1

abbrev pub NOT_FORM : ℕ
NOT_FORM = 2

abbrev pub AND_FORM : ℕ
AND_FORM = 3

abbrev pub OR_FORM : ℕ
OR_FORM = 4

abbrev pub rank : Op → ℕ
rank and = AND_FORM
rank or = OR_FORM

abbrev pub negated_form : ℕ → ℕ
negated_form k = if eqb k TERM_FORM then NOT_TERM_FORM else NOT_FORM

unfoldable pub form : Condition → ℕ
form (term t) = TERM_FORM
form (neg c) = negated_form (form c)
form (two o a b) = rank o

-- THE TABLE: the loosest form that stands without parentheses at each place; equal operators group to the left
abbrev pub bare_behind_not : ℕ
bare_behind_not = NOT_TERM_FORM

abbrev pub bare_left : Op → ℕ
bare_left and = AND_FORM
bare_left or = OR_FORM

abbrev pub bare_right : Op → ℕ
bare_right and = NOT_FORM
bare_right or = AND_FORM

-- parentheses open at once, where forms up to l stand bare
abbrev pub opened : ℕ → ℕ → ℕ → ℕ
opened l k d = if ltb l k then suc d else d

unfoldable pub depth : Condition → ℕ
depth (term t) = 0
depth (neg c) = opened bare_behind_not (form c) (depth c)
depth (two o a b) = max (opened (bare_left o) (form a) (depth a)) (opened (bare_right o) (form b) (depth b))
