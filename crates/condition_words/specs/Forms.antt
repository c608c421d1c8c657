-- A helper: the forms as model's Parentheses numbers them. `negated_is` and `operator_is` of
-- condition_stack/proofs/Accepted tie `negated` and `operator` to model's `negated_form` and `rank`.
use Rattle.std.specs.Prelude.{ℕ}
use Rattle.model.specs.Parentheses.{TERM_FORM, NOT_TERM_FORM, NOT_FORM, AND_FORM, OR_FORM}
use Rattle.model.specs.Block.{Op, and, or}
use Rattle.condition_words.specs.declared.Form.{Form}
use Rattle.condition_words.specs.declared.Form.TheVariants.{Term, NotTerm, Not, And, Or}

abbrev pub number : Form → ℕ
number Term = TERM_FORM
number NotTerm = NOT_TERM_FORM
number Not = NOT_FORM
number And = AND_FORM
number Or = OR_FORM

-- of a NOT in front
abbrev pub negated : Form → Form
negated Term = NotTerm
negated NotTerm = Not
negated Not = Not
negated And = Not
negated Or = Not

-- of an operator
abbrev pub operator : Op → Form
operator and = And
operator or = Or
