-- The bounds of document 01, its two units, and the lengths that follow from the bounds.
use Rattle.std.specs.Prelude.{ℕ, ◌+◌, ◌*◌}

-- crisp values lie between minus this and this, in thousandths
abbrev pub crisp_limit : ℕ
crisp_limit = 1000000000

-- the degree 1, in millionths
abbrev pub M : ℕ
M = 1000000

abbrev pub text_limit : ℕ
text_limit = 65536

abbrev pub name_limit : ℕ
name_limit = 16

-- digits of a number, and those after its point
abbrev pub digit_limit : ℕ
digit_limit = 7

abbrev pub fraction_limit : ℕ
fraction_limit = 3

abbrev pub input_limit : ℕ
input_limit = 8

abbrev pub output_limit : ℕ
output_limit = 6

-- terms of one variable
abbrev pub term_limit : ℕ
term_limit = 7

-- points of one term
abbrev pub point_least : ℕ
point_least = 2

abbrev pub point_limit : ℕ
point_limit = 4

abbrev pub rule_limit : ℕ
rule_limit = 64

abbrev pub word_limit : ℕ
word_limit = 640

abbrev pub conclusion_limit : ℕ
conclusion_limit = 128

abbrev pub rule_number_least : ℕ
rule_number_least = 1

abbrev pub rule_number_limit : ℕ
rule_number_limit = 65535

-- parentheses open at once
abbrev pub depth_limit : ℕ
depth_limit = 8

-- WHAT FOLLOWS
abbrev pub variable_limit : ℕ
variable_limit = input_limit + output_limit

-- terms of all inputs, of all outputs, of all variables
abbrev pub input_term_limit : ℕ
input_term_limit = input_limit * term_limit

abbrev pub output_term_limit : ℕ
output_term_limit = output_limit * term_limit

abbrev pub all_term_limit : ℕ
all_term_limit = input_term_limit + output_term_limit

-- names that are declared: those of variables and of their terms
abbrev pub symbol_limit : ℕ
symbol_limit = variable_limit + all_term_limit

-- bytes of the longest image and of the longest listing
abbrev pub image_limit : ℕ
image_limit = 10200

abbrev pub listing_limit : ℕ
listing_limit = 31421
