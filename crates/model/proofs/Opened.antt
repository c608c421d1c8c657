-- Every definition of specs/, opened: an example whose line says `unfolding opened` is computed.
use Prim.Native.Nat.{ℕ}
use lib.Ieee
use Rattle.model.specs.Basic.{every, all, total, gather, run, distinct, update, update_last, tab}
use Rattle.model.specs.Outcome.{into}
use Rattle.model.specs.Keywords.{is_keyword}
use Rattle.model.specs.Tokens.{tidy, same_name, is_name, decimal_from, magnitude, value_of, is_crisp, is_unit, unit_of, is_rule_number, word_kind, number_part, comment_part, word_piece, piece_at, scan, tokens}
use Rattle.model.specs.Block.{input_first, output_first, size, terms_of, singletons_of, range_of, may_follow}
use Rattle.model.specs.Parse.{kind, text, here, refuse, advance, change, judged, expect, repeat_on, repeated, listed, own_name}
use Rattle.model.specs.Declarations.{input_of, output_of, term_of, singleton_of, add_input, add_output, int_from, variable, input_type, input_declaration, output_declaration, add_term, add_point, points_of, point_position, point_degree, point_body, point, end_of_points, term_name, input_term, fuzzify_of, fuzzify_variable, fuzzify, change_output, lower_end, upper_end, range_body, range_part, figure, singleton_body, output_term, default_value, defuzzify_of, defuzzify_variable, defuzzify}
use Rattle.model.specs.Rules.{word, condition_term, term_or_not, subcondition, chain_on, chain, plain, operand, condition_with, parenthesis, condition, add_rule, change_rule, algorithm, algorithm_line, algorithms, activation, activation_line, accumulation, rule_number, concluded_term, conclusion, weight, weighted, rule_given, rule_from, rule, rule_block}
use Rattle.model.specs.Reader.{parts_there, end_of_block, function_block, reads}
use Rattle.model.specs.Parentheses.{form, depth}
use Rattle.model.specs.WellFormed.{unit_ok, point_ok, in_order, term_ok, input_ok, singleton_ok, output_ok, terms_below, condition_ok, conclusion_ok, rule_ok, well_formed}
use Rattle.model.specs.Image.{bytes_of, word_at, crisp_of, name_words, postfix, input_table, output_table, term_table, rule_table, offsets, end_of, header, words, image, name_at, point_at, term_at, singleton_at, input_at, output_at, grown, trees, tree_of, conclusion_at, rule_at, decode, is_image_of, loads}
use Rattle.model.specs.Listing.{commaed, digits_on, digits, trimmed, thousandths_text, crisp_text, input_term_names, input_term_name, condition_text, term_line, fuzzify_text, singleton_line, defuzzify_text, conclusion_text, rule_line, rule_block_text, listing}
use Rattle.model.specs.Buffers.{reads_into, lists_into}
use Rattle.model.specs.Printed.{refused_line, printed}
use Rattle.model.specs.Degrees.{degree_from, term_degree, condition_degree}
use Rattle.model.specs.Readings.{real_of, taken, float_of}
use Rattle.model.specs.Evaluation.{term_degrees, rule_degree, accumulate_all, subconclusions, height, moment, output_answer, output_answers, fresh_of, held_ok, values_of, block_answers, evaluate_block, evaluate, fresh}
use Rattle.model.specs.Chunks.{text_of, any_finish, answer, state_after}

unfoldable pub opened : ℕ
unfolding every all total gather run distinct update update_last into is_keyword tidy same_name is_name decimal_from magnitude value_of is_crisp is_unit unit_of is_rule_number word_kind number_part comment_part word_piece piece_at scan tokens input_first output_first size terms_of singletons_of range_of may_follow kind text here refuse advance change judged expect repeat_on repeated listed own_name input_of output_of term_of singleton_of add_input add_output int_from variable input_type input_declaration output_declaration add_term add_point points_of point_position point_degree point_body point end_of_points term_name input_term fuzzify_of fuzzify_variable fuzzify change_output lower_end upper_end range_body range_part figure singleton_body output_term default_value defuzzify_of defuzzify_variable defuzzify word condition_term term_or_not subcondition chain_on chain plain operand condition_with parenthesis condition add_rule change_rule algorithm algorithm_line algorithms activation activation_line accumulation rule_number concluded_term conclusion weight weighted rule_given rule_from rule rule_block parts_there end_of_block function_block reads form depth unit_ok point_ok in_order term_ok input_ok singleton_ok output_ok terms_below condition_ok conclusion_ok rule_ok well_formed bytes_of word_at crisp_of name_words postfix input_table output_table term_table rule_table offsets end_of header words image tab name_at point_at term_at singleton_at input_at output_at grown trees tree_of conclusion_at rule_at decode is_image_of loads commaed digits_on digits trimmed thousandths_text crisp_text input_term_names input_term_name condition_text term_line fuzzify_text singleton_line defuzzify_text conclusion_text rule_line rule_block_text listing reads_into lists_into refused_line printed degree_from term_degree condition_degree real_of taken float_of term_degrees rule_degree accumulate_all subconclusions height moment output_answer output_answers fresh_of held_ok values_of block_answers evaluate_block evaluate fresh text_of any_finish answer state_after Ieee.span Ieee.climb Ieee.size Ieee.odd Ieee.units Ieee.round Ieee.div Ieee.of_int Ieee.of_fields Ieee.of_bits Ieee.nan_bits Ieee.to_bits
opened = 0
