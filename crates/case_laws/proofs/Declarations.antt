-- VAR_INPUT, VAR_OUTPUT, FUZZIFY and DEFUZZIFY know no case.
use mathlib.Core.Path.{◌≡◌, refl, sym, ap, ◌∙◌, subst}
use mathlib.Core.Bool.{Bool, true, false, ◌||◌, not}
use mathlib.Core.List.{List, map}
use Prim.Native.Nat.{ℕ}
use lib.Dec.{leb, ltb}
use lib.IntN.{ℤ}
use lib.ListN.{length}
use lib.Signed.{lt_z}
use Rattle.model.specs.Basic.{capitals}
use Rattle.model.specs.Bounds.{input_limit, term_limit, point_least, point_limit}
use Rattle.model.specs.Keywords.{NUMBER, ASSIGN, DOTS, OPEN, CLOSE, COMMA, COLON, SEMICOLON, CoGS, DEFAULT, DEFUZZIFY, END_DEFUZZIFY, END_FUZZIFY, FUZZIFY, METHOD, NC, RANGE, TERM, REAL, INT}
use Rattle.model.specs.Tokens.{value_of, unit_of}
use Rattle.model.specs.Block.{Point, Output, Block, in_range, may_follow, with_singleton, with_range, with_default}
use Rattle.model.specs.Parse.{Parse, Part, text, is, refuse, advance, judged, expect, listed, a_unit, value_here}
use Rattle.model.specs.Declarations.{input_of, output_of, add_input, variable, input_count, input_type, input_declaration, output_declaration, add_point, point_position, point_degree, point_body, point, end_of_points, add_term, term_name, input_term, fuzzify_of, fuzzify_variable, fuzzify, change_output, lower_end, upper_end, range_body, range_part, figure, singleton_body, output_term, default_value, defuzzify_of, defuzzify_variable, defuzzify}
use Rattle.case_laws.proofs.Late.{Late, late_change, late_refuse, late_expect, fails, not_expected, not_kind}
use Rattle.model.specs.Case.{output_in_capitals, in_capitals}
use Rattle.case_laws.proofs.Blocks.{Commute, range_caps, term_count, singleton_count, no_terms, no_singletons, points_caps, input_count_lem, output_count_lem, input_of_lem, output_of_lem, is_input_lem, is_output_lem, is_term_lem, is_singleton_lem, output_commute, add_input_lem, add_output_lem, ints_from, add_term_lem, add_point_lem, add_singleton}
use Rattle.case_laws.proofs.Steps.{caps_parse, InCaps, NoCase, in_caps, ◌▹◌, instead, is_same, number_text, dots_text, name_text, text_case, advance_caps, changed, by_name, by_number, passed, check, judge, of_kind, a_name_lem, a_crisp_lem, a_unit_lem, either_caps, expect_caps, repeated_caps, listed_caps}

-- VARIABLES
variable_caps : (add : List ℕ → Block → Block) (count : Block → ℕ) (limit : ℕ) → ((w : List ℕ) → Commute (add (capitals w)) (add w))
    → ((b : Block) → count (in_capitals b) ≡ count b) → NoCase (variable add count limit)
unfolding variable
variable_caps add count limit h c r =
    let v = text (caps_parse r) in
    let e = text_case r in
    let b = r.block in
    judge (a_name_lem (λ n.
    check (λ j. not (is_input_lem v (text r) e b j || is_output_lem v (text r) e b j)) (λ o.
    check (ap (λ (m : ℕ). ltb m limit) (c b)) (λ l. passed (by_name add h r n)))))

input_type_caps : (n : ℕ) → NoCase (input_type n)
unfolding input_type
input_type_caps n r = either_caps INT r (changed _ _ (ints_from n) r) (expect_caps REAL r)

pub inputs_caps : NoCase input_declaration
unfolding input_declaration
inputs_caps r =
    instead (ap (λ (n : ℕ). expect SEMICOLON (input_type n (expect COLON (listed new (caps_parse r))))) (input_count_lem r.block))
    (in_caps r ▹ listed_caps new_caps ▹ expect_caps COLON ▹ input_type_caps (input_count r.block) ▹ expect_caps SEMICOLON)
  where
    new : Part
    new = variable add_input input_count input_limit

    new_caps : NoCase new
    new_caps = variable_caps add_input input_count input_limit add_input_lem input_count_lem

pub outputs_caps : NoCase output_declaration
unfolding output_declaration
outputs_caps r =
    in_caps r ▹ listed_caps (variable_caps _ _ _ add_output_lem output_count_lem) ▹ expect_caps COLON ▹ expect_caps REAL ▹ expect_caps SEMICOLON

-- FUZZIFY
position_caps : (i : ℕ) → NoCase (point_position i)
unfolding point_position
position_caps i r =
    judge (a_crisp_lem (λ e.
    check (λ j. may_follow (map (λ p. p.at) (points_caps i r.block j)) (value_of (number_text r e j))) (λ o. passed (advance_caps r))))

degree_caps : (i : ℕ) (x : ℤ) → NoCase (point_degree i x)
unfolding point_degree
degree_caps i x r =
    let f : List ℕ → Block → Block = λ w. add_point i (record { at = x; degree = unit_of w }) in
    judge (a_unit_lem (λ e. by_number f f (λ w. add_point_lem i _) r e))

position_late : (i : ℕ) (r : Parse) → is NUMBER r ≡ false → Late (point_position i r)
unfolding point_position
position_late i r e = subst Late (sym (fails _ _ _ r _ e)) (late_refuse 1 r)

degree_late : (i : ℕ) (x y : ℤ) (r : Parse) → Late r → point_degree i x r ≡ point_degree i y r
unfolding point_degree
degree_late i x y r z = ap (λ (q : Parse). judged (a_unit r) r (advance q)) (late_change _ _ r z)

point_body_caps : (i : ℕ) → NoCase (point_body i)
unfolding point_body
point_body_caps i r = go (is NUMBER r) refl
  where
    body : ℤ → Part
    body x q = expect CLOSE (point_degree i x (expect COMMA (point_position i q)))

    steps : InCaps (body (value_here r) (caps_parse r)) (body (value_here r) r)
    steps = in_caps r ▹ position_caps i ▹ expect_caps COMMA ▹ degree_caps i (value_here r) ▹ expect_caps CLOSE

    go : (b : Bool) → is NUMBER r ≡ b → InCaps (body (value_here (caps_parse r)) (caps_parse r)) (body (value_here r) r)
    go true e = instead (ap (λ (w : List ℕ). body (value_of w) (caps_parse r)) (number_text r e)) steps
    go false e =
        let z = late_expect COMMA _ (position_late i (caps_parse r) (is_same NUMBER r ∙ e)) in
        instead (ap (expect CLOSE) (degree_late i (value_here (caps_parse r)) (value_here r) _ z)) steps

point_caps : (i : ℕ) → NoCase (point i)
unfolding point
point_caps i r =
    judge (of_kind OPEN (λ o.
    check (ap (λ (ps : List Point). ltb (length ps) point_limit) (points_caps i r.block)) (λ l.
    passed (in_caps r ▹ advance_caps ▹ point_body_caps i))))

end_of_points_caps : (i : ℕ) → NoCase (end_of_points i)
unfolding end_of_points
end_of_points_caps i r =
    judge (of_kind SEMICOLON (λ o.
    check (ap (λ (ps : List Point). leb point_least (length ps)) (points_caps i r.block)) (λ l. passed (advance_caps r))))

term_name_caps : (i : ℕ) → NoCase (term_name i)
unfolding term_name
term_name_caps i r =
    judge (a_name_lem (λ n.
    check (ap not (is_term_lem (text (caps_parse r)) (text r) (text_case r) i r.block)) (λ o. passed (by_name (add_term i) (add_term_lem i) r n))))

input_term_caps : (i : ℕ) → NoCase (input_term i)
unfolding input_term
input_term_caps i r =
    judge (of_kind TERM (λ o.
    check (ap (λ (n : ℕ). ltb n term_limit) (term_count i r.block)) (λ l.
    passed (in_caps r ▹ advance_caps ▹ term_name_caps i ▹ expect_caps ASSIGN ▹ listed_caps (point_caps i) ▹ end_of_points_caps i))))

fuzzify_of_caps : (i : ℕ) → NoCase (fuzzify_of i)
unfolding fuzzify_of
fuzzify_of_caps i r =
    judge (a_name_lem (λ n.
    check (no_terms i r.block) (λ o.
    check (is_input_lem (text (caps_parse r)) (text r) (text_case r) r.block) (λ l.
    passed (in_caps r ▹ advance_caps ▹ input_term_caps i ▹ repeated_caps TERM (input_term_caps i) ▹ expect_caps END_FUZZIFY)))))

fuzzify_variable_caps : NoCase fuzzify_variable
unfolding fuzzify_variable
fuzzify_variable_caps r =
    instead (ap (λ (i : ℕ). fuzzify_of i (caps_parse r)) (input_of_lem (text (caps_parse r)) (text r) (text_case r) r.block))
    (fuzzify_of_caps (input_of (text r) r.block) r)

pub fuzzify_caps : NoCase fuzzify
unfolding fuzzify
fuzzify_caps r = in_caps r ▹ expect_caps FUZZIFY ▹ fuzzify_variable_caps

-- DEFUZZIFY
lower_end_caps : NoCase lower_end
unfolding lower_end
lower_end_caps r = judge (a_crisp_lem (λ e. passed (advance_caps r)))

upper_end_caps : (o : ℕ) (x : ℤ) → NoCase (upper_end o x)
unfolding upper_end
upper_end_caps o x r =
    judge (a_crisp_lem (λ e.
    check (ap (λ (w : List ℕ). lt_z x (value_of w)) (number_text r e)) (λ l.
    passed (by_number f f (λ w. output_commute (range w) (range w) (λ v. refl) o) r e))))
  where
    range : List ℕ → Output → Output
    range w = with_range (record { least = x; most = value_of w })

    f : List ℕ → Block → Block
    f w = change_output (range w) o

-- behind what is no number and no `..` there is no upper end
no_lower : (r : Parse) → is NUMBER r ≡ false → lower_end r ≡ refuse 2 r
unfolding lower_end
no_lower r e = fails _ _ _ r _ e

no_upper : (o : ℕ) (x y : ℤ) (r : Parse) → is NUMBER r ≡ false → upper_end o x r ≡ upper_end o y r
unfolding upper_end
no_upper o x y r e = fails _ _ _ r _ e ∙ sym (fails _ _ _ r _ e)

no_number : (r : Parse) → is NUMBER r ≡ false → is DOTS r ≡ false → is NUMBER (expect DOTS (lower_end r)) ≡ false
no_number r e d =
    ap (λ (q : Parse). is NUMBER (expect DOTS q)) (no_lower r e)
    ∙ ap (is NUMBER) (not_expected DOTS (refuse 2 r) (not_kind DOTS 2 r refl d))
    ∙ not_kind NUMBER 2 (refuse 2 r) refl (not_kind NUMBER 2 r refl e)

range_body_caps : (o : ℕ) → NoCase (range_body o)
unfolding range_body
range_body_caps o r = go (is NUMBER r) (is DOTS r) refl refl
  where
    body : ℤ → Part
    body x q = expect SEMICOLON (expect CLOSE (upper_end o x (expect DOTS (lower_end q))))

    steps : InCaps (body (value_here r) (caps_parse r)) (body (value_here r) r)
    steps = in_caps r ▹ lower_end_caps ▹ expect_caps DOTS ▹ upper_end_caps o (value_here r) ▹ expect_caps CLOSE ▹ expect_caps SEMICOLON

    go : (a b : Bool) → is NUMBER r ≡ a → is DOTS r ≡ b → InCaps (body (value_here (caps_parse r)) (caps_parse r)) (body (value_here r) r)
    go true b e d = instead (ap (λ (w : List ℕ). body (value_of w) (caps_parse r)) (number_text r e)) steps
    go false true e d = instead (ap (λ (w : List ℕ). body (value_of w) (caps_parse r)) (dots_text r d)) steps
    go false false e d =
        let z = no_number (caps_parse r) (is_same NUMBER r ∙ e) (is_same DOTS r ∙ d) in
        instead (ap (λ (q : Parse). expect SEMICOLON (expect CLOSE q)) (no_upper o (value_here (caps_parse r)) (value_here r) _ z)) steps

range_part_caps : (o : ℕ) → NoCase (range_part o)
unfolding range_part
range_part_caps o r = either_caps RANGE r (in_caps r ▹ advance_caps ▹ expect_caps OPEN ▹ range_body_caps o) (in_caps r)

figure_caps : (f g : ℤ → Output → Output) → ((x : ℤ) (v : Output) → f x (output_in_capitals v) ≡ output_in_capitals (g x v)) → (o : ℕ) (r : Parse)
    → InCaps (figure f o (caps_parse r)) (figure g o r)
unfolding figure
figure_caps f g h o r =
    judge (a_crisp_lem (λ e.
    check (λ j. in_range (range_caps o r.block j) (value_of (number_text r e j))) (λ l.
    passed (by_number (λ w. change_output (f (value_of w)) o) (λ w. change_output (g (value_of w)) o)
    (λ w. output_commute (f (value_of w)) (g (value_of w)) (h (value_of w)) o) r e))))

singleton_body_caps : (o : ℕ) → NoCase (singleton_body o)
unfolding singleton_body
singleton_body_caps o r =
    judge (a_name_lem (λ n.
    check (ap not (is_singleton_lem (text (caps_parse r)) (text r) (text_case r) o r.block)) (λ l.
    passed (instead (ap (λ (w : List ℕ). expect SEMICOLON (put w (expect ASSIGN (advance (caps_parse r))))) (name_text r n))
    (steps ▹ expect_caps SEMICOLON)))))
  where
    put : List ℕ → Part
    put w = figure (λ x. with_singleton (record { name = w; at = x })) o

    before : InCaps (expect ASSIGN (advance (caps_parse r))) (expect ASSIGN (advance r))
    before = in_caps r ▹ advance_caps ▹ expect_caps ASSIGN

    steps : InCaps (put (capitals (text r)) (expect ASSIGN (advance (caps_parse r)))) (put (text r) (expect ASSIGN (advance r)))
    steps = instead (ap (put (capitals (text r))) before.eq) (figure_caps _ _ (add_singleton (text r)) o (expect ASSIGN (advance r)))

output_term_caps : (o : ℕ) → NoCase (output_term o)
unfolding output_term
output_term_caps o r =
    judge (of_kind TERM (λ e.
    check (ap (λ (n : ℕ). ltb n term_limit) (singleton_count o r.block)) (λ l. passed (in_caps r ▹ advance_caps ▹ singleton_body_caps o))))

default_value_caps : (o : ℕ) → NoCase (default_value o)
unfolding default_value
default_value_caps o r = either_caps NC r (advance_caps r) (figure_caps with_default with_default (λ x v. refl) o r)

defuzzify_of_caps : (o : ℕ) → NoCase (defuzzify_of o)
unfolding defuzzify_of
defuzzify_of_caps o r =
    judge (a_name_lem (λ n.
    check (no_singletons o r.block) (λ e.
    check (is_output_lem (text (caps_parse r)) (text r) (text_case r) r.block) (λ l.
    passed
    (in_caps r ▹ advance_caps ▹ range_part_caps o ▹ output_term_caps o ▹ repeated_caps TERM (output_term_caps o)
    ▹ expect_caps METHOD ▹ expect_caps COLON ▹ expect_caps CoGS ▹ expect_caps SEMICOLON
    ▹ expect_caps DEFAULT ▹ expect_caps ASSIGN ▹ default_value_caps o ▹ expect_caps SEMICOLON ▹ expect_caps END_DEFUZZIFY)))))

defuzzify_variable_caps : NoCase defuzzify_variable
unfolding defuzzify_variable
defuzzify_variable_caps r =
    instead (ap (λ (o : ℕ). defuzzify_of o (caps_parse r)) (output_of_lem (text (caps_parse r)) (text r) (text_case r) r.block))
    (defuzzify_of_caps (output_of (text r) r.block) r)

pub defuzzify_caps : NoCase defuzzify
unfolding defuzzify
defuzzify_caps r = in_caps r ▹ expect_caps DEFUZZIFY ▹ defuzzify_variable_caps
