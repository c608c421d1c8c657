-- The reader's rules for VAR_INPUT, VAR_OUTPUT, FUZZIFY and DEFUZZIFY.
use Rattle.std.specs.Prelude.{Bool, ◌||◌, not, List, [], ◌∷◌, ◌++◌, map, ℕ, leb, ltb, ℤ, length, take, drop, if◌then◌else◌}
use Rattle.std.proofs.Math.Option.{none}
use Rattle.std.specs.Int.Signed.{lt_z}
use Rattle.model.specs.Basic.{◌▸◌, is_empty, index_of, update, update_last}
use Rattle.model.specs.Bounds.{input_limit, output_limit, term_limit, point_least, point_limit}
use Rattle.model.specs.Keywords.{ASSIGN, DOTS, OPEN, CLOSE, COMMA, COLON, SEMICOLON, CoGS, DEFAULT, DEFUZZIFY, END_DEFUZZIFY, END_FUZZIFY, FUZZIFY, METHOD, NC, RANGE, TERM, REAL, INT}
use Rattle.model.specs.Tokens.{same_name, unit_of}
use Rattle.model.specs.Block.{Point, Term, Output, Block, terms_of, singletons_of, range_of, in_range, may_follow, real, with_inputs, with_outputs, as_int, with_terms, with_point, with_singleton, with_range, with_default}
use Rattle.model.specs.Parse.{Part, text, is, advance, change, judged, expect, repeated, listed, a_name, a_crisp, a_unit, value_here}

-- NAMES AS DECLARED
unfoldable pub input_of : List ℕ → Block → ℕ
input_of w b = index_of (λ v. same_name w v.name) b.inputs

unfoldable pub output_of : List ℕ → Block → ℕ
output_of w b = index_of (λ v. same_name w v.name) b.outputs

abbrev pub is_input : List ℕ → Block → Bool
is_input w b = ltb (input_of w b) (length b.inputs)

abbrev pub is_output : List ℕ → Block → Bool
is_output w b = ltb (output_of w b) (length b.outputs)

-- the term of input i, of output o, with this name
unfoldable pub term_of : ℕ → List ℕ → Block → ℕ
term_of i w b = index_of (λ t. same_name w t.name) (terms_of i b)

unfoldable pub singleton_of : ℕ → List ℕ → Block → ℕ
singleton_of o w b = index_of (λ t. same_name w t.name) (singletons_of o b)

abbrev pub is_term : ℕ → List ℕ → Block → Bool
is_term i w b = ltb (term_of i w b) (length (terms_of i b))

abbrev pub is_singleton : ℕ → List ℕ → Block → Bool
is_singleton o w b = ltb (singleton_of o w b) (length (singletons_of o b))

-- VAR_INPUT AND VAR_OUTPUT
unfoldable pub add_input : List ℕ → Block → Block
add_input w = with_inputs (λ vs. vs ++ (record { name = w; type = real; terms = [] } ∷ []))

unfoldable pub add_output : List ℕ → Block → Block
add_output w = with_outputs (λ vs. vs ++ (record { name = w; terms = []; range = none; default = none } ∷ []))

-- INT for the inputs from the n-th on
unfoldable pub int_from : ℕ → Block → Block
int_from n = with_inputs (λ vs. take n vs ++ map as_int (drop n vs))

-- a new variable, where there are fewer than the limit
unfoldable pub variable : (List ℕ → Block → Block) → (Block → ℕ) → ℕ → Part
variable add count limit r =
    judged
    (a_name r
    ((not (is_input (text r) r.block || is_output (text r) r.block), 4) ∷ (ltb (count r.block) limit, 6) ∷ []))
    r (advance (change (add (text r)) r))

abbrev pub input_count : Block → ℕ
input_count b = length b.inputs

abbrev pub output_count : Block → ℕ
output_count b = length b.outputs

-- the type of the inputs from the n-th on
unfoldable pub input_type : ℕ → Part
input_type n r = if is INT r then advance (change (int_from n) r) else expect REAL r

unfoldable pub input_declaration : Part
input_declaration r =
    let n : ℕ = input_count r.block in
    r ▸ listed (variable add_input input_count input_limit)
    ▸ expect COLON ▸ input_type n ▸ expect SEMICOLON

unfoldable pub output_declaration : Part
output_declaration r =
    r ▸ listed (variable add_output output_count output_limit) ▸ expect COLON ▸ expect REAL ▸ expect SEMICOLON

-- FUZZIFY
unfoldable pub add_term : ℕ → List ℕ → Block → Block
add_term i w = with_inputs (update (with_terms (λ ts. ts ++ (record { name = w; points = [] } ∷ []))) i)

-- to the last term of input i
unfoldable pub add_point : ℕ → Point → Block → Block
add_point i p = with_inputs (update (with_terms (update_last (with_point p))) i)

abbrev pub last_points : List Term → List Point
last_points [] = []
last_points (t ∷ []) = t.points
last_points (t ∷ u ∷ ts) = last_points (u ∷ ts)

-- the points so far of the last term of input i
unfoldable pub points_of : ℕ → Block → List Point
points_of i b = last_points (terms_of i b)

unfoldable pub point_position : ℕ → Part
point_position i r =
    judged (a_crisp r ((may_follow (map (λ p. p.at) (points_of i r.block)) (value_here r), 7) ∷ [])) r (advance r)

unfoldable pub point_degree : ℕ → ℤ → Part
point_degree i x r =
    judged (a_unit r) r (advance (change (add_point i (record { at = x; degree = unit_of (text r) })) r))

unfoldable pub point_body : ℕ → Part
point_body i r =
    let x : ℤ = value_here r in
    r ▸ point_position i ▸ expect COMMA ▸ point_degree i x ▸ expect CLOSE

unfoldable pub point : ℕ → Part
point i r =
    judged ((is OPEN r, 2) ∷ (ltb (length (points_of i r.block)) point_limit, 6) ∷ []) r (point_body i (advance r))

unfoldable pub end_of_points : ℕ → Part
end_of_points i r =
    judged ((is SEMICOLON r, 2) ∷ (leb point_least (length (points_of i r.block)), 7) ∷ []) r (advance r)

unfoldable pub term_name : ℕ → Part
term_name i r =
    judged (a_name r ((not (is_term i (text r) r.block), 4) ∷ [])) r (advance (change (add_term i (text r)) r))

unfoldable pub input_term : ℕ → Part
input_term i r =
    judged ((is TERM r, 2) ∷ (ltb (length (terms_of i r.block)) term_limit, 6) ∷ [])
    r (advance r ▸ term_name i ▸ expect ASSIGN ▸ listed (point i) ▸ end_of_points i)

unfoldable pub fuzzify_of : ℕ → Part
fuzzify_of i r =
    judged (a_name r ((is_empty (terms_of i r.block), 4) ∷ (is_input (text r) r.block, 5) ∷ []))
    r (advance r ▸ input_term i ▸ repeated TERM (input_term i) ▸ expect END_FUZZIFY)

unfoldable pub fuzzify_variable : Part
fuzzify_variable r = fuzzify_of (input_of (text r) r.block) r

unfoldable pub fuzzify : Part
fuzzify r = r ▸ expect FUZZIFY ▸ fuzzify_variable

-- DEFUZZIFY
unfoldable pub change_output : (Output → Output) → ℕ → Block → Block
change_output f o = with_outputs (update f o)

unfoldable pub lower_end : Part
lower_end r = judged (a_crisp r []) r (advance r)

unfoldable pub upper_end : ℕ → ℤ → Part
upper_end o x r =
    judged (a_crisp r ((lt_z x (value_here r), 7) ∷ []))
    r (advance (change (change_output (with_range (record { least = x; most = value_here r })) o) r))

unfoldable pub range_body : ℕ → Part
range_body o r =
    let least : ℤ = value_here r in
    r ▸ lower_end ▸ expect DOTS ▸ upper_end o least ▸ expect CLOSE ▸ expect SEMICOLON

unfoldable pub range_part : ℕ → Part
range_part o r = if is RANGE r then range_body o (r ▸ advance ▸ expect OPEN) else r

-- a number inside the RANGE of output o, and what it changes
unfoldable pub figure : (ℤ → Output → Output) → ℕ → Part
figure with o r =
    judged (a_crisp r ((in_range (range_of o r.block) (value_here r), 7) ∷ []))
    r (advance (change (change_output (with (value_here r)) o) r))

unfoldable pub singleton_body : ℕ → Part
singleton_body o r =
    let w : List ℕ = text r in
    judged (a_name r ((not (is_singleton o w r.block), 4) ∷ []))
    r (advance r ▸ expect ASSIGN ▸ figure (λ x. with_singleton (record { name = w; at = x })) o ▸ expect SEMICOLON)

unfoldable pub output_term : ℕ → Part
output_term o r =
    judged ((is TERM r, 2) ∷ (ltb (length (singletons_of o r.block)) term_limit, 6) ∷ [])
    r (singleton_body o (advance r))

unfoldable pub default_value : ℕ → Part
default_value o r = if is NC r then advance r else figure with_default o r

unfoldable pub defuzzify_of : ℕ → Part
defuzzify_of o r =
    judged (a_name r ((is_empty (singletons_of o r.block), 4) ∷ (is_output (text r) r.block, 5) ∷ []))
    r
    (advance r ▸ range_part o ▸ output_term o ▸ repeated TERM (output_term o)
    ▸ expect METHOD ▸ expect COLON ▸ expect CoGS ▸ expect SEMICOLON
    ▸ expect DEFAULT ▸ expect ASSIGN ▸ default_value o ▸ expect SEMICOLON ▸ expect END_DEFUZZIFY)

unfoldable pub defuzzify_variable : Part
defuzzify_variable r = defuzzify_of (output_of (text r) r.block) r

unfoldable pub defuzzify : Part
defuzzify r = r ▸ expect DEFUZZIFY ▸ defuzzify_variable
