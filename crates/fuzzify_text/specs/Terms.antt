-- A helper: the points of a term as they are read, and what they are checked for in numbers. A reading stands for any
-- block with these points in the last term of an input; `ReadsShape` ties it to a `Part` of the model, and `position_is` and
-- `points_end` of proofs/Laws tie the checks to the model's `point_position` and `end_of_points`.
use Rattle.std.specs.Prelude.{MatchOption, Option, None, Some, ◌≡◌, List, [], ◌∷◌, ◌++◌, map, ℕ, ◌+◌, ◌*◌, ◌≤◌, ◌<◌, leb, ℤ, length, replicate}
use Rattle.std.proofs.Math.Seq.{slice}
use Rattle.model.specs.Basic.{index_of, update, tab}
use Rattle.model.specs.Block as block
use Rattle.model.specs.Block.{Block, terms_of, with_inputs, with_terms}
use Rattle.model.specs.Bounds.{term_limit, point_least, point_limit, variable_limit}
use Rattle.model.specs.Keywords.{ASSIGN, SEMICOLON, TERM, END_FUZZIFY}
use Rattle.model.specs.Parse.{Parse, Part, is, advance, judged, expect, repeated, listed, a_crisp, value_here}
use Rattle.model.specs.Tokens.{same_name}
use Rattle.model.specs.Declarations.{term_of, point, end_of_points, input_term, fuzzify}
use Rattle.lookup.specs.Names.{name_of}
use Rattle.cursor.specs.declared.Cursor.{Cursor}
use Rattle.cursor.specs.View.{seen, Fits, left, Step, Moves}
use Rattle.block_tables.specs.declared.Input.{Input}
use Rattle.model.specs.declared.Point.{Point}
use Rattle.block_tables.specs.declared.Term.{Term}
use Rattle.block_tables.specs.declared.Tables.{Tables}
use Rattle.block_tables.specs.View.{no_point, point_at}
use Rattle.parse_state.specs.declared.ParseState.{ParseState}
use Rattle.parse_state.specs.Reads.{Good, Reads}
use Rattle.parse_state.specs.Beside.{Collects}
use Rattle.term_rules.specs.declared.LastTwo.{LastTwo}
use Rattle.term_rules.specs.Positions.{may_stand, Ends}
use Rattle.fuzzify_text.specs.declared.PointRead.{PointRead}
use Rattle.fuzzify_text.specs.declared.Shape.{Shape}
use Rattle.fuzzify_text.specs.declared.TermName.{TermName}
use Rattle.fuzzify_text.specs.declared.Inputs.{Inputs}
use Rattle.fuzzify_text.specs.declared.Found.{Found}

-- one term more for input i of a block
unfoldable pub with_term : ℕ → block.Term → Block → Block
with_term i x = with_inputs (update (with_terms (λ ts. ts ++ (x ∷ []))) i)

-- a position after n others, the end of n points
unfoldable pub position_after : ℕ → LastTwo → Part
position_after n last r = judged (a_crisp r ((may_stand n last (value_here r), 7) ∷ [])) r (advance r)

unfoldable pub end_after : ℕ → Part
end_after n r = judged ((is SEMICOLON r, 2) ∷ (leb point_least n, 7) ∷ []) r (advance r)

-- the inputs p with their names, in the tables t
abbrev pub inputs_in : List ℕ → Inputs → Tables → ParseState
inputs_in names p t = record {
  cursor = p.cursor;
  tables = record {
    start = t.start;
    end = t.end;
    input_count = p.count;
    output_count = t.output_count;
    inputs = p.rows;
    outputs = t.outputs;
    input_terms = p.terms;
    output_terms = t.output_terms;
    names = names;
  };
}

-- POINTS
-- the term that points are read for: of this name, behind the other terms of an input in a block
pub record Place : Type 0 where
  pub input : ℕ
  pub name : List ℕ
  pub block : Block
  pub known : input < length (block).inputs

abbrev pub block_with : Place → List block.Point → Block
block_with x ps = with_term x.input (record { name = x.name; points = ps }) x.block

-- with these points so far
unfoldable pub view_with : List ℕ → Place → List block.Point → Cursor → Parse
view_with s x ps c = seen s c (block_with x ps) 0

abbrev pub point_of : Point → block.Point
point_of q = record { at = q.at.0; degree = q.degree.0 }

-- with one that is read, or not
abbrev pub and_point : List block.Point → Option Point → List block.Point
and_point ps None = ps
and_point ps (Some q) = ps ++ (point_of q ∷ [])

abbrev pub points_with : List block.Point → PointRead → List block.Point
points_with ps r = and_point ps r.point

abbrev pub positions : List block.Point → List ℤ
positions ps = map (λ q. q.at) ps

pub record ReadsPoint (part : ℕ → Part) (n : ℕ) (last : LastTwo) (s : List ℕ) (c : Cursor) (r : PointRead) : Type 0 where
  pub reads : (x : Place) (ps : List block.Point) → Ends (positions ps) n last
      → view_with s x (points_with ps r) r.cursor ≡ part x.input (view_with s x ps c)
  pub fewer : left s r.cursor ≤ left s c
  pub fits : Fits s r.cursor
  pub stops : r.point ≡ None → r.cursor.refused ≡ None → ⊥

unfoldable pub points_read : Shape → List block.Point
points_read p = tab (point_at p.points) p.count 0

-- none yet
abbrev pub no_points : Cursor → Shape
no_points c = record { cursor = c; count = 0; points = replicate point_limit no_point }

abbrev pub view_at : List ℕ → Place → Shape → Parse
view_at s x p = view_with s x (points_read p) p.cursor

pub record Room (s : List ℕ) (p : Shape) : Type 0 where
  pub fits : Fits s p.cursor
  pub few : p.count ≤ point_limit
  pub size : length p.points ≡ point_limit

pub record ReadsShape (part : ℕ → Part) (s : List ℕ) (p r : Shape) : Type 0 where
  pub reads : (x : Place) → view_at s x r ≡ part x.input (view_at s x p)
  pub fewer : left s r.cursor ≤ left s p.cursor
  pub room : Room s r

-- what follows the name of a term
abbrev pub term_from : ℕ → Part
term_from i r = end_of_points i (listed (point i) (expect ASSIGN r))

-- A NAME
-- the n terms of input i in a block, with their names among these
pub record Terms (s names : List ℕ) (i n : ℕ) (b : Block) : Type 0 where
  pub input : i < length b.inputs
  pub count : length (terms_of i b) ≡ n
  pub found : (w : List ℕ) → term_of i w b ≡ index_of (same_name w) (tab (name_of s names) n (variable_limit + i * term_limit))

-- a term of input i is read up to its points, or refused
pub record Names (s : List ℕ) (i : ℕ) (b : Block) (c : Cursor) (r : TermName) : Type 0 where
  pub named : r.cursor.refused ≡ None → input_term i (seen s c b 0)
      ≡ term_from i (seen s r.cursor (with_term i (record { name = slice r.start r.end s; points = [] }) b) 0)
  pub lost : (r.cursor.refused ≡ None → ⊥) → seen s r.cursor b 0 ≡ input_term i (seen s c b 0)

pub record Named (s : List ℕ) (n : ℕ) (c : Cursor) (r : TermName) : Type 0 where
  pub fewer : left s r.cursor < left s c
  pub fits : Fits s r.cursor
  pub order : r.start ≤ r.end
  pub inside : r.end ≤ length s
  pub room : r.cursor.refused ≡ None → n < term_limit

-- A PART
-- n inputs with these rows and terms
abbrev pub inputs_of : Cursor → ℕ → List Input → List Term → Inputs
inputs_of c n rows ts = record { cursor = c; count = n; rows = rows; terms = ts }

-- a part is read up to the terms of input i, whatever those of the others, from c to d
pub record FindsOne (s names : List ℕ) (n : ℕ) (rows : List Input) (c d : Cursor) (i : ℕ) : Type 0 where
  pub reads : (ts : List Term) (t : Tables) → Good s (inputs_in names (inputs_of c n rows ts) t) → (p : ParseState) (e : Cursor)
      → Reads (λ q. repeated TERM (input_term i) (input_term i q)) s (inputs_in names (inputs_of d n rows ts) t) p
      → Step (expect END_FUZZIFY) s p.cursor e
      → Reads fuzzify s (inputs_in names (inputs_of c n rows ts) t) (record { cursor = e; tables = p.tables })
  pub known : i < n
  pub fewer : left s d < left s c

-- no input is found, and reading is refused
pub record FindsNone (s names : List ℕ) (n : ℕ) (rows : List Input) (c d : Cursor) : Type 0 where
  pub reads : (ts : List Term) → Collects fuzzify s (inputs_in names (inputs_of c n rows ts)) (inputs_in names (inputs_of d n rows ts))
  pub stops : d.refused ≡ None → ⊥

pub record Finds (s names : List ℕ) (n : ℕ) (rows : List Input) (c : Cursor) (r : Found) : Type 0 where
  pub input : MatchOption r.input (FindsNone s names n rows c r.cursor) (FindsOne s names n rows c r.cursor)
  pub moves : Moves s c r.cursor
  pub fits : Fits s r.cursor
