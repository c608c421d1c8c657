-- A helper: readings of what belongs to one output. `part_read` of proofs/Laws ties `part_text` to the model's
-- `defuzzify_variable`.
use Rattle.std.specs.Prelude.{None, MatchOption, ◌≡◌, not, List, [], ◌∷◌, ℕ, ◌+◌, ◌*◌, ◌≤◌, ◌<◌, length}
use Rattle.std.proofs.Math.Option.{Option}
use Rattle.model.specs.Basic.{◌▸◌, index_of, tab}
use Rattle.model.specs.Bounds.{input_limit, term_limit, variable_limit}
use Rattle.model.specs.Block.{Block, Range, in_range, singletons_of, with_singleton}
use Rattle.model.specs.Keywords.{ASSIGN, COLON, SEMICOLON, CoGS, DEFAULT, END_DEFUZZIFY, METHOD, TERM}
use Rattle.model.specs.Tokens.{same_name}
use Rattle.model.specs.Parse.{Parse, Part, Checks, text, expect, repeated, a_name, a_crisp, value_here}
use Rattle.model.specs.Declarations.{change_output, singleton_of, is_singleton, range_part, output_term, default_value}
use Rattle.lookup.specs.Names.{name_of}
use Rattle.cursor.specs.declared.Cursor.{Cursor}
use Rattle.cursor.specs.View.{Fits, left}
use Rattle.block_tables.specs.declared.Output.{Output as Row}
use Rattle.block_tables.specs.declared.Tables.{Tables}
use Rattle.block_tables.specs.View.{output_row, a_singleton, Holds}
use Rattle.block_tables.specs.Changes.{Changes}
use Rattle.parse_state.specs.declared.ParseState.{ParseState}
use Rattle.parse_state.specs.Reads.{Reads}
use Rattle.defuzzify_text.specs.declared.Outputs.{Outputs}
use Rattle.block_tables.specs.declared.Singleton.{Singleton}
use Rattle.defuzzify_text.specs.declared.SingletonRead.{SingletonRead}

-- the outputs p with their names, in the tables t
abbrev pub with_outputs : List ℕ → Outputs → Tables → ParseState
with_outputs names p t = record {
  cursor = p.cursor;
  tables = record {
    start = t.start;
    end = t.end;
    input_count = t.input_count;
    output_count = p.count;
    inputs = t.inputs;
    outputs = p.rows;
    input_terms = t.input_terms;
    output_terms = p.singletons;
    names = names;
  };
}

-- a number inside a RANGE
abbrev pub figure_checks : Option Range → Parse → Checks
figure_checks g r = a_crisp r ((in_range g (value_here r), 7) ∷ [])

-- a new term of output o
abbrev pub term_checks : ℕ → Parse → Checks
term_checks o r = a_name r ((not (is_singleton o (text r) r.block), 4) ∷ [])

-- output o of block b has n terms of these names
pub record HasSingletons (s names : List ℕ) (o n : ℕ) (b : Block) : Type 0 where
  pub count : length (singletons_of o b) ≡ n
  pub singleton : (w : List ℕ) → singleton_of o w b
      ≡ index_of (same_name w) (tab (name_of s names) n (variable_limit + (input_limit + o) * term_limit))

-- output o of the tables has the row v, and the names are these
pub record Knows (names : List ℕ) (o : ℕ) (v : Row) (t : Tables) : Type 0 where
  pub known : o < t.output_count
  pub names_are : t.names ≡ names
  pub row_is : output_row t o ≡ v

-- a term x more for output o with the row v, from c to d: any tables with the term in them stand behind it
pub record AddsOne (part : Part) (s names : List ℕ) (o : ℕ) (v : Row) (c d : Cursor) (x : Singleton) : Type 0 where
  pub reads : (t u : Tables) → Holds s t → Knows names o v t
      → Changes s t u (change_output (with_singleton (a_singleton s x)) o)
      → Reads part s (record { cursor = c; tables = t }) (record { cursor = d; tables = u })
  pub order : x.start ≤ x.end
  pub inside : x.end ≤ length s
  pub room : v.terms < term_limit

-- none, and reading is refused
pub record AddsNone (part : Part) (s names : List ℕ) (o : ℕ) (v : Row) (c d : Cursor) : Type 0 where
  pub reads : (t : Tables) → Holds s t → Knows names o v t
      → Reads part s (record { cursor = c; tables = t }) (record { cursor = d; tables = t })
  pub stops : d.refused ≡ None → ⊥

pub record Adds (part : Part) (s names : List ℕ) (o : ℕ) (v : Row) (c : Cursor) (r : SingletonRead) : Type 0 where
  pub term : MatchOption r.term (AddsNone part s names o v c r.cursor) (AddsOne part s names o v c r.cursor)
  pub fewer : left s r.cursor ≤ left s c
  pub fits : Fits s r.cursor

unfoldable pub method_text : Part
method_text r = r ▸ expect METHOD ▸ expect COLON ▸ expect CoGS ▸ expect SEMICOLON ▸ expect DEFAULT ▸ expect ASSIGN

-- from behind the name on
unfoldable pub part_text : ℕ → Part
part_text o r =
    r ▸ range_part o ▸ (λ q. repeated TERM (output_term o) (output_term o q)) ▸ method_text ▸ default_value o ▸
    expect SEMICOLON ▸ expect END_DEFUZZIFY
