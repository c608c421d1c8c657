-- A helper: the tables change as the block changes that they stand for. The contracts of the functions that read a part
-- tie each change to the model's own, as `add_input` or `with_range`.
use Rattle.std.specs.Prelude.{◌≡◌, true, List, ℕ, ◌≤◌, ◌<◌, length, get_or}
use Rattle.model.specs.Bounds.{input_limit}
use Rattle.model.specs.Block.{Block}
use Rattle.block_tables.specs.declared.Input.{Input}
use Rattle.block_tables.specs.declared.Tables.{Tables}
use Rattle.block_tables.specs.View.{no_input, block_view, Holds}

pub record Changes (s : List ℕ) (t r : Tables) (f : Block → Block) : Type 0 where
  pub view : block_view s r ≡ f (block_view s t)
  pub holds : Holds s r

-- the block's name from a to e
abbrev pub named : Tables → ℕ → ℕ → Tables
named t a e = record {
  start = a;
  end = e;
  input_count = t.input_count;
  output_count = t.output_count;
  inputs = t.inputs;
  outputs = t.outputs;
  input_terms = t.input_terms;
  output_terms = t.output_terms;
  names = t.names;
}

-- INT in place of a row's type
abbrev pub int_row : Input → Input
int_row v = record { start = v.start; end = v.end; int = true; terms = v.terms }

-- the rows from one on up to another are INT, the others as before
pub record Typed (old : List Input) (from to : ℕ) (new : List Input) : Type 0 where
  pub before : (i : ℕ) → i < from → get_or new i no_input ≡ get_or old i no_input
  pub within : (i : ℕ) → from ≤ i → i < to → get_or new i no_input ≡ int_row (get_or old i no_input)
  pub behind : (i : ℕ) → from ≤ i → to ≤ i → get_or new i no_input ≡ get_or old i no_input
  pub size : length new ≡ input_limit
