-- A helper: the block that the tables stand for, a `Block` of the model. `Reads` of parse_state ties it to the model's
-- rules, the contract of `image::store` to its `image`.
use Rattle.std.specs.Prelude.{◌≡◌, false, List, [], ℕ, ◌+◌, ◌*◌, ◌≤◌, ◌<◌, ℤ, pos, length, get_or, if◌then◌else◌}
use Rattle.std.proofs.Math.Option.{Option, none, some}
use Rattle.std.proofs.Math.Seq.{slice}
use Rattle.model.specs.Basic.{tab}
use Rattle.model.specs.Bounds.{input_limit, output_limit, term_limit, point_limit, variable_limit, input_term_limit, output_term_limit, symbol_limit}
use Rattle.model.specs.Block as block
use Rattle.model.specs.Block.{Block, Range, Rule}
use Rattle.model.specs.declared.InputType.TheVariants.{Real as real, Int as int}
use Rattle.model.specs.declared.Pair.TheVariants.{MinMax as min-max}
use Rattle.model.specs.declared.Activation.TheVariants.{Min as by-min}
use Rattle.model.specs.declared.Accumulation.TheVariants.{Max as by-max}
use Rattle.model.specs.declared.Crisp.{Crisp}
use Rattle.lookup.specs.Names.{Placed}
use Rattle.block_tables.specs.declared.Input.{Input}
use Rattle.block_tables.specs.declared.Output.{Output}
use Rattle.model.specs.declared.Point.{Point}
use Rattle.block_tables.specs.declared.Term.{Term}
use Rattle.block_tables.specs.declared.Singleton.{Singleton}
use Rattle.block_tables.specs.declared.Tables.{Tables}
use Rattle.block_tables.specs.declared.Heading.{Heading}

-- what stands past the end of a table
abbrev pub zero_crisp : Crisp
zero_crisp = record { 0 = pos 0 }

abbrev pub no_input : Input
no_input = record { start = 0; end = 0; int = false; terms = 0 }

abbrev pub no_output : Output
no_output = record {
  start = 0;
  end = 0;
  terms = 0;
  ranged = false;
  least = zero_crisp;
  most = zero_crisp;
  numbered = false;
  default = zero_crisp;
}

abbrev pub no_point : Point
no_point = record { at = zero_crisp; degree = record { 0 = 0 } }

abbrev pub no_term : Term
no_term = record { start = 0; end = 0; count = 0; points = [] }

abbrev pub no_singleton : Singleton
no_singleton = record { start = 0; end = 0; at = zero_crisp }

abbrev pub input_row : Tables → ℕ → Input
input_row t i = get_or t.inputs i no_input

abbrev pub output_row : Tables → ℕ → Output
output_row t o = get_or t.outputs o no_output

abbrev pub term_row : Tables → ℕ → Term
term_row t k = get_or t.input_terms k no_term

abbrev pub singleton_row : Tables → ℕ → Singleton
singleton_row t k = get_or t.output_terms k no_singleton

-- the k-th of some points
unfoldable pub point_at : List Point → ℕ → block.Point
point_at ps k = record { at = (get_or ps k no_point).at.0; degree = (get_or ps k no_point).degree.0 }

abbrev pub a_term : List ℕ → Term → block.Term
a_term s v = record { name = slice v.start v.end s; points = tab (point_at v.points) v.count 0 }

-- the term j of input i
unfoldable pub term_view : List ℕ → Tables → ℕ → ℕ → block.Term
term_view s t i j = a_term s (term_row t (i * term_limit + j))

unfoldable pub input_view : List ℕ → Tables → ℕ → block.Input
input_view s t i = record {
  name = slice (input_row t i).start (input_row t i).end s;
  type = if (input_row t i).int then int else real;
  terms = tab (term_view s t i) (input_row t i).terms 0;
}

abbrev pub a_singleton : List ℕ → Singleton → block.Singleton
a_singleton s v = record { name = slice v.start v.end s; at = v.at.0 }

-- the term j of output o
unfoldable pub singleton_view : List ℕ → Tables → ℕ → ℕ → block.Singleton
singleton_view s t o j = a_singleton s (singleton_row t (o * term_limit + j))

abbrev pub range_view : Output → Option Range
range_view v = if v.ranged then some (record { least = v.least.0; most = v.most.0 }) else none

abbrev pub default_view : Output → Option ℤ
default_view v = if v.numbered then some v.default.0 else none

unfoldable pub output_view : List ℕ → Tables → ℕ → block.Output
output_view s t o = record {
  name = slice (output_row t o).start (output_row t o).end s;
  terms = tab (singleton_view s t o) (output_row t o).terms 0;
  range = range_view (output_row t o);
  default = default_view (output_row t o);
}

abbrev pub inputs_view : List ℕ → Tables → List block.Input
inputs_view s t = tab (input_view s t) t.input_count 0

abbrev pub outputs_view : List ℕ → Tables → List block.Output
outputs_view s t = tab (output_view s t) t.output_count 0

-- of this name and with these variables, before the rule block
abbrev pub declared : List ℕ → List block.Input → List block.Output → Block
declared w inputs outputs = record {
  name = w;
  inputs = inputs;
  outputs = outputs;
  rule_block = [];
  pair = min-max;
  act = by-min;
  accu = by-max;
  rules = [];
}

unfoldable pub block_view : List ℕ → Tables → Block
block_view s t = declared (slice t.start t.end s) (inputs_view s t) (outputs_view s t)

-- with a rule block of these rules
unfoldable pub whole_view : List ℕ → Tables → Heading → List Rule → Block
whole_view s t h rs = record {
  name = slice t.start t.end s;
  inputs = inputs_view s t;
  outputs = outputs_view s t;
  rule_block = slice h.start h.end s;
  pair = h.pair;
  act = h.act;
  accu = h.accu;
  rules = rs;
}

-- the name k starts at a and ends at e
abbrev pub Stands : List ℕ → ℕ → ℕ → ℕ → Type 0
Stands names k a e = (get_or names k 0 ≡ a) × (get_or names (symbol_limit + k) 0 ≡ e)

-- the names stand where the rows of the tables have them
pub record Indexed (names : List ℕ) (t : Tables) : Type 0 where
  pub input : (i : ℕ) → i < input_limit → Stands names i (input_row t i).start (input_row t i).end
  pub output : (o : ℕ) → o < output_limit → Stands names (input_limit + o) (output_row t o).start (output_row t o).end
  pub term : (k : ℕ) → k < input_term_limit → Stands names (variable_limit + k) (term_row t k).start (term_row t k).end
  pub singleton : (k : ℕ) → k < output_term_limit
      → Stands names (variable_limit + input_term_limit + k) (singleton_row t k).start (singleton_row t k).end

-- the tables have their sizes, what they count is within the bounds, and their names are in the text
pub record Holds (s : List ℕ) (t : Tables) : Type 0 where
  pub order : t.start ≤ t.end
  pub inside : t.end ≤ length s
  pub placed : Placed s t.names
  pub indexed : Indexed t.names t
  pub input_count : t.input_count ≤ input_limit
  pub output_count : t.output_count ≤ output_limit
  pub input_terms : (i : ℕ) → (input_row t i).terms ≤ term_limit
  pub output_terms : (o : ℕ) → (output_row t o).terms ≤ term_limit
  pub point_counts : (k : ℕ) → (term_row t k).count ≤ point_limit
  pub names_size : length t.names ≡ symbol_limit * 2
  pub inputs_size : length t.inputs ≡ input_limit
  pub outputs_size : length t.outputs ≡ output_limit
  pub terms_size : length t.input_terms ≡ input_term_limit
  pub points_size : (k : ℕ) → k < input_term_limit → length (term_row t k).points ≡ point_limit
  pub singletons_size : length t.output_terms ≡ output_term_limit

-- the name of its rule block is in the text
pub record Headed (s : List ℕ) (h : Heading) : Type 0 where
  pub order : h.start ≤ h.end
  pub inside : h.end ≤ length s
