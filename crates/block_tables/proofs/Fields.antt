-- Tables field by field, and what holds of them, fact by fact.
use mathlib.Core.Path.{◌≡◌}
use mathlib.Core.List.{List}
use Prim.Native.Nat.{ℕ, ◌*◌, ◌≤◌, ◌<◌}
use lib.ListN.{length}
use Rattle.model.specs.Bounds.{input_limit, output_limit, term_limit, point_limit, input_term_limit, output_term_limit, symbol_limit}
use Rattle.lookup.specs.Names.{Placed}
use Rattle.block_tables.specs.declared.Input.{Input}
use Rattle.block_tables.specs.declared.Output.{Output}
use Rattle.block_tables.specs.declared.Term.{Term}
use Rattle.block_tables.specs.declared.Singleton.{Singleton}
use Rattle.block_tables.specs.declared.Tables.{Tables}
use Rattle.block_tables.specs.View.{input_row, output_row, term_row, Indexed, Holds}

abbrev pub tables_of : ℕ → ℕ → ℕ → ℕ → List Input → List Output → List Term → List Singleton → List ℕ → Tables
tables_of a e n m is os ts xs names = record {
  start = a;
  end = e;
  input_count = n;
  output_count = m;
  inputs = is;
  outputs = os;
  input_terms = ts;
  output_terms = xs;
  names = names;
}

pub holds_of : {s : List ℕ} {t : Tables} → t.start ≤ t.end
    → t.end ≤ length s
    → Placed s t.names
    → Indexed t.names t
    → t.input_count ≤ input_limit
    → t.output_count ≤ output_limit
    → ((i : ℕ) → (input_row t i).terms ≤ term_limit)
    → ((o : ℕ) → (output_row t o).terms ≤ term_limit)
    → ((k : ℕ) → (term_row t k).count ≤ point_limit)
    → length t.names ≡ symbol_limit * 2
    → length t.inputs ≡ input_limit
    → length t.outputs ≡ output_limit
    → length t.input_terms ≡ input_term_limit
    → ((k : ℕ) → k < input_term_limit → length (term_row t k).points ≡ point_limit)
    → length t.output_terms ≡ output_term_limit
    → Holds s t
holds_of a b c x d e f g h i j k l m n = record {
  order = a;
  inside = b;
  placed = c;
  indexed = x;
  input_count = d;
  output_count = e;
  input_terms = f;
  output_terms = g;
  point_counts = h;
  names_size = i;
  inputs_size = j;
  outputs_size = k;
  terms_size = l;
  points_size = m;
  singletons_size = n;
}
