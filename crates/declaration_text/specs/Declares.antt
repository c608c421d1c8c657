-- A helper: the names of the variables so far, and what a new one is checked for. `variable_bad` and `variable_good` of
-- proofs/Laws tie the checks to the model's `variable`.
use Rattle.std.specs.Prelude.{◌≡◌, Bool, ◌||◌, not, List, [], ◌∷◌, ℕ, length}
use Rattle.model.specs.Basic.{index_of, tab}
use Rattle.model.specs.Bounds.{input_limit}
use Rattle.model.specs.Block.{Block}
use Rattle.model.specs.Tokens.{same_name}
use Rattle.model.specs.Parse.{Parse, Checks, text, a_name}
use Rattle.model.specs.Declarations.{input_of, output_of, is_input, is_output}
use Rattle.lookup.specs.Names.{name_of}
use Rattle.cursor.specs.declared.Cursor.{Cursor}
use Rattle.block_tables.specs.declared.Tables.{Tables}
use Rattle.block_tables.specs.Changes.{named}
use Rattle.parse_state.specs.declared.ParseState.{ParseState}
use Rattle.declaration_text.specs.declared.BlockName.{BlockName}
use Rattle.declaration_text.specs.declared.DeclaredInputs.{DeclaredInputs}
use Rattle.declaration_text.specs.declared.DeclaredOutputs.{DeclaredOutputs}

-- block b has m inputs and n outputs of these names
pub record Declares (s names : List ℕ) (m n : ℕ) (b : Block) : Type 0 where
  pub inputs : length b.inputs ≡ m
  pub outputs : length b.outputs ≡ n
  pub input : (w : List ℕ) → input_of w b ≡ index_of (same_name w) (tab (name_of s names) m 0)
  pub output : (w : List ℕ) → output_of w b ≡ index_of (same_name w) (tab (name_of s names) n input_limit)

-- what a new variable is checked for, where there is room or not
abbrev pub new_checks : Parse → Bool → Checks
new_checks r room = a_name r ((not (is_input (text r) r.block || is_output (text r) r.block), 4) ∷ (room, 6) ∷ [])

-- before the block's name
abbrev pub unnamed : Cursor → BlockName
unnamed c = record { cursor = c; start = 0; end = 0 }

-- the block's name p, in the tables t
abbrev pub with_block_name : BlockName → Tables → ParseState
with_block_name p t = record { cursor = p.cursor; tables = named t p.start p.end }

-- the inputs p with their names and m outputs, in the tables t
abbrev pub with_inputs : ℕ → List ℕ → DeclaredInputs → Tables → ParseState
with_inputs m names p t = record {
  cursor = p.cursor;
  tables = record {
    start = t.start;
    end = t.end;
    input_count = p.count;
    output_count = m;
    inputs = p.rows;
    outputs = t.outputs;
    input_terms = t.input_terms;
    output_terms = t.output_terms;
    names = names;
  };
}

-- the outputs p with their names and m inputs, in the tables t
abbrev pub with_outputs : ℕ → List ℕ → DeclaredOutputs → Tables → ParseState
with_outputs m names p t = record {
  cursor = p.cursor;
  tables = record {
    start = t.start;
    end = t.end;
    input_count = m;
    output_count = p.count;
    inputs = t.inputs;
    outputs = p.rows;
    input_terms = t.input_terms;
    output_terms = t.output_terms;
    names = names;
  };
}
