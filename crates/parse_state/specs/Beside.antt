-- A helper: a reading that keeps some of the tables to itself, so that there is a `ParseState` for each tables beside it.
-- `whole` of block_text/proofs/Laws puts such readings together to one of all that stands before the rules.
use Rattle.std.specs.Prelude.{List, ℕ}
use Rattle.model.specs.Parse.{Part}
use Rattle.block_tables.specs.declared.Tables.{Tables}
use Rattle.parse_state.specs.declared.ParseState.{ParseState}
use Rattle.parse_state.specs.Reads.{Good, Reads}

-- beside some tables it is good
pub record Ready (s : List ℕ) (f : Tables → ParseState) : Type 0 where
  pub tables : Tables
  pub good : Good s (f tables)

-- a part is read, whatever the tables beside it
abbrev pub Collects : Part → List ℕ → (Tables → ParseState) → (Tables → ParseState) → Type 0
Collects part s f g = (t : Tables) → Good s (f t) → Reads part s (f t) (g t)
