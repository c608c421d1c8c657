-- A helper: what a reading stands for in document 01's rules, and what a function that reads a part of them ensures:
-- `Reads` ties it to a `Part` of the model.
use Rattle.std.specs.Prelude.{◌≡◌, List, ℕ, ◌≤◌}
use Rattle.model.specs.Parse.{Parse, Part}
use Rattle.cursor.specs.View.{seen, Fits, left}
use Rattle.block_tables.specs.View.{block_view, Holds}
use Rattle.parse_state.specs.declared.ParseState.{ParseState}

unfoldable pub view : List ℕ → ParseState → Parse
view s p = seen s p.cursor (block_view s p.tables) 0

pub record Good (s : List ℕ) (p : ParseState) : Type 0 where
  pub fits : Fits s p.cursor
  pub holds : Holds s p.tables

pub record Reads (part : Part) (s : List ℕ) (p r : ParseState) : Type 0 where
  pub reads : view s r ≡ part (view s p)
  pub fewer : left s r.cursor ≤ left s p.cursor
  pub good : Good s r
