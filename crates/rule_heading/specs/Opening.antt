-- A helper: what a rule block begins with, as the rules read it and as it is kept. `parts` of reader/proofs/Laws ties
-- `opening` to the model's `rule_block`.
use Rattle.std.specs.Prelude.{◌≡◌, List, [], ℕ, ◌≤◌, eqb, if◌then◌else◌}
use Rattle.std.specs.declared.option.Option as read
use Rattle.std.specs.Prelude.{Some, None}
use Rattle.std.proofs.Math.Option.{Option, none, some}
use Rattle.std.proofs.Math.Seq.{slice}
use Rattle.model.specs.Basic.{◌▸◌}
use Rattle.model.specs.Block.{Block, with_rule_block}
use Rattle.model.specs.declared.Pair.{Pair}
use Rattle.model.specs.declared.Pair.TheVariants.{MinMax as min-max}
use Rattle.model.specs.declared.Activation.TheVariants.{Min as by-min}
use Rattle.model.specs.declared.Accumulation.TheVariants.{Max as by-max}
use Rattle.model.specs.Keywords.{AND, ACCU, COLON, RULEBLOCK, SEMICOLON}
use Rattle.model.specs.Parse.{Part, expect, own_name}
use Rattle.model.specs.Rules.{and_pair, or_pair, algorithms, activation_line, accumulation}
use Rattle.cursor.specs.View.{seen, Fits, left}
use Rattle.block_tables.specs.declared.Heading.{Heading}
use Rattle.block_tables.specs.View.{Headed}
use Rattle.rule_heading.specs.declared.Opened.{Opened}

-- RULEBLOCK, before its rules
unfoldable pub opening : Part
opening r =
    r ▸ expect RULEBLOCK ▸ own_name with_rule_block
    ▸ algorithms ▸ activation_line
    ▸ expect ACCU ▸ expect COLON ▸ accumulation ▸ expect SEMICOLON

-- b with this heading
abbrev pub headed : List ℕ → Heading → Block → Block
headed s h b = record {
  name = b.name;
  inputs = b.inputs;
  outputs = b.outputs;
  rule_block = slice h.start h.end s;
  pair = h.pair;
  act = h.act;
  accu = h.accu;
  rules = b.rules;
}

-- no heading is read yet
pub record Bare (b : Block) : Type 0 where
  pub rule_block : b.rule_block ≡ []
  pub pair : b.pair ≡ min-max
  pub act : b.act ≡ by-min
  pub accu : b.accu ≡ by-max

-- whatever else the block has, part is read from p to r
pub record Opens (part : Part) (s : List ℕ) (p r : Opened) : Type 0 where
  pub reads : (b : Block) (n : ℕ) → seen s r.cursor (headed s r.heading b) n
      ≡ part (seen s p.cursor (headed s p.heading b) n)
  pub fewer : left s r.cursor ≤ left s p.cursor
  pub fits : Fits s r.cursor
  pub headed : Headed s r.heading

-- the pair of an algorithm for AND, else for OR
abbrev pub pairs : ℕ → ℕ → Option Pair
pairs k w = if eqb k AND then and_pair w else or_pair w

-- what was read, as the rules have it
abbrev pub as_read : read.Option Pair → Option Pair
as_read None = none
as_read (Some a) = some a
