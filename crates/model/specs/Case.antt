-- W-205: case has no meaning in names and keywords. Texts that are the same but for case are refused by the same number
-- at the same place, or read to blocks that are the same but for the case of their names.
use Rattle.std.specs.Prelude.{◌≡◌, true, List, map, ℕ}
use Rattle.model.specs.Basic.{capitals, alike}
use Rattle.model.specs.Block.{Term, Singleton, Input, Output, Block}
use Rattle.model.specs.Outcome.{Outcome, accepted, and_then}
use Rattle.model.specs.Reader.{reads}

-- NAMES IN CAPITALS, all else as it is
abbrev pub term_in_capitals : Term → Term
term_in_capitals t = record { name = capitals t.name; points = t.points }

abbrev pub singleton_in_capitals : Singleton → Singleton
singleton_in_capitals t = record { name = capitals t.name; at = t.at }

abbrev pub input_in_capitals : Input → Input
input_in_capitals v = record { name = capitals v.name; type = v.type; terms = map term_in_capitals v.terms }

abbrev pub output_in_capitals : Output → Output
output_in_capitals v =
    record { name = capitals v.name; terms = map singleton_in_capitals v.terms; range = v.range; default = v.default }

abbrev pub in_capitals : Block → Block
in_capitals b = record {
  name = capitals b.name;
  inputs = map input_in_capitals b.inputs;
  outputs = map output_in_capitals b.outputs;
  rule_block = capitals b.rule_block;
  pair = b.pair;
  act = b.act;
  accu = b.accu;
  rules = b.rules;
}

-- what a text reads to, with its names in capitals
abbrev pub read_in_capitals : List ℕ → Outcome Block
read_in_capitals s = and_then (reads s) (λ b. accepted (in_capitals b))

abbrev pub WithoutCase : Type 0
WithoutCase = (s t : List ℕ) → alike s t ≡ true → read_in_capitals s ≡ read_in_capitals t
