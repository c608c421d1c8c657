-- A helper: the machine that keeps of each subtree its degree, over the words of all rules. `degrees_left` of
-- proofs/Passes ties what it leaves to model's `condition_degree`.
use Rattle.std.specs.Prelude.{List, true, ℕ, ◌+◌, ltb, get_or}
use Rattle.model.specs.Bounds.{rule_limit}
use Rattle.model.specs.declared.Pair.{Pair}
use Rattle.model.specs.Degrees.{not_of, pairs}
use Rattle.condition_words.specs.Machine.{Meaning, room}

-- one for each rule, and those that a condition needs
abbrev pub places : ℕ
places = rule_limit + room

-- m input terms, whose degrees are ds
abbrev pub by_degrees : Pair → List ℕ → ℕ → Meaning ℕ
by_degrees p ds m = record {
  leaf = λ t. get_or ds t 0;
  no = not_of;
  join = pairs p;
  fine = λ a. true;
  known = λ t. ltb t m;
  places = places;
}
