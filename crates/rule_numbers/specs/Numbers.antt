-- A helper: the number of a rule, as model's `rule_at` has it. `numbers_are` of stored_rules/proofs/Rules ties
-- the numbers of all rules to those of model's `decode`.
use Rattle.std.specs.Prelude.{ℕ}
use Rattle.model.specs.Image.{rule_place}

abbrev pub rule_number : (ℕ → ℕ) → ℕ → ℕ
rule_number w i = w (rule_place w i)
