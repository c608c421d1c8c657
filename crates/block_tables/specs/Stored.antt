-- A helper: rules as they are kept while a text is read: four words for each rule, and their condition words and
-- conclusions one after the other. The contract of `image::store` ties them to the model's `image`.
use Rattle.std.specs.Prelude.{◌≡◌, List, [], ◌∷◌, ℕ, ◌*◌, ◌≤◌, length, take}
use Rattle.model.specs.Basic.{gather}
use Rattle.model.specs.Bounds.{rule_limit, word_limit, conclusion_limit}
use Rattle.model.specs.Block.{Rule, size}
use Rattle.model.specs.Image.{postfix, conclusion_words, conclusion_width}

-- the words of a kept rule
abbrev pub kept_width : ℕ
kept_width = 4

abbrev pub rule_row : Rule → List ℕ
rule_row r = r.number ∷ size r.condition ∷ length r.conclusions ∷ r.weight ∷ []

abbrev pub condition_words : List Rule → List ℕ
condition_words rs = gather (λ r. postfix r.condition) rs

abbrev pub conclusion_pairs : List Rule → List ℕ
conclusion_pairs rs = gather conclusion_words (gather (λ r. r.conclusions) rs)

-- m rules in rules, n condition words in ws, k conclusions in ks
pub record Stored (rs : List Rule) (rules ws ks : List ℕ) (m n k : ℕ) : Type 0 where
  pub rows : take (m * kept_width) rules ≡ gather rule_row rs
  pub words : take n ws ≡ condition_words rs
  pub conclusions : take (k * conclusion_width) ks ≡ conclusion_pairs rs
  pub few_rules : m ≤ rule_limit
  pub few_words : n ≤ word_limit
  pub few_conclusions : k ≤ conclusion_limit
