-- A helper: the rules of an image one by one, as tests on words. `rules_spelt` of proofs/Rules ties the walk over them
-- to layout's `rules_ok`, which stands on model's `rule_ok`.
use Rattle.std.specs.Prelude.{Bool, ◌&&◌, [], ◌∷◌, ℕ, zero, suc, ◌+◌, leb, eqb}
use Rattle.model.specs.Basic.{between, every, distinct, tab}
use Rattle.model.specs.Bounds.{rule_limit, word_limit, conclusion_limit}
use Rattle.model.specs.Image.{RULES, WORDS, CONCLUSIONS}
use Rattle.layout.specs.Tables.{word_count, conclusion_count}
use Rattle.rule_numbers.specs.Numbers.{rule_number}
use Rattle.rule_rows.specs.Rows.{row_stored}

-- r rules from the i-th on, up to the totals of the header
unfoldable pub rules_walk : (ℕ → ℕ) → ℕ → ℕ → ℕ → ℕ → Bool
rules_walk w zero i n k = eqb n (w WORDS) && eqb k (w CONCLUSIONS)
rules_walk w (suc r) i n k =
    row_stored w i n k && rules_walk w r (suc i) (n + word_count w i) (k + conclusion_count w i)

-- all that is tested of the rules
unfoldable pub rules_stored : (ℕ → ℕ) → Bool
rules_stored w = every (
    between 1 rule_limit (w RULES)
    ∷ leb (w WORDS) word_limit
    ∷ leb (w CONCLUSIONS) conclusion_limit
    ∷ rules_walk w (w RULES) 0 0 0
    ∷ distinct eqb (tab (rule_number w) (w RULES) 0)
    ∷ [])
