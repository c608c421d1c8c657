-- A helper: one rule of an image as tests on words. `rule_spelt` of proofs/Rules ties them to model's `rule_ok`.
use Rattle.std.specs.Prelude.{Bool, ◌&&◌, [], ◌∷◌, ℕ, ◌+◌, leb, eqb}
use Rattle.model.specs.Basic.{between, every, all, tab}
use Rattle.model.specs.Bounds.{rule_number_least, rule_number_limit}
use Rattle.model.specs.WellFormed.{unit_ok, conclusion_ok, rule_ok}
use Rattle.model.specs.Image.{rule_place, word_place, rule_at, conclusion_at, decode, WORDS, CONCLUSIONS}
use Rattle.layout.specs.Tables.{word_count, conclusion_count, condition_exact}
use Rattle.condition_stack.specs.Stored.{condition_stored}

-- rule i
unfoldable pub rule_stored : (ℕ → ℕ) → ℕ → Bool
rule_stored w i = condition_exact w i && rule_ok (decode w) (rule_at w i)

-- rule i by the words that are read, where m terms are inputs'
unfoldable pub rule_tests : (ℕ → ℕ) → ℕ → ℕ → Bool
rule_tests w m i =
    let o : ℕ = rule_place w i in
    every (
    between rule_number_least rule_number_limit (w o)
    ∷ unit_ok (w (o + 5))
    ∷ (leb 1 (w (o + 4)) && all (conclusion_ok (decode w)) (tab (conclusion_at w) (w (o + 4)) (w (o + 3))))
    ∷ condition_stored w (word_place w (w (o + 1))) (w (o + 2)) m
    ∷ [])

-- rule i after n condition words and k conclusions, its own within the totals of the header
unfoldable pub row_stored : (ℕ → ℕ) → ℕ → ℕ → ℕ → Bool
row_stored w i n k = every (
    eqb (w (rule_place w i + 1)) n
    ∷ eqb (w (rule_place w i + 3)) k
    ∷ leb (n + word_count w i) (w WORDS)
    ∷ leb (k + conclusion_count w i) (w CONCLUSIONS)
    ∷ rule_stored w i
    ∷ [])
