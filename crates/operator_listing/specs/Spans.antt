-- A helper: where a condition lies among words, and its form there. `spans_words` of proofs/Spans ties it to model's
-- `postfix`.
use Rattle.std.specs.Prelude.{◌≡◌, ℕ, ◌+◌, ◌-◌, ◌<◌}
use Rattle.model.specs.Block.{Condition, term, neg, two}
use Rattle.model.specs.Image.{NOT_WORD, TERM_WORD, op_word}
use Rattle.model.specs.Parentheses.{form}

-- the words of c are those from place i to below e, f giving the word at each place
unfoldable pub Spans : (ℕ → ℕ) → ℕ → ℕ → Condition → Type 0
Spans f i e (term t) = (0 < e) × (i ≡ e - 1) × (f (e - 1) ≡ TERM_WORD + t)
Spans f i e (neg c) = (0 < e) × Spans f i (e - 1) c × (f (e - 1) ≡ NOT_WORD)
Spans f i e (two o a b) = (j : ℕ) × (0 < e) × Spans f i j a × Spans f j (e - 1) b × (f (e - 1) ≡ op_word o)

-- k is the form of the condition that ends before e
abbrev pub Forms : (ℕ → ℕ) → ℕ → ℕ → Type 0
Forms f e k = (i : ℕ) (c : Condition) → Spans f i e c → k ≡ form c
