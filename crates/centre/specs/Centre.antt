-- A helper: what the code sums of some singletons, by their positions and heights, and their figure, which is that of
-- model's `output_answer` where the sum of heights is above 0 (`defuzzification/proofs/Answers`).
use Rattle.std.specs.Prelude.{◌≡◌, List, [], ◌∷◌, ℕ, ◌+◌, ◌*◌, ltb, ℤ, pos, length, if◌then◌else◌}
use Rattle.model.specs.Degrees.{nearestℤ}
use Rattle.model.specs.Evaluation.{moment, sum_of}
use Rattle.crisp.specs.Crisp.{above}

-- the moment about the lowest crisp value
unfoldable pub lifted : List ℤ → List ℕ → ℕ
lifted [] hs = 0
lifted (x ∷ xs) [] = 0
lifted (x ∷ xs) (h ∷ hs) = above x * h + lifted xs hs

-- the sum of the heights, and the moment
abbrev pub SumsOf : ℕ → ℕ → List ℤ → List ℕ → Type 0
SumsOf heights m ps hs = (length ps ≡ length hs) × (heights ≡ sum_of hs) × (m ≡ lifted ps hs)

-- by positions and heights; 0 where no height is above 0
abbrev pub figure_of : List ℤ → List ℕ → ℤ
figure_of ps hs = if ltb 0 (sum_of hs) then nearestℤ (moment ps hs) (sum_of hs) else pos 0
