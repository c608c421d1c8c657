-- A helper: tables of degrees as lists of numbers, which is how model's `condition_degree` and `height` take them.
-- `answers_are` of block_evaluation/proofs/Laws ties those of a call to model's `block_answers`.
use Rattle.std.specs.Prelude.{List, map, ℕ, ◌≤◌, get_or}
use Rattle.model.specs.Bounds.{M}
use Rattle.model.specs.declared.Degree.{Degree}

abbrev pub numbers : List Degree → List ℕ
numbers ds = map (λ d. d.0) ds

-- every degree is at most 1
abbrev pub Low : List ℕ → Type 0
Low ds = (k : ℕ) → get_or ds k 0 ≤ M
