-- A helper: the heights of output terms as the code holds them.
-- `answers_are` of block_evaluation's proofs/Laws ties the answers by them to model's `block_answers`.
use Rattle.std.specs.Prelude.{List, ℕ, ◌-◌, get_or}
use Rattle.model.specs.Basic.{tab}
use Rattle.model.specs.Image.{decode}
use Rattle.model.specs.Evaluation.{output_answers, figures_of}
use Rattle.model.specs.declared.Answer.{Answer}
use Rattle.model.specs.declared.Held.{Held}
use Rattle.layout.specs.Tables.{output_count, output_first_at}

-- of term t, where the first output term is m
abbrev pub height_of : List ℕ → ℕ → ℕ → ℕ
height_of hs m t = get_or hs (t - m) 0

-- of the terms of output i
abbrev pub heights_of : (ℕ → ℕ) → List ℕ → ℕ → ℕ → List ℕ
heights_of w hs m i = tab (height_of hs m) (output_count w i) (output_first_at w i)

-- model's answers, by the heights that the code holds
abbrev pub answers_by : (ℕ → ℕ) → List ℕ → ℕ → Held → List Answer
answers_by w hs m held = output_answers (decode w) (height_of hs m) 0 (decode w).outputs (figures_of held)
