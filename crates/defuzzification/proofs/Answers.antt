-- The answers of all outputs by what the code computes of each.
use mathlib.Core.Path.{◌≡◌, refl, sym, ap, ◌∙◌}
use mathlib.Core.List.{List, [], ◌∷◌, ◌++◌, map}
use Prim.Native.Nat.{ℕ, zero, suc, ◌+◌, ◌-◌, ◌≤◌}
use native.Mathlib.Omega.{arith}
use lib.IntN.{ℤ, pos}
use lib.ListN.{length, get_or, drop, replicate}
use lib.Seq.{drop-cons}
use Rattle.model.specs.Basic.{tab}
use Rattle.model.specs.Bounds.{output_limit}
use Rattle.model.specs.Image.{singleton_at, output_at, decode, OUTPUTS}
use Rattle.model.specs.Evaluation.{output_answer, output_answers, no_answer, padded, held_of}
use Rattle.model.specs.declared.Answer.{Answer}
use Rattle.model.specs.declared.Crisp.{Crisp}
use Rattle.laws.proofs.Lists.{map_tab, tab_append}
use Rattle.laws.proofs.Places.{length_tab}
use Rattle.held.proofs.Laws.{held_tab}
use Rattle.layout.specs.Tables.{output_count, output_first_at}
use Rattle.layout.specs.Groups.{Sound}
use Rattle.layout.proofs.Sound.{output_first_lem, outputs_few}

-- one more value of f
pub tab_more : {A : Type 0} (f : ℕ → A) (k s : ℕ) (y : A) → y ≡ f (s + k) → tab f k s ++ (y ∷ []) ≡ tab f (k + 1) s
unfolding tab
tab_more {A} f k s y e = ap (λ (x : A). tab f k s ++ (x ∷ [])) e ∙ sym (tab_append f k 1 s)

-- the answer of output j
unfoldable pub answer_at : (ℕ → ℕ) → (ℕ → ℕ) → List Crisp → ℕ → Answer
answer_at w h held j = output_answer (output_at w j) (tab h (output_count w j) (output_first_at w j)) (get_or held j (record { 0 = pos 0 })).0

module _ (w h : ℕ → ℕ) (held : List Crisp) (s : Sound w) where
  -- the answers of k outputs from the i-th on
  answers_on : (k i : ℕ) → i + k ≤ length held → i + k ≤ w OUTPUTS
      → output_answers (decode w) h i (tab (output_at w) k i) (map (λ c. c.0) (drop i held)) ≡ tab (answer_at w h held) k i
  unfolding output_answers tab answer_at output_at
  answers_on zero i l r = refl
  answers_on (suc k) i l r =
      let none : Crisp = record { 0 = pos 0 } in
      let first = output_first_lem w s.frame i (omega arith) in
      let n = length_tab (singleton_at w) (output_count w i) (output_first_at w i) in
      let rest = output_answers (decode w) h (suc i) (tab (output_at w) k (suc i)) (map (λ c. c.0) (drop (suc i) held)) in
      ap (λ (cs : List Crisp). output_answers (decode w) h i (tab (output_at w) (suc k) i) (map (λ c. c.0) cs)) (drop-cons held i none (omega arith))
      ∙ (λ j. output_answer (output_at w i) (tab h (n j) (first j)) (get_or held i none).0 ∷ rest)
      ∙ ap (λ (rs : List Answer). answer_at w h held i ∷ rs) (answers_on k (suc i) (omega arith) (omega arith))

  pub answers_are : length held ≡ output_limit → output_answers (decode w) h 0 (decode w).outputs (map (λ c. c.0) held) ≡ tab (answer_at w h held) (w OUTPUTS) 0
  unfolding decode
  answers_are l = answers_on (w OUTPUTS) 0 (omega (arith, outputs_few w s)) (omega arith)

pub padded_is : (f : ℕ → Answer) (n : ℕ) → tab f n 0 ++ replicate (output_limit - n) no_answer ≡ padded no_answer (tab f n 0)
padded_is f n = ap (λ (k : ℕ). tab f n 0 ++ replicate (output_limit - k) no_answer) (sym (length_tab f n 0))

pub held_is : (f : ℕ → Answer) (n : ℕ)
    → tab (λ j. (f j).thousandths) n 0 ++ replicate (output_limit - n) (record { 0 = pos 0 }) ≡ (held_of (map (λ a. a.thousandths.0) (tab f n 0))).figures
held_is f n = held_tab (λ j. (f j).thousandths.0) n ∙ ap (λ (l : List ℤ). (held_of l).figures) (sym (map_tab (λ a. a.thousandths.0) f n 0))
