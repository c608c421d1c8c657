-- The rules that the arrays hold: their table, and how many entries each array has.
use Rattle.std.proofs.Common.{◌≡◌, ℕ, zero, suc, ◌+◌, ◌*◌, ◌%◌, ◌^◌, ◌≤◌, List, [], ◌∷◌, length, get_or, take, drop, sym, refl, ap, ◌∙◌, arith, length-take-le, drop-cons}
use Rattle.layout.proofs.Whole.{length_conditions}
use Rattle.model.specs.Basic.{gather, total}
use Rattle.model.specs.Bounds.{rule_limit, word_limit, conclusion_limit}
use Rattle.model.specs.Block.{Rule, size}
use Rattle.model.specs.Image.{rule_table}
use Rattle.laws.proofs.Conditions.{length_pairs}
use Rattle.laws.proofs.Lists.{length_gather}
use Rattle.block_tables.specs.Stored.{Stored, rule_row}
use Rattle.variable_rows.specs.Rows.{rows}
use Rattle.image.specs.Rows.{rule_words, rule_next}

-- ROWS of four words
four : (l : List ℕ) (m i : ℕ) → i * 4 + 4 ≤ length l
    → take (suc m * 4) (drop (i * 4) l) ≡ get_or l (i * 4) 0 ∷ get_or l (i * 4 + 1) 0 ∷ get_or l (i * 4 + 2) 0 ∷ get_or l (i * 4 + 3) 0 ∷ take (m * 4)
    (drop (suc i * 4) l)
four l m i h =
    let e : suc m * 4 ≡ suc (suc (suc (suc (m * 4)))) = omega arith in
    let e1 : i * 4 + 1 ≡ suc (i * 4) = omega arith in
    let e2 : i * 4 + 2 ≡ suc (suc (i * 4)) = omega arith in
    let e3 : i * 4 + 3 ≡ suc (suc (suc (i * 4))) = omega arith in
    let e4 : suc i * 4 ≡ suc (suc (suc (suc (i * 4)))) = omega arith in
    rw (
      e,
      e1,
      e2,
      e3,
      e4,
      drop-cons l (i * 4) 0 (omega arith),
      drop-cons l (suc (i * 4)) 0 (omega arith),
      drop-cons l (suc (suc (i * 4))) 0 (omega arith),
      drop-cons l (suc (suc (suc (i * 4)))) 0 (omega arith),
    )

low : (x : ℕ) → x ≤ 4294967295 → x % 2 ^ 32 ≡ x
low x h = omega arith

pub record Kept (rules : List ℕ) (rs : List Rule) (m i n k : ℕ) : Type 0 where
  pub table : rule_table n k rs ≡ rows (rule_words rules) (rule_next rules) m i (n, k)
  pub many : length rs ≡ m

kept : (rules : List ℕ) (rs : List Rule) (m i n k : ℕ) → (i + m) * 4 ≤ length rules → take (m * 4) (drop (i * 4) rules) ≡ gather rule_row rs
    → n + total (λ r. size r.condition) rs ≤ 4294967295 → k + total (λ r. length r.conclusions) rs ≤ 4294967295 → Kept rules rs m i n k
unfolding gather total rule_table rows rule_words
kept rules [] zero i n k h e a b = record { table = refl; many = refl }
kept rules (r ∷ rs) zero i n k h e a b = absurd (omega (arith, ap length e))
kept rules [] (suc m) i n k h e a b = absurd (omega (arith, ap length e, ap length (four rules m i (omega arith))))
kept rules (r ∷ rs) (suc m) i n k h e a b =
    let q = sym (four rules m i (omega arith)) ∙ e in
    let w : get_or rules (i * 4 + 1) 0 ≡ size r.condition = ap (λ (l : List ℕ). get_or l 1 0) q in
    let x : get_or rules (i * 4 + 2) 0 ≡ length r.conclusions = ap (λ (l : List ℕ). get_or l 2 0) q in
    let n' : (n + get_or rules (i * 4 + 1) 0) % 2 ^ 32 ≡ n + size r.condition = rw w (low (n + size r.condition) (omega arith)) in
    let k' : (k + get_or rules (i * 4 + 2) 0) % 2 ^ 32 ≡ k + length r.conclusions = rw x (low (k + length r.conclusions) (omega arith)) in
    let rest = kept rules rs m (suc i) (n + size r.condition) (k + length r.conclusions) (omega arith) (ap (drop 4) q) (omega arith) (omega arith) in
    record {
      table = λ j. ap (λ (l : List ℕ). get_or l 0 0) (sym q) j ∷ n ∷ sym w j ∷ k ∷ sym x j ∷ ap (λ (l : List ℕ). get_or l 3 0) (sym q) j
          ∷ (rest.table ∙ (λ i'. rows (rule_words rules) (rule_next rules) m (suc i) (sym n' i', sym k' i'))) j;
      many = ap suc rest.many;
    }

module _ (rs : List Rule) (rules ws ks : List ℕ) (m n k : ℕ) (h : Stored rs rules ws ks m n k) (wide : length rules ≡ rule_limit * 4) (long : length ws ≡ word_limit)
    (full : length ks ≡ conclusion_limit * 2) where
  pub words_count : total (λ r. size r.condition) rs ≡ n
  words_count = sym (length_conditions rs) ∙ ap length (sym h.words) ∙ length-take-le n ws (omega (arith, h.few_words))

  pub conclusions_count : length (gather (λ r. r.conclusions) rs) ≡ k
  conclusions_count =
      omega (arith, length_pairs (gather (λ r. r.conclusions) rs), ap length h.conclusions, length-take-le (k * 2) ks (omega (arith, h.few_conclusions)))

  pub all_kept : Kept rules rs m 0 0 0
  all_kept =
      kept rules rs m 0 0 0 (omega (arith, h.few_rules)) h.rows (omega (arith, words_count, h.few_words))
      (omega (arith, length_gather (λ r. r.conclusions) (λ r. length r.conclusions) (λ r. refl) rs, conclusions_count, h.few_conclusions))
