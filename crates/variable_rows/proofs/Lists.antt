-- Lists of places, one more a turn.
use mathlib.Core.Path.{◌≡◌, refl, sym, ap, ◌∙◌}
use mathlib.Core.List.{List, [], ◌∷◌, ◌++◌, append_assoc, append-nil}
use Prim.Native.Nat.{ℕ, suc, ◌+◌, ◌*◌, ◌-◌, ◌≤◌, ◌<◌}
use native.Mathlib.Omega.{arith}
use lib.Dec.{eqb}
use lib.ListN.{length, get_or, take, set, length-set, replicate}
use lib.Seq.{take-suc-set, get_or-set_same, get_or-set_other}
use borrow.Author.Tests.{eqb-true, eqb-false}
use mathlib.Core.Bool.{Bool, true, false}
use Rattle.model.specs.Basic.{tab}
use Rattle.model.specs.Bounds.{term_limit, input_term_limit}
use Rattle.laws.proofs.Places.{tab_last}
use Rattle.laws.proofs.Arrays.{replicate_at}
use Rattle.variable_rows.specs.Rows.{Listed, rows, onward, slot_row}
use Rattle.variable_rows.proofs.Turns.{rows_more, rows_end}

-- no places
pub listed_none : (m : ℕ) → 0 < m → Listed m (replicate input_term_limit 0)
listed_none m h = record { size = refl; below = λ k. omega (arith, replicate_at {A = ℕ} input_term_limit k 0) }

-- one place more
module _ (l : List ℕ) (n x : ℕ) where
  pub listed_more : (m : ℕ) → Listed m l → n < input_term_limit → x < m → Listed m (set l n x)
  listed_more m h k b = record { size = length-set l n x ∙ h.size; below = λ i. go i (eqb i n) refl }
    where
      go : (i : ℕ) (t : Bool) → eqb i n ≡ t → get_or (set l n x) i 0 < m
      go i false e = rw (get_or-set_other l n i x 0 (eqb-false i n e)) (h.below i)
      go i true e = rw (eqb-true i n e, get_or-set_same l n x 0 (omega (arith, h.size))) b

  pub slot_more : (xs : List ℕ) (f : ℕ → ℕ) (j : ℕ) → n < length l → x ≡ f j → take n l ≡ xs ++ tab f j 0
      → take (n + 1) (set l n x) ≡ xs ++ tab f (j + 1) 0
  slot_more xs f j h e p =
      let one : n + 1 ≡ suc n = omega arith in
      let two : j + 1 ≡ suc j = omega arith in
      let z : 0 + j ≡ j = omega arith in
      rw (one, two) (take-suc-set l n x h ∙ (λ i. p i ++ (e i ∷ [])) ∙ append_assoc xs (tab f j 0) (f j ∷ [])
      ∙ ap (λ (y : List ℕ). xs ++ y) (rw z at (sym (tab_last f j 0))))

-- the places of one variable more
module _ (c : ℕ → ℕ) (n i : ℕ) (xs T : List ℕ) where
  pub slots_more : (ys : List ℕ) → i < n → ys ≡ xs ++ tab (λ j. i * term_limit + j) (c i) 0 → xs ++ rows (slot_row c) onward (n - i) i tt ≡ T
      → ys ++ rows (slot_row c) onward (n - (i + 1)) (i + 1) tt ≡ T
  slots_more ys h e p = rw (e, append_assoc) (rw (rows_more (slot_row c) onward n i tt h) at p)

  pub slots_end : n ≤ i → xs ++ rows (slot_row c) onward (n - i) i tt ≡ T → xs ≡ T
  slots_end h p = sym (append-nil xs) ∙ rw (rows_end (slot_row c) onward n i tt h) at p
