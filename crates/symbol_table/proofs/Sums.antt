-- Sums of counts, and the arrays that hold them.
use mathlib.Core.Path.{◌≡◌, refl, sym, ap, ◌∙◌}
use mathlib.Core.Bool.{Bool, true, false}
use mathlib.Core.List.{List, [], ◌∷◌}
use Prim.Native.Nat.{ℕ, zero, suc, ◌+◌, ◌*◌, ◌≤◌, ◌<◌}
use native.Mathlib.Nat.{suc-mul}
use native.Mathlib.Omega.{arith}
use borrow.Author.Tests.{eqb-true, eqb-false}
use lib.Dec.{eqb}
use lib.Arith.{lt_of_le-ne}
use lib.ListN.{length, get_or, set}
use lib.Seq.{get_or-set_same, get_or-set_other}
use Rattle.model.specs.Basic.{total, tab}
use Rattle.model.specs.Bounds.{variable_limit}
use Rattle.laws.proofs.Lists.{total_append}
use Rattle.laws.proofs.Places.{tab_last}
use Rattle.symbol_table.specs.Firsts.{sums, Firsts}

pub sums_more : (c : ℕ → ℕ) (n : ℕ) → sums c (n + 1) ≡ sums c n + c n
unfolding sums
sums_more c n = let z : n + 1 ≡ suc n = omega arith in ap (sums c) z

pub sums_ext : (c d : ℕ → ℕ) (n : ℕ) → ((v : ℕ) → v < n → c v ≡ d v) → sums c n ≡ sums d n
unfolding sums
sums_ext c d zero e = refl
sums_ext c d (suc n) e = λ j. sums_ext c d n (λ v h. e v (omega arith)) j + e n (omega arith) j

pub sums_split : (c : ℕ → ℕ) (m n : ℕ) → sums c (m + n) ≡ sums c m + sums (λ k. c (m + k)) n
unfolding sums
sums_split c m zero = let z : m + 0 ≡ m = omega arith in ap (sums c) z ∙ omega arith
sums_split c m (suc n) =
    let z : m + suc n ≡ suc (m + n) = omega arith in
    let e = sums_split c m n in
    ap (sums c) z ∙ (omega arith)

pub sums_none : (n : ℕ) → sums (λ k. 0) n ≡ 0
unfolding sums
sums_none zero = refl
sums_none (suc n) = let e = sums_none n in omega arith

pub sums_most : (c : ℕ → ℕ) (m n : ℕ) → ((v : ℕ) → c v ≤ m) → sums c n ≤ n * m
unfolding sums
sums_most c m zero h = omega arith
sums_most c m (suc n) h = let e = sums_most c m n h in let b = h n in let z : suc n * m ≡ n * m + m = suc-mul n m in omega arith

-- one place more
module _ (r : List ℕ) (i k : ℕ) (l : length r ≡ variable_limit + 3) (h : i < variable_limit + 2) where
  pub last_is : get_or (set r (i + 1) (get_or r i 0 + k)) (i + 1) 0 ≡ get_or r i 0 + k
  last_is = get_or-set_same r (i + 1) (get_or r i 0 + k) 0 (omega arith)

  pub firsts_more : (c : ℕ → ℕ) → Firsts c i r → k ≡ c i → Firsts c (i + 1) (set r (i + 1) (get_or r i 0 + k))
  firsts_more c f e = record { first = λ v b. by v b (eqb v (i + 1)) refl }
    where
      by : (v : ℕ) → v ≤ i + 1 → (t : Bool) → eqb v (i + 1) ≡ t → get_or (set r (i + 1) (get_or r i 0 + k)) v 0 ≡ sums c v
      by v b true q =
          let z = eqb-true v (i + 1) q in
          ap (λ (w : ℕ). get_or (set r (i + 1) (get_or r i 0 + k)) w 0) z ∙ last_is ∙ (λ j. f.first i (omega arith) j + e j) ∙ sym (sums_more c i)
          ∙ ap (sums c) (sym z)
      by v b false q = let z = eqb-false v (i + 1) q in get_or-set_other r (i + 1) v (get_or r i 0 + k) 0 z ∙ f.first v (omega (arith, lt_of_le-ne b z))

pub total_tab : {A : Type 0} (f : A → ℕ) (g : ℕ → A) (n : ℕ) → total f (tab g n 0) ≡ sums (λ k. f (g k)) n
unfolding sums total tab
total_tab f g zero = refl
total_tab {A} f g (suc n) =
    let z : 0 + n ≡ n = omega arith in
    ap (total f) (tab_last g n 0) ∙ total_append f (tab g n 0) (g (0 + n) ∷ [])
    ∙ ap (λ (k : ℕ). total f (tab g n 0) + (f (g k) + 0)) z
    ∙ ap (λ (k : ℕ). k + (f (g n) + 0)) (total_tab f g n)
    ∙ omega arith
