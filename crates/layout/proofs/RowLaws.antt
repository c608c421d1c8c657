-- A table stands in the words exactly when its rows do; and what the rows hold, joined.
use mathlib.Core.Path.{◌≡◌, refl, sym, ap, ◌∙◌, subst}
use mathlib.Core.List.{List, [], ◌∷◌, ◌++◌, append_assoc}
use mathlib.Core.Bool.{true}
use Prim.Native.Nat.{ℕ, zero, suc, ◌+◌, ◌*◌, ◌<◌}
use native.Mathlib.Omega.{arith}
use native.Mathlib.Nat.{suc-mul, zero-mul}
use lib.ListN.{length, get_or, length-append}
use Rattle.model.specs.Basic.{same, tab}
use Rattle.laws.proofs.Tests.{both, and_i}
use Rattle.laws.proofs.Places.{At, at_shift, at_cut, at_join, at_nth, at_tab, tab_at, same_eq, same_refl}
use Rattle.layout.specs.Rows.{laid, after, rows_ok}
use Rattle.layout.specs.Tables.{sums}

-- words that are those of a list
pub stands : (w : ℕ → ℕ) (o s : ℕ) (xs : List ℕ) → same (tab w s o) xs ≡ true → At w o xs
stands w o s xs h = subst (λ (l : List ℕ). At w o l) (same_eq (tab w s o) xs h) (at_tab w s o)

-- the word at place k of a row
pub word_of : (w : ℕ → ℕ) (o s : ℕ) (xs : List ℕ) (k : ℕ) → k < length xs → same (tab w s o) xs ≡ true → w (o + k) ≡ get_or xs k 0
word_of w o s xs k l h = at_nth w o xs k 0 l (stands w o s xs h)

pub stood : (w : ℕ → ℕ) (o s : ℕ) (xs : List ℕ) → length xs ≡ s → At w o xs → same (tab w s o) xs ≡ true
stood w o s xs e h = ap (λ (n : ℕ). same (tab w n o) xs) (sym e) ∙ ap (λ (l : List ℕ). same l xs) (tab_at w o xs h) ∙ same_refl xs

module _ {R S : Type 0} (enc : S → R → List ℕ) (next : S → R → S) (dec : ℕ → R) (w : ℕ → ℕ) (o s : ℕ) (wide : (σ : S) (r : R) → length (enc σ r) ≡ s) where
  pub rows_out : (k i : ℕ) (σ : S) → rows_ok enc next dec w o s k i σ ≡ true → At w (o + i * s) (laid enc next σ (tab dec k i))
  unfolding laid rows_ok tab
  rows_out zero i σ h = tt
  rows_out (suc k) i σ h =
      let b = both (same (tab w s (o + i * s)) (enc σ (dec i))) (rows_ok enc next dec w o s k (suc i) (next σ (dec i))) h in
      let rest = laid enc next (next σ (dec i)) (tab dec k (suc i)) in
      let e : o + suc i * s ≡ o + i * s + length (enc σ (dec i)) = omega (arith, suc-mul i s, wide σ (dec i)) in
      at_join w (o + i * s) (enc σ (dec i)) rest (stands w (o + i * s) s (enc σ (dec i)) b.0)
      (at_shift w (o + suc i * s) (o + i * s + length (enc σ (dec i))) rest e (rows_out k (suc i) (next σ (dec i)) b.1))

  pub rows_in : (k i : ℕ) (σ : S) → At w (o + i * s) (laid enc next σ (tab dec k i)) → rows_ok enc next dec w o s k i σ ≡ true
  unfolding laid rows_ok tab
  rows_in zero i σ h = refl
  rows_in (suc k) i σ h =
      let rest = laid enc next (next σ (dec i)) (tab dec k (suc i)) in
      let c = at_cut w (o + i * s) (enc σ (dec i)) rest h in
      let e : o + i * s + length (enc σ (dec i)) ≡ o + suc i * s = omega (arith, suc-mul i s, wide σ (dec i)) in
      and_i _ _ (stood w (o + i * s) s (enc σ (dec i)) (wide σ (dec i)) c.0)
      (rows_in k (suc i) (next σ (dec i)) (at_shift w (o + i * s + length (enc σ (dec i))) (o + suc i * s) rest e c.1))

  pub length_laid : (σ : S) (rs : List R) → length (laid enc next σ rs) ≡ length rs * s
  unfolding laid
  length_laid σ [] = sym (zero-mul s)
  length_laid σ (r ∷ rs) =
      omega (arith, length-append (enc σ r) (laid enc next (next σ r) rs), wide σ r, length_laid (next σ r) rs, suc-mul (length rs) s)

pub laid_append : {R S : Type 0} (enc : S → R → List ℕ) (next : S → R → S) (dec : ℕ → R) (k i : ℕ) (σ : S) (rs : List R)
    → laid enc next σ (tab dec k i ++ rs) ≡ laid enc next σ (tab dec k i) ++ laid enc next (after next dec k i σ) rs
unfolding laid after tab
laid_append enc next dec zero i σ rs = refl
laid_append enc next dec (suc k) i σ rs =
    ap (λ (l : List ℕ). enc σ (dec i) ++ l) (laid_append enc next dec k (suc i) (next σ (dec i)) rs)
    ∙ sym (append_assoc (enc σ (dec i)) (laid enc next (next σ (dec i)) (tab dec k (suc i))) (laid enc next (after next dec k (suc i) (next σ (dec i))) rs))

pub after_sums : {R : Type 0} (next : ℕ → R → ℕ) (dec : ℕ → R) (c : ℕ → ℕ) → ((i n : ℕ) → next n (dec i) ≡ n + c i) → (k i n : ℕ)
    → after next dec k i n ≡ n + sums c k i
unfolding after sums
after_sums next dec c e zero i n = omega arith
after_sums next dec c e (suc k) i n = after_sums next dec c e k (suc i) (next n (dec i)) ∙ omega (arith, e i n)
