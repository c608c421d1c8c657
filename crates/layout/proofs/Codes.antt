-- Words of the header that stand for one of a few values: each up to a bound is the code of what it stands for, and no other is.
use mathlib.Core.Path.{◌≡◌, refl, sym, ap, ◌∙◌, subst}
use mathlib.Core.Bool.{true}
use Prim.Native.Nat.{ℕ, suc, ◌+◌, ◌≤◌}
use native.Mathlib.Omega.{arith}
use lib.Dec.{eqb}
use borrow.Author.Tests.{eqb-true}
use Rattle.model.specs.Basic.{all, tab}
use Rattle.model.specs.declared.Pair.{Pair}
use Rattle.model.specs.declared.Pair.TheVariants.{MinMax, ProdAsum, BdifBsum}
use Rattle.model.specs.declared.Accumulation.{Accumulation}
use Rattle.model.specs.declared.Accumulation.TheVariants.{Max, Bsum}
use Rattle.model.specs.declared.Activation.{Activation}
use Rattle.model.specs.declared.Activation.TheVariants.{Min, Prod}
use Rattle.model.specs.Image.{pair_word, pair_of, accu_word, accu_of, act_word, act_of}
use Rattle.laws.proofs.Lists.{all_at}

module _ {A : Type 0} (word_of : A → ℕ) (value_of : ℕ → A) (n : ℕ) where
  -- by a test that is computed
  code : all (λ x. eqb (word_of (value_of x)) x) (tab (λ x. x) (suc n) 0) ≡ true → (x : ℕ) → x ≤ n → word_of (value_of x) ≡ x
  code t x h =
      let e : 0 + x ≡ x = omega arith in
      eqb-true _ _ (sym (ap (λ (k : ℕ). eqb (word_of (value_of k)) k) e) ∙ all_at (λ x. eqb (word_of (value_of x)) x) (λ x. x) (suc n) 0 x (omega arith) t)

  code_small : ((a : A) → word_of a ≤ n) → (x : ℕ) → word_of (value_of x) ≡ x → x ≤ n
  code_small s x h = subst (λ (m : ℕ). m ≤ n) h (s (value_of x))

pub pair_code : (x : ℕ) → x ≤ 2 → pair_word (pair_of x) ≡ x
unfolding all tab
pair_code = code pair_word pair_of 2 refl

pub accu_code : (x : ℕ) → x ≤ 1 → accu_word (accu_of x) ≡ x
unfolding all tab
accu_code = code accu_word accu_of 1 refl

pub act_code : (x : ℕ) → x ≤ 1 → act_word (act_of x) ≡ x
unfolding all tab
act_code = code act_word act_of 1 refl

pairs_small : (p : Pair) → pair_word p ≤ 2
pairs_small MinMax = omega arith
pairs_small ProdAsum = omega arith
pairs_small BdifBsum = omega arith

accus_small : (a : Accumulation) → accu_word a ≤ 1
accus_small Max = omega arith
accus_small Bsum = omega arith

acts_small : (a : Activation) → act_word a ≤ 1
acts_small Min = omega arith
acts_small Prod = omega arith

pub pair_small : (x : ℕ) → pair_word (pair_of x) ≡ x → x ≤ 2
pair_small = code_small pair_word pair_of 2 pairs_small

pub accu_small : (x : ℕ) → accu_word (accu_of x) ≡ x → x ≤ 1
accu_small = code_small accu_word accu_of 1 accus_small

pub act_small : (x : ℕ) → act_word (act_of x) ≡ x → x ≤ 1
act_small = code_small act_word act_of 1 acts_small
