-- Numbers that are compared from the last rule on.
use mathlib.Core.Path.{◌≡◌, refl, sym, ap, ◌∙◌}
use mathlib.Core.List.{List}
use mathlib.Core.Bool.{Bool, true, false, not, and-false}
use Prim.Native.Nat.{ℕ, zero, suc, ◌+◌, ◌-◌, ◌%◌, ◌≤◌, ◌<◌}
use native.Mathlib.Omega.{arith}
use native.Mathlib.Nat.{sub-zero}
use borrow.Author.Tests.{ne_eqb, eqb-true, eqb-false}
use lib.Dec.{eqb}
use lib.ListN.{length, get_or, set}
use lib.Seq.{get_or-set_same, get_or-set_other}
use Rattle.model.specs.Basic.{all, distinct, tab}
use Rattle.laws.proofs.Tests.{and_i, clash}

-- none of the k numbers from s on is n
others : (f : ℕ → ℕ) (n k s : ℕ) → ((j : ℕ) → s ≤ j → j < s + k → n ≡ f j → ⊥) → all (λ y. not (eqb n y)) (tab f k s) ≡ true
unfolding all tab
others f n zero s q = refl
others f n (suc k) s q =
    and_i _ _ (ap not (ne_eqb n (f s) (q s (omega arith) (omega arith)))) (others f n k (suc s) (λ j a b. q j (omega arith) (omega arith)))

module _ (f : ℕ → ℕ) (e : ℕ) where
  -- the remainders of the numbers from the i-th on are marked
  abbrev pub Met : ℕ → List Bool → Type 0
  Met i l = (j : ℕ) → i ≤ j → j < e → get_or l (f j % 256) false ≡ true

  pub unmet : (n i : ℕ) (l : List Bool) → Met i l → get_or l (n % 256) false ≡ false → all (λ y. not (eqb n y)) (tab f (e - i) i) ≡ true
  unmet n i l q u =
      others f n (e - i) i (λ j a b t. clash (sym u ∙ ap (λ (x : ℕ). get_or l (x % 256) false) t ∙ q j a (omega arith)))

  pub met_more : (i : ℕ) (l : List Bool) → length l ≡ 256 → Met (i + 1) l → Met i (set l (f i % 256) true)
  met_more i l long q j low high = go (eqb (f j % 256) (f i % 256)) refl
    where
      go : (b : Bool) → eqb (f j % 256) (f i % 256) ≡ b → get_or (set l (f i % 256) true) (f j % 256) false ≡ true
      go true t = rw (eqb-true (f j % 256) (f i % 256) t) (get_or-set_same l (f i % 256) true false (omega (arith, long)))
      go false t =
          let other = eqb-false (f j % 256) (f i % 256) t in
          let apart : j ≡ i → ⊥ = λ s. other (ap (λ (x : ℕ). f x % 256) s) in
          get_or-set_other l (f i % 256) (f j % 256) true false other ∙ q j (omega arith) high

  pub distinct_less : (i : ℕ) → i ≤ e → distinct eqb (tab f (e - i) i) ≡ false → distinct eqb (tab f e 0) ≡ false
  unfolding distinct tab
  distinct_less zero h q = rw sub-zero at q
  distinct_less (suc i) h q =
      let s : e - i ≡ suc (e - suc i) = omega arith in
      distinct_less i (omega arith) (rw s (simp (q, and-false)))
