-- Between a crisp value and its distance above the lowest one: back, bounds, order, difference.
use mathlib.Core.Path.{◌≡◌, refl, sym, ap, ◌∙◌, subst}
use mathlib.Core.Bool.{false, ◌&&◌, and-true}
use Prim.Native.Nat.{ℕ, suc, ◌+◌, ◌-◌, ◌≤◌, ◌<◌}
use native.Mathlib.Omega.{arith}
use native.Mathlib.Decide.{dec_le}
use borrow.Author.Tests.{le-leb}
use lib.Dec.{T, leb, ltb→lt, leb→le, le→leb, leb-suc-suc}
use lib.IntN.{ℤ, pos, negsuc, nat_abs, ◌+ℤ◌, ◌-ℤ◌, sub_ℕ}
use lib.Signed.{le_z, ◌<ℤ◌, ◌≤ℤ◌}
use mir.Syntax.{w32}
use mir.Val.{SFits}
use Rattle.model.specs.Bounds.{crisp_limit}
use Rattle.model.specs.Tokens.{in_crisp}
use Rattle.model.specs.Degrees.{distance}
use Rattle.nearest_laws.proofs.Difference.{sub_pos, by_sign, same, pos_is, negsuc_is, diff_neg, diff_add}
use Rattle.crisp.specs.Crisp.{InCrisp, above}

above_negsuc : (n : ℕ) → suc n ≤ crisp_limit → above (negsuc n) ≡ crisp_limit - suc n
above_negsuc n h = ap nat_abs (sub_pos crisp_limit (suc n) h)

pub above_is : (z : ℤ) → InCrisp z → z +ℤ pos crisp_limit ≡ pos (above z)
above_is (pos n) h = refl
above_is (negsuc n) h = sub_pos crisp_limit (suc n) h ∙ ap pos (sym (above_negsuc n h))

pub above_le : (z : ℤ) → InCrisp z → above z ≤ 2000000000
above_le (pos n) h = omega arith
above_le (negsuc n) h = omega (arith, above_negsuc n h)

pub crisp_is : (z : ℤ) → InCrisp z → z ≡ sub_ℕ (above z) crisp_limit
crisp_is (pos n) h = pos_is n ∙ same n 0 (n + crisp_limit) crisp_limit (omega arith)
crisp_is (negsuc n) h = negsuc_is n ∙ same 0 (suc n) (above (negsuc n)) crisp_limit (omega (arith, above_negsuc n h))

pub lowered : (n : ℕ) → n ≤ 2000000000 → InCrisp (sub_ℕ n crisp_limit)
lowered n h = by_sign InCrisp n crisp_limit (λ p. omega arith) (λ p. omega arith)

pub crisp_sfits : (z : ℤ) → InCrisp z → SFits w32 z
crisp_sfits (pos n) h = record { sfits = omega arith }
crisp_sfits (negsuc n) h = record { sfits = omega arith }

pub lifted_sfits : (z : ℤ) → InCrisp z → SFits w32 (z +ℤ pos crisp_limit)
lifted_sfits z h = rw (above_is z h) (record { sfits = omega (arith, above_le z h) })

leb_false : (m n : ℕ) → leb m n ≡ false → n ≤ m
leb_false m n h = go (dec_le n m)
  where
    go : Dec (n ≤ m) → n ≤ m
    go (yes p) = p
    go (no p) = absurd (subst T (sym (le-leb m n (omega arith)) ∙ h) tt)

-- the order of two crisp values is that of their distances
pub above_mono : (a b : ℤ) → InCrisp a → InCrisp b → a ≤ℤ b → above a ≤ above b
above_mono (pos m) (pos n) ha hb h = omega (arith, leb→le m n h.le)
above_mono (pos m) (negsuc n) ha hb h = absurd h.le
above_mono (negsuc m) (pos n) ha hb h = omega (arith, above_negsuc m ha)
above_mono (negsuc m) (negsuc n) ha hb h = omega (arith, above_negsuc m ha, above_negsuc n hb, leb→le n m h.le)

pub above_lt : (a b : ℤ) → InCrisp a → InCrisp b → a <ℤ b → above a < above b
above_lt (pos m) (pos n) ha hb h = omega (arith, ltb→lt m n h.lt)
above_lt (pos m) (negsuc n) ha hb h = absurd h.lt
above_lt (negsuc m) (pos n) ha hb h = omega (arith, above_negsuc m ha)
above_lt (negsuc m) (negsuc n) ha hb h = omega (arith, above_negsuc m ha, above_negsuc n hb, ltb→lt n m h.lt)

-- two differences from one number are ordered as what they are taken from
pub diff_le : (a b k : ℕ) → a ≤ b → sub_ℕ a k ≤ℤ sub_ℕ b k
diff_le a b k h = record {
  le = by_sign (λ (z : ℤ). T (le_z z (sub_ℕ b k))) a k
      (λ p. by_sign (λ (z : ℤ). T (le_z (pos (a - k)) z)) b k (λ q. le→leb (a - k) (b - k) (omega arith)) (λ q. absurd (no_way p q)))
      (λ p. by_sign (λ (z : ℤ). T (le_z (negsuc (k - suc a)) z)) b k (λ q. tt) (λ q. le→leb (k - suc b) (k - suc a) (omega arith)));
}
  where
    no_way : k ≤ a → b < k → ⊥
    no_way p q = omega arith

-- what `above_mono` says, back
pub at_most : (a b : ℤ) → InCrisp a → InCrisp b → above a ≤ above b → a ≤ℤ b
at_most a b ha hb h =
    subst (λ (z : ℤ). z ≤ℤ b) (sym (crisp_is a ha))
    (subst (λ (z : ℤ). sub_ℕ (above a) crisp_limit ≤ℤ z) (sym (crisp_is b hb)) (diff_le (above a) (above b) crisp_limit h))

-- the difference of two crisp values is that of their distances
pub minus_is : (a b : ℤ) → InCrisp a → InCrisp b → b -ℤ a ≡ sub_ℕ (above b) (above a)
minus_is a b ha hb =
    let m = above a in
    let n = above b in
    ap (λ (z : ℤ). z -ℤ a) (crisp_is b hb)
    ∙ ap (λ (z : ℤ). sub_ℕ n crisp_limit -ℤ z) (crisp_is a ha)
    ∙ ap (λ (z : ℤ). sub_ℕ n crisp_limit +ℤ z) (diff_neg m crisp_limit)
    ∙ diff_add n crisp_limit crisp_limit m
    ∙ same (n + crisp_limit) (crisp_limit + m) n m (omega arith)

pub distance_is : (a b : ℤ) → InCrisp a → InCrisp b → above a ≤ above b → distance a b ≡ above b - above a
distance_is a b ha hb h = ap nat_abs (minus_is a b ha hb ∙ sub_pos (above b) (above a) h)

pub not_at_most : (a b : ℤ) → le_z a b ≡ false → b ≤ℤ a
not_at_most (pos m) (pos n) h = record { le = le→leb n m (leb_false m n h) }
not_at_most (pos m) (negsuc n) h = record { le = tt }
not_at_most (negsuc m) (pos n) h = absurd (subst T h tt)
not_at_most (negsuc m) (negsuc n) h = record { le = le→leb m n (leb_false n m h) }

-- the crisp bounds as two comparisons
pub bounds : (z : ℤ) → in_crisp z ≡ le_z (negsuc 999999999) z && le_z z (pos 1000000000)
bounds (pos n) = refl
bounds (negsuc n) = leb-suc-suc n 999999999 ∙ sym (and-true (leb n 999999999))
