-- The figure lies between the lowest and the highest position whose height is above zero.
use mathlib.Core.Path.{◌≡◌, sym, subst}
use mathlib.Core.List.{List, [], ◌∷◌}
use Prim.Native.Nat.{ℕ, zero, suc, ◌*◌, ◌≤◌, ◌<◌}
use native.Mathlib.Nat.{mul-le-mul_right, mul-add, mul-zero}
use native.Mathlib.Omega.{arith}
use lib.IntN.{ℤ, pos, sub_ℕ}
use lib.ListN.{length, get_or}
use lib.Signed.{◌≤ℤ◌}
use Rattle.model.specs.Basic.{total}
use Rattle.model.specs.Bounds.{crisp_limit}
use Rattle.model.specs.Degrees.{nearest, nearestℤ}
use Rattle.model.specs.Evaluation.{moment, sum_of}
use Rattle.nearest_laws.proofs.Laws.{nearest_ge, nearest_le}
use Rattle.crisp.specs.Crisp.{InCrisp, above}
use Rattle.crisp.proofs.Laws.{above_mono, crisp_is, diff_le}
use Rattle.centre.specs.Centre.{lifted}
use Rattle.centre.proofs.Moment.{uneven, nearest_is}

-- a height of 0 counts for nothing
times : (a b h : ℕ) → (0 < h → a ≤ b) → a * h ≤ b * h
times a b zero f = omega (arith, mul-zero a)
times a b (suc h) f = mul-le-mul_right (suc h) (f (omega arith))

low_lifted : (lo : ℕ) (ps : List ℤ) (hs : List ℕ) → length ps ≡ length hs
    → ((k : ℕ) → k < length ps → 0 < get_or hs k 0 → lo ≤ above (get_or ps k (pos 0))) → lo * sum_of hs ≤ lifted ps hs
unfolding total lifted
low_lifted lo [] [] e f = omega (arith, mul-zero lo)
low_lifted lo [] (h ∷ hs) e f = absurd (uneven e)
low_lifted lo (p ∷ ps) [] e f = absurd (uneven (sym e))
low_lifted lo (p ∷ ps) (h ∷ hs) e f =
    omega (arith, mul-add lo h (sum_of hs), low_lifted lo ps hs (omega arith) (λ k l. f (suc k) (omega arith)), times lo (above p) h (f 0 (omega arith)))

lifted_high : (hi : ℕ) (ps : List ℤ) (hs : List ℕ) → length ps ≡ length hs
    → ((k : ℕ) → k < length ps → 0 < get_or hs k 0 → above (get_or ps k (pos 0)) ≤ hi) → lifted ps hs ≤ hi * sum_of hs
unfolding total lifted
lifted_high hi [] [] e f = omega (arith, mul-zero hi)
lifted_high hi [] (h ∷ hs) e f = absurd (uneven e)
lifted_high hi (p ∷ ps) [] e f = absurd (uneven (sym e))
lifted_high hi (p ∷ ps) (h ∷ hs) e f =
    omega (arith, mul-add hi h (sum_of hs), lifted_high hi ps hs (omega arith) (λ k l. f (suc k) (omega arith)), times (above p) hi h (f 0 (omega arith)))

module _ (ps : List ℤ) (hs : List ℕ) (even : length ps ≡ length hs) (crisp : (k : ℕ) → k < length ps → InCrisp (get_or ps k (pos 0))) (some : 0 < sum_of hs) where
  pub from_low : (lo : ℤ) → InCrisp lo → ((k : ℕ) → k < length ps → 0 < get_or hs k 0 → lo ≤ℤ get_or ps k (pos 0)) → lo ≤ℤ nearestℤ (moment ps hs) (sum_of hs)
  from_low lo i f =
      let r = nearest (lifted ps hs) (sum_of hs) in
      let q : above lo ≤ r = nearest_ge (above lo) (lifted ps hs) (sum_of hs) some
      (low_lifted (above lo) ps hs even (λ k l h. above_mono lo (get_or ps k (pos 0)) i (crisp k l) (f k l h))) in
      rw (nearest_is ps hs even crisp some) (subst (λ (z : ℤ). z ≤ℤ sub_ℕ r crisp_limit) (sym (crisp_is lo i)) (diff_le (above lo) r crisp_limit q))

  pub to_high : (hi : ℤ) → InCrisp hi → ((k : ℕ) → k < length ps → 0 < get_or hs k 0 → get_or ps k (pos 0) ≤ℤ hi) → nearestℤ (moment ps hs) (sum_of hs) ≤ℤ hi
  to_high hi i f =
      let r = nearest (lifted ps hs) (sum_of hs) in
      let q : r ≤ above hi = nearest_le (above hi) (lifted ps hs) (sum_of hs) some
      (lifted_high (above hi) ps hs even (λ k l h. above_mono (get_or ps k (pos 0)) hi (crisp k l) i (f k l h))) in
      rw (nearest_is ps hs even crisp some) (subst (λ (z : ℤ). sub_ℕ r crisp_limit ≤ℤ z) (sym (crisp_is hi i)) (diff_le r (above hi) crisp_limit q))
