-- The moment about the lowest crisp value is a natural number; the moment about 0 is that less the crisp limit times the sum.
use mathlib.Core.Path.{◌≡◌, refl, sym, ap, ◌∙◌}
use mathlib.Core.List.{List, [], ◌∷◌, ◌++◌}
use Prim.Native.Nat.{ℕ, suc, ◌+◌, ◌*◌, ◌<◌}
use native.Mathlib.Omega.{arith}
use lib.IntN.{ℤ, pos, sub_ℕ, ◌+ℤ◌, ◌*ℤ◌}
use lib.ListN.{length, get_or}
use Rattle.model.specs.Basic.{total}
use Rattle.model.specs.Bounds.{crisp_limit}
use Rattle.model.specs.Degrees.{nearest, nearestℤ}
use Rattle.model.specs.Evaluation.{moment, sum_of}
use Rattle.nearest_laws.proofs.Difference.{same, diff_add, diff_scale, diff_nearest}
use Rattle.crisp.specs.Crisp.{InCrisp, above}
use Rattle.crisp.proofs.Laws.{crisp_is}
use Rattle.centre.specs.Centre.{lifted}

pub uneven : {n : ℕ} → 0 ≡ suc n → ⊥
uneven e = omega arith

pub moment_is : (ps : List ℤ) (hs : List ℕ) → length ps ≡ length hs → ((k : ℕ) → k < length ps → InCrisp (get_or ps k (pos 0)))
    → moment ps hs ≡ sub_ℕ (lifted ps hs) (crisp_limit * sum_of hs)
unfolding moment lifted total
moment_is [] [] e c = refl
moment_is [] (h ∷ hs) e c = absurd (uneven e)
moment_is (p ∷ ps) [] e c = absurd (uneven (sym e))
moment_is (p ∷ ps) (h ∷ hs) e c =
    let a = above p in
    let n = lifted ps hs in
    let s = sum_of hs in
    ap (λ (z : ℤ). z *ℤ pos h +ℤ moment ps hs) (crisp_is p (c 0 (omega arith)))
    ∙ ap (λ (z : ℤ). z +ℤ moment ps hs) (diff_scale a crisp_limit h)
    ∙ ap (λ (z : ℤ). sub_ℕ (a * h) (crisp_limit * h) +ℤ z) (moment_is ps hs (omega arith) (λ k l. c (suc k) (omega arith)))
    ∙ diff_add (a * h) (crisp_limit * h) n (crisp_limit * s)
    ∙ same (a * h + n) (crisp_limit * h + crisp_limit * s) (a * h + n) (crisp_limit * (h + s)) (omega arith)

-- so the figure is the nearest above the lowest value, lowered
pub nearest_is : (ps : List ℤ) (hs : List ℕ) → length ps ≡ length hs → ((k : ℕ) → k < length ps → InCrisp (get_or ps k (pos 0))) → 0 < sum_of hs
    → nearestℤ (moment ps hs) (sum_of hs) ≡ sub_ℕ (nearest (lifted ps hs) (sum_of hs)) crisp_limit
nearest_is ps hs e c p = ap (λ (z : ℤ). nearestℤ z (sum_of hs)) (moment_is ps hs e c) ∙ diff_nearest (lifted ps hs) crisp_limit (sum_of hs) p

-- one singleton more
pub lifted_last : (ps : List ℤ) (hs : List ℕ) (p : ℤ) (h : ℕ) → length ps ≡ length hs → lifted (ps ++ (p ∷ [])) (hs ++ (h ∷ [])) ≡ lifted ps hs + above p * h
unfolding lifted
lifted_last [] [] p h e = omega arith
lifted_last [] (x ∷ hs) p h e = absurd (uneven e)
lifted_last (y ∷ ps) [] p h e = absurd (uneven (sym e))
lifted_last (y ∷ ps) (x ∷ hs) p h e = omega (arith, lifted_last ps hs p h (omega arith))
