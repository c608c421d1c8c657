-- Each pair stays a degree, as the heights do, and obeys De Morgan's laws, exactly.
use mathlib.Core.Path.{◌≡◌, ap, ◌∙◌}
use Prim.Native.Nat.{ℕ, ◌+◌, ◌*◌, ◌≤◌}
use native.Mathlib.Nat.{mul-le-mul_left, mul-le-mul_right, mul-add, add-mul, mul_comm}
use native.Mathlib.Omega.{arith}
use Rattle.model.specs.Bounds.{M}
use Rattle.model.specs.Block.{Op, and, or}
use Rattle.model.specs.declared.Pair.{Pair}
use Rattle.model.specs.declared.Pair.TheVariants.{MinMax, ProdAsum, BdifBsum}
use Rattle.model.specs.Degrees.{not_of, prod_of, pairs}
use Rattle.model.specs.Evaluation.{accumulated}
use Rattle.model.specs.declared.Accumulation.{Accumulation}
use Rattle.model.specs.declared.Accumulation.TheVariants.{Max, Bsum}
use Rattle.nearest_laws.proofs.Laws.{nearest_le}

prod_le : (a b : ℕ) → a ≤ M → b ≤ M → prod_of a b ≤ a
prod_le a b ha hb = nearest_le a (a * b) M (omega arith) (mul-le-mul_left a hb)

prod_le_r : (a b : ℕ) → a ≤ M → b ≤ M → prod_of a b ≤ b
prod_le_r a b ha hb = nearest_le b (a * b) M (omega arith) (omega (arith, mul-le-mul_right b ha, mul_comm M b))

-- each product is one unknown to omega
products : (a b : ℕ) → a ≤ M → b ≤ M → not_of a * not_of b + M * (a + b) ≡ M * M + a * b
products a b ha hb =
    let ea : a + not_of a ≡ M = omega arith in
    let eb : b + not_of b ≡ M = omega arith in
    omega (arith, mul-add a b (not_of b), add-mul a (not_of a) (not_of b), ap (λ (x : ℕ). a * x) eb, ap (λ (x : ℕ). x * not_of b) ea)

-- rounding commutes with the whole number that the complements add
prod_not : (a b : ℕ) → a ≤ M → b ≤ M → prod_of (not_of a) (not_of b) + (a + b) ≡ M + prod_of a b
prod_not a b ha hb = omega (arith, products a b ha hb)

pub prod_fits : (a b : ℕ) → a ≤ M → b ≤ M → (a * b ≤ 1000000000000) × (prod_of a b ≤ a) × (prod_of a b ≤ b) × (a + b ≤ M + prod_of a b)
prod_fits a b ha hb = (
  omega (arith, mul-le-mul_left a hb),
  prod_le a b ha hb,
  prod_le_r a b ha hb,
  omega (arith, prod_not a b ha hb),
)

pub pair_degree : (p : Pair) (o : Op) (a b : ℕ) → a ≤ M → b ≤ M → pairs p o a b ≤ M
pair_degree MinMax and a b ha hb = omega arith
pair_degree MinMax or a b ha hb = omega arith
pair_degree ProdAsum and a b ha hb = omega (arith, prod_fits a b ha hb)
pair_degree ProdAsum or a b ha hb = omega (arith, prod_fits a b ha hb)
pair_degree BdifBsum and a b ha hb = omega arith
pair_degree BdifBsum or a b ha hb = omega arith

pub not_and : (p : Pair) (a b : ℕ) → a ≤ M → b ≤ M → not_of (pairs p and a b) ≡ pairs p or (not_of a) (not_of b)
not_and MinMax a b ha hb = omega arith
not_and ProdAsum a b ha hb = omega (arith, prod_not a b ha hb, prod_fits a b ha hb)
not_and BdifBsum a b ha hb = omega arith

-- from the other law, for every pair
pub not_or : (p : Pair) (a b : ℕ) → a ≤ M → b ≤ M → not_of (pairs p or a b) ≡ pairs p and (not_of a) (not_of b)
not_or p a b ha hb =
    let na : not_of a ≤ M = omega arith in
    let nb : not_of b ≤ M = omega arith in
    let ea : not_of (not_of a) ≡ a = omega arith in
    let eb : not_of (not_of b) ≡ b = omega arith in
    let e : not_of (pairs p and (not_of a) (not_of b)) ≡ pairs p or a b =
    not_and p (not_of a) (not_of b) na nb ∙ ap (λ (x : ℕ). pairs p or x (not_of (not_of b))) ea ∙ ap (pairs p or a) eb in
    omega (arith, pair_degree p and (not_of a) (not_of b) na nb)

pub accumulated_degree : (k : Accumulation) (h d : ℕ) → h ≤ M → d ≤ M → accumulated k h d ≤ M
accumulated_degree Max h d hh hd = omega arith
accumulated_degree Bsum h d hh hd = omega arith
