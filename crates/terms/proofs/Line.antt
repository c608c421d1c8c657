-- The line between two points: the degree on it lies between theirs, and within half a millionth of the exact value.
use mathlib.Core.Path.{◌≡◌, sym, ap, ◌∙◌}
use Prim.Native.Nat.{ℕ, ◌+◌, ◌*◌, ◌-◌, ◌≤◌, ◌<◌, min, max}
use native.Mathlib.Nat.{mul-le-mul_right, mul-add}
use native.Mathlib.Omega.{arith}
use lib.Dec.{le→leb, lt→ltb}
use lib.IntN.{ℤ, pos, ◌-ℤ◌}
use lib.Signed.{◌≤ℤ◌, ◌<ℤ◌}
use Rattle.model.specs.Bounds.{M}
use Rattle.model.specs.Block.{Point}
use Rattle.model.specs.Degrees.{nearest, on_line}
use Rattle.model.specs.Edges.{WithinHalf}
use Rattle.nearest_laws.proofs.Laws.{nearest_le, nearest_ge, nearest_upper, nearest_lower}
use Rattle.nearest_laws.proofs.Difference.{sub_pos}
use Rattle.crisp.specs.Crisp.{InCrisp, above}
use Rattle.crisp.proofs.Laws.{above_mono, above_lt, minus_is, distance_is}

-- over naturals: u and v are the two parts of the width w
module _ (u v w d1 d2 : ℕ) (width : u + v ≡ w) (some : 0 < w) where
  spread : (k : ℕ) → k * u + k * v ≡ k * w
  spread k = sym (mul-add k u v) ∙ ap (λ (x : ℕ). k * x) width

  mixed_ge : (k : ℕ) → k ≤ d1 → k ≤ d2 → k ≤ nearest (d1 * u + d2 * v) w
  mixed_ge k p q = nearest_ge k (d1 * u + d2 * v) w some (omega (arith, spread k, mul-le-mul_right u p, mul-le-mul_right v q))

  mixed_le : (k : ℕ) → d1 ≤ k → d2 ≤ k → nearest (d1 * u + d2 * v) w ≤ k
  mixed_le k p q = nearest_le k (d1 * u + d2 * v) w some (omega (arith, spread k, mul-le-mul_right u p, mul-le-mul_right v q))

-- a product of a degree and a distance
pub product_le : (d u : ℕ) → d ≤ M → u ≤ 2000000000 → d * u ≤ 2000000000000000
product_le d u h k = omega (arith, mul-le-mul_right u h)

module _ (x : ℤ) (p q : Point) (ix : InCrisp x) (ip : InCrisp p.at) (iq : InCrisp q.at) (from : p.at ≤ℤ x) (to : x <ℤ q.at) where
  after : above p.at ≤ above x
  after = above_mono p.at x ip ix from

  before : above x < above q.at
  before = above_lt x q.at ix iq to

  pub naturals : on_line x p q ≡ nearest (p.degree * (above q.at - above x) + q.degree * (above x - above p.at)) (above q.at - above p.at)
  naturals =
      let a = after in
      let b = before in
      rw (distance_is x q.at ix iq (omega arith), distance_is p.at x ip ix a, distance_is p.at q.at ip iq (omega arith))

  pub between : (min p.degree q.degree ≤ on_line x p q) × (on_line x p q ≤ max p.degree q.degree)
  between =
      let a = after in
      let b = before in
      let u = above q.at - above x in
      let v = above x - above p.at in
      let w = above q.at - above p.at in
      let e : u + v ≡ w = omega arith in
      let s : 0 < w = omega arith in
      rw naturals (
        mixed_ge u v w p.degree q.degree e s (min p.degree q.degree) (omega arith) (omega arith),
        mixed_le u v w p.degree q.degree e s (max p.degree q.degree) (omega arith) (omega arith),
      )

  pub within_half : WithinHalf (on_line x p q) x p q
  within_half =
      let a = after in
      let b = before in
      let u = above q.at - above x in
      let v = above x - above p.at in
      let w = above q.at - above p.at in
      let n = p.degree * u + q.degree * v in
      let eu : q.at -ℤ x ≡ pos u = minus_is x q.at ix iq ∙ sub_pos (above q.at) (above x) (omega arith) in
      let ev : x -ℤ p.at ≡ pos v = minus_is p.at x ip ix ∙ sub_pos (above x) (above p.at) a in
      let ew : q.at -ℤ p.at ≡ pos w = minus_is p.at q.at ip iq ∙ sub_pos (above q.at) (above p.at) (omega arith) in
      rw (naturals, eu, ev, ew) (
        record { le = le→leb (2 * (nearest n w * w)) (2 * n + w) (nearest_upper n w) },
        record { lt = lt→ltb (2 * n) (2 * (nearest n w * w) + w) (nearest_lower n w (omega arith)) },
      )
