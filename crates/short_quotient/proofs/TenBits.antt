-- Ten bits of a quotient in one number: the quotient in its lowest ten bits, what is left above them.
use Rattle.std.proofs.Common.{◌≡◌, ℕ, ◌+◌, ◌-◌, ◌*◌, ◌/◌, ◌%◌, ◌^◌, ◌<◌, ◌≤◌, sym, ap, ◌∙◌, subst, mod-eq_of_lt, mul_assoc, mul_comm, add-mul, mul-le-mul_left, mul-one, arith, pow_pos, pow_mono, pow-add}
use lib.Arith.{digits_div}
use Rattle.model.specs.Degrees.{nearest}

-- a over b, with k bits of the quotient open
pub record Open (a b r k : ℕ) : Type 0 where
  pub whole : r % 1024 * b + r / 1024 ≡ a
  pub left : r / 1024 < b * 2 ^ k
  pub room : r % 1024 + 2 ^ k ≤ 1024

pub begins : (a b : ℕ) → a < b * 1024 → Open a b (1024 * a) 10
begins a b h =
    let q : 1024 * a % 1024 ≡ 0 = omega arith in
    let l : 1024 * a / 1024 ≡ a = omega arith in
    record {
      whole = rw (q, l) (omega arith);
      left = rw l h;
      room = rw q (omega arith);
    }

-- the difference t of r and e, which wraps, is below 2 ^ 63 where e is at most r, and only there
module _ (t e r : ℕ) (w : (t + e) % 18446744073709551616 ≡ r) (ht : t < 18446744073709551616) (he : e < 9223372036854775808)
    (hr : r < 9223372036854775808) where
  not_negative : t < 9223372036854775808 → (e ≤ r) × (t ≡ r - e)
  not_negative h = (omega arith, omega arith)

  negative : 9223372036854775808 ≤ t → r < e
  negative h = omega arith

-- ONE TURN: the divisor above ten bits, less one, shifted by k
module _ (a b r k : ℕ) (p : 0 < b) (h : b < 8796093022208) (j : k ≤ 9) (o : Open a b r (k + 1)) where
  abbrev d : ℕ
  d = 1024 * b - 1

  some : 0 < 2 ^ k
  some = pow_pos k

  power : 2 ^ (k + 1) ≡ 2 * 2 ^ k
  power = omega (arith, pow-add 2 k 1)

  double : b * 2 ^ (k + 1) ≡ 2 * (b * 2 ^ k)
  double = omega (arith, ap (λ (x : ℕ). b * x) (pow-add 2 k 1), mul_assoc b (2 ^ k) 2)

  shifted : d * 2 ^ k + 2 ^ k ≡ 1024 * (b * 2 ^ k)
  shifted =
      let e : d + 1 ≡ 1024 * b = omega arith in
      omega (arith, add-mul d 1 (2 ^ k), ap (λ (x : ℕ). x * 2 ^ k) e, mul_assoc 1024 b (2 ^ k))

  few : d * 2 ^ k < 9223372036854775808
  few =
      let q : 2 ^ k ≤ 512 = pow_mono j in
      omega (arith, mul-le-mul_left d q)

  whole_shift : d * 2 ^ k % 18446744073709551616 ≡ d * 2 ^ k
  whole_shift = mod-eq_of_lt (omega (arith, few))

  fits : r < 9223372036854775808
  fits =
      let q : 2 ^ k ≤ 512 = pow_mono j in
      omega (arith, mul-le-mul_left b q, double, o.left)

  less : d * 2 ^ k ≤ r → Open a b (r - d * 2 ^ k) k
  less g =
      let q : (r - d * 2 ^ k) % 1024 ≡ r % 1024 + 2 ^ k = omega (arith, shifted, power, some, o.room) in
      let l : (r - d * 2 ^ k) / 1024 + b * 2 ^ k ≡ r / 1024 = omega (arith, shifted, power, some, o.room) in
      record {
        whole = rw q (omega (arith, l, add-mul (r % 1024) (2 ^ k) b, mul_comm b (2 ^ k), o.whole));
        left = omega (arith, l, double, o.left);
        room = rw q (omega (arith, power, o.room));
      }

  pub taken : (t : ℕ) → (t + d * 2 ^ k % 18446744073709551616) % 18446744073709551616 ≡ r
      → t < 9223372036854775808 → Open a b t k
  taken t w g =
      let n = not_negative t (d * 2 ^ k) r (rw whole_shift at w) (omega arith) few fits g in
      rw n.1 (less n.0)

  pub kept : (t : ℕ) → (t + d * 2 ^ k % 18446744073709551616) % 18446744073709551616 ≡ r
      → t < 18446744073709551616 → 9223372036854775808 ≤ t → Open a b r k
  kept t w l g =
      let n = negative t (d * 2 ^ k) r (rw whole_shift at w) l few fits g in
      record {
        whole = o.whole;
        left = omega (arith, n, shifted);
        room = omega (arith, power, o.room);
      }

-- a turn is of the highest bit that is open, and after the last none is
pub highest : (a b r k : ℕ) → 0 < k → Open a b r k → Open a b r (k - 1 + 1)
highest a b r k p o = let e : k ≡ k - 1 + 1 = omega arith in subst (Open a b r) e o

pub closed : (a b r k : ℕ) → k ≤ 0 → Open a b r k → (r % 1024 * b + r / 1024 ≡ a) × (r / 1024 < b)
closed a b r k p o =
    let e : k ≡ 0 = omega arith in
    let c = subst (Open a b r) e o in
    (c.whole, omega (arith, c.left, mul-one b))

-- TWICE TEN BITS, of 2a + b by 2b: the higher ones by h, then what is left by l
pub joined : (a b h l : ℕ) → h % 1024 * (2048 * b) + h / 1024 ≡ 2 * a + b → l % 1024 * (2 * b) + l / 1024 ≡ h / 1024 → l / 1024 < 2 * b
    → h % 1024 * 1024 + l % 1024 ≡ nearest a b
joined a b h l eh el less =
    let q = h % 1024 * 1024 + l % 1024 in
    let m : 1024 * (2 * b) ≡ 2048 * b = omega arith in
    let e : q * (2 * b) + l / 1024 ≡ 2 * a + b =
    omega (arith, add-mul (h % 1024 * 1024) (l % 1024) (2 * b), mul_assoc (h % 1024) 1024 (2 * b), ap (λ (x : ℕ). h % 1024 * x) m, eh, el) in
    sym (ap (λ (x : ℕ). x / (2 * b)) (sym e) ∙ digits_div q less)

-- what a turn takes away, taken up again
pub wrapped : (r x : ℕ) → r < 18446744073709551616
    → ((r + (18446744073709551616 - x % 18446744073709551616)) % 18446744073709551616 + x % 18446744073709551616) % 18446744073709551616 ≡ r
wrapped r x h = omega arith
