-- Digits from the last to the first; which of the digits behind the point are left.
use mathlib.Core.Path.{◌≡◌, refl, sym, ap, ◌∙◌}
use mathlib.Core.Bool.{Bool, true, false, and-false}
use mathlib.Core.List.{List, [], ◌∷◌, ◌++◌, append_assoc, append-nil}
use Prim.Native.Nat.{ℕ, zero, suc, ◌+◌, ◌*◌, ◌/◌, ◌%◌, ◌≤◌, ◌<◌}
use native.Mathlib.Omega.{arith}
use lib.Dec.{ltb}
use lib.ListN.{length}
use borrow.Author.Tests.{ltb-true, ltb-false, lt-ltb, le-ltb, ne_eqb}
use Rattle.model.specs.Listing.{digits_on, digits, trimmed}
use Rattle.number_listing.specs.LastDigits.{last_digit, last_two, last_three}
use Rattle.listing_writer.specs.declared.Listing.{Listing}
use Rattle.listing_writer.specs.Prepends.{Writes}
use Rattle.listing_writer.proofs.Prepends.{writes_joined, writes_nothing}

-- what stands behind stays behind; more steps than are needed change nothing
on_append : (k m n : ℕ) (s t : List ℕ) → n < k → n < m → digits_on k n (s ++ t) ≡ digits_on m n s ++ t
unfolding digits_on
on_append zero m n s t h l = absurd (omega arith)
on_append (suc k) zero n s t h l = absurd (omega arith)
on_append (suc k) (suc m) n s t h l = go (λ f g. on_append k m (n / 10) ((48 + n % 10) ∷ s) t f g) (ltb n 10) refl
  where
    c : List ℕ
    c = (48 + n % 10) ∷ s

    go : (n / 10 < k → n / 10 < m → digits_on k (n / 10) (c ++ t) ≡ digits_on m (n / 10) c ++ t) → (b : Bool) → ltb n 10 ≡ b
        → digits_on (suc k) n (s ++ t) ≡ digits_on (suc m) n s ++ t
    go ih true e = rw (e, digits_on) refl
    go ih false e = let g = ltb-false n 10 e in rw (e, digits_on) (ih (omega arith) (omega arith))

one_digit : (n : ℕ) → n < 10 → digits n ≡ (48 + n) ∷ []
unfolding digits digits_on
one_digit n h = rw (lt-ltb n 10 h, digits_on)

last_apart : (n : ℕ) → 10 ≤ n → digits n ≡ digits (n / 10) ++ ((48 + n % 10) ∷ [])
unfolding digits digits_on
last_apart n h = rw (le-ltb n 10 h, digits_on) (on_append n (suc (n / 10)) (n / 10) [] ((48 + n % 10) ∷ []) (omega arith) (omega arith))

-- WRITTEN SO FAR: the digits of n but those of m
abbrev pub Pending : ℕ → ℕ → Listing → Listing → Type 0
Pending n m old new = (s : List ℕ) × Writes s old new × (digits n ≡ digits m ++ s)

pub pending_all : (n : ℕ) (old : Listing) → Pending n n old old
pending_all n old = ([], writes_nothing old, sym (append-nil (digits n)))

module _ (n m : ℕ) {old mid new : Listing} where
  pub pending_less : 10 ≤ m → Pending n m old mid → Writes ((48 + m % 10) ∷ []) mid new → Pending n (m / 10) old new
  pending_less h (s, v, e) w =
      let c = (48 + m % 10) ∷ [] in
      (c ++ s, writes_joined v w, e ∙ ap (λ (l : List ℕ). l ++ s) (last_apart m h) ∙ append_assoc (digits (m / 10)) c s)

  pub pending_none : m < 10 → Pending n m old mid → Writes ((48 + m) ∷ []) mid new → Writes (digits n) old new
  pending_none h (s, v, e) w = rw (e ∙ ap (λ (l : List ℕ). l ++ s) (one_digit m h)) (writes_joined v w)

-- DIGITS BEHIND THE POINT
-- a zero is left out where nothing stands behind it
module _ (d : ℕ) (s : List ℕ) where
  left_out : d ≡ 0 → trimmed s ≡ [] → trimmed ((48 + d) ∷ s) ≡ []
  unfolding trimmed
  left_out h e = rw (h, e) refl

  kept : 0 < d + length (trimmed s) → trimmed ((48 + d) ∷ s) ≡ (48 + d) ∷ trimmed s
  unfolding trimmed
  kept h = go (trimmed s) refl
    where
      go : (t : List ℕ) → trimmed s ≡ t → trimmed ((48 + d) ∷ s) ≡ (48 + d) ∷ trimmed s
      go [] e = let z : 0 < d = omega (arith, ap length e) in rw (e, ne_eqb (48 + d) 48 (omega arith)) refl
      go (x ∷ t) e = rw (e, and-false) refl

  -- in numbers: a digit above 0 leaves something, and what is left of s stays
  left : d ≤ 9 → (d ≤ 9 * length (trimmed ((48 + d) ∷ s))) × (length (trimmed s) ≤ length (trimmed ((48 + d) ∷ s)))
  left h = go (ltb 0 (d + length (trimmed s))) refl
    where
      go : (b : Bool) → ltb 0 (d + length (trimmed s)) ≡ b
          → (d ≤ 9 * length (trimmed ((48 + d) ∷ s))) × (length (trimmed s) ≤ length (trimmed ((48 + d) ∷ s)))
      go true e = omega (arith, ap length (kept (ltb-true 0 (d + length (trimmed s)) e)))
      go false e = let l = ltb-false 0 (d + length (trimmed s)) e in omega arith

sums : (s b c l m : ℕ) → s ≡ 10 * b + c → c ≤ 9 * l → b ≤ 9 * m → l ≤ m → s ≤ 99 * m
sums s b c l m e h k t = omega arith

module _ (n : ℕ) where
  pub one_none : n % 10 ≡ 0 → trimmed (last_digit n) ≡ []
  unfolding trimmed
  one_none h = left_out (n % 10) [] h refl

  pub one_kept : 0 < n % 10 → trimmed (last_digit n) ≡ last_digit n
  unfolding trimmed
  one_kept h = kept (n % 10) [] (omega arith)

  pub two_none : n % 100 ≡ 0 → trimmed (last_two n) ≡ []
  two_none h = left_out (n / 10 % 10) (last_digit n) (omega arith) (one_none (omega arith))

  pub two_kept : 0 < n % 100 → trimmed (last_two n) ≡ (48 + n / 10 % 10) ∷ trimmed (last_digit n)
  two_kept h =
      let s : 0 < n / 10 % 10 + n % 10 = omega arith in
      let one = left (n % 10) [] (omega arith) in
      kept (n / 10 % 10) (last_digit n) (omega (arith, one))

  two_left : n % 100 ≤ 99 * length (trimmed (last_two n))
  two_left =
      let e : n % 100 ≡ 10 * (n / 10 % 10) + n % 10 = omega arith in
      let one = left (n % 10) [] (omega arith) in
      let two = left (n / 10 % 10) (last_digit n) (omega arith) in
      sums (n % 100) (n / 10 % 10) (n % 10) _ _ e one.0 two.0 two.1

  pub three_none : n % 1000 ≡ 0 → trimmed (last_three n) ≡ []
  three_none h = left_out (n / 100 % 10) (last_two n) (omega arith) (two_none (omega arith))

  pub three_kept : 0 < n % 1000 → trimmed (last_three n) ≡ (48 + n / 100 % 10) ∷ trimmed (last_two n)
  three_kept h =
      let s : 0 < n / 100 % 10 + n % 100 = omega arith in
      let t : n % 100 ≤ 99 * length (trimmed (last_two n)) = two_left in
      kept (n / 100 % 10) (last_two n) (omega arith)
