-- Numbers as text: what is printed is a number of its sort, and its value is what was printed.
use mathlib.Core.Path.{◌≡◌, refl, ap, ◌∙◌}
use mathlib.Core.List.{List, [], ◌∷◌, ◌++◌, append-nil}
use mathlib.Core.Bool.{Bool, true, false, ◌&&◌, and-false}
use Prim.Native.Nat.{ℕ, zero, suc, ◌+◌, ◌*◌, ◌/◌, ◌%◌, ◌≤◌, ◌<◌}
use native.Mathlib.Omega.{arith}
use lib.Dec.{leb, ltb, eqb}
use lib.IntN.{ℤ, pos, negsuc, neg_ℤ}
use lib.ListN.{length, take, drop}
use lib.Seq.{take-append_seam, drop-append-add}
use borrow.Author.Tests.{ltb-true, ltb-false, leb-true, eqb-true, le-leb, ne_eqb}
use Rattle.model.specs.Basic.{bytes, between, is_empty, all, run}
use Rattle.model.specs.Bounds.{M, crisp_limit, digit_limit, rule_number_least, rule_number_limit}
use Rattle.model.specs.Tokens.{is_digit, starts, unsigned, whole, fraction, decimal_from, decimal, magnitude, value_of, digits_fit, in_crisp, is_crisp, is_unit, unit_of, is_rule_number}
use Rattle.model.specs.Listing.{digits_on, digits, trimmed, after_point, thousandths_text, crisp_text, unit_text}
use Rattle.model.specs.WellFormed.{unit_ok}
use Rattle.laws.proofs.Tests.{both, and_i, clash}

-- DIGITS
-- what holds of a last digit, and of a number where it holds of the number without its last digit, holds of the digits
by_digits : (P : ℕ → List ℕ → List ℕ → Type 0)
    → ((n : ℕ) (s : List ℕ) → n < 10 → P n s ((48 + n) ∷ s))
    → ((n : ℕ) (s r : List ℕ) → 10 ≤ n → P (n / 10) ((48 + n % 10) ∷ s) r → P n s r)
    → (k n : ℕ) (s : List ℕ) → n < k → P n s (digits_on k n s)
unfolding digits_on
by_digits P f g zero n s h = absurd (omega arith)
by_digits P f g (suc k) n s h = go (λ m t l. by_digits P f g k m t l) (ltb n 10) refl
  where
    go : ((m : ℕ) (t : List ℕ) → m < k → P m t (digits_on k m t)) → (b : Bool) → ltb n 10 ≡ b → P n s (digits_on (suc k) n s)
    go ih true e = rw (e, digits_on) (f n s (ltb-true n 10 e))
    go ih false e =
        let l = ltb-false n 10 e in
        rw (e, digits_on) (g n s (digits_on k (n / 10) ((48 + n % 10) ∷ s)) l (ih (n / 10) ((48 + n % 10) ∷ s) (omega arith)))

digit : (m : ℕ) → m < 10 → is_digit (48 + m) ≡ true
digit m h = and_i (leb 48 (48 + m)) (leb (48 + m) 57) (le-leb 48 (48 + m) (omega arith)) (le-leb (48 + m) 57 (omega arith))

module _ (n : ℕ) where
  pub decimal_digits : decimal (digits n) ≡ n
  unfolding digits decimal_from
  decimal_digits =
      by_digits (λ n s r. decimal_from 0 r ≡ decimal_from n s)
      (λ n s h. ap (λ (m : ℕ). decimal_from m s) (omega arith))
      (λ n s r h e. e ∙ ap (λ (m : ℕ). decimal_from m s) (omega arith))
      (suc n) n [] (omega arith)

  pub digits_all : all is_digit (digits n) ≡ true
  unfolding digits all
  digits_all =
      by_digits (λ n s r. all is_digit s ≡ true → all is_digit r ≡ true)
      (λ n s h e. and_i (is_digit (48 + n)) (all is_digit s) (digit n h) e)
      (λ n s r h e a. e (and_i (is_digit (48 + n % 10)) (all is_digit s) (digit (n % 10) (omega arith)) a))
      (suc n) n [] (omega arith) refl

  pub digits_start : starts is_digit (digits n) ≡ true
  unfolding digits
  digits_start = by_digits (λ n s r. starts is_digit r ≡ true) (λ n s h. digit n h) (λ n s r h e. e) (suc n) n [] (omega arith)

-- ten to the power of k
abbrev pub tens : ℕ → ℕ
tens zero = 1
tens (suc k) = tens k * 10

pub digits_length : (m n : ℕ) → n < tens (suc m) → length (digits n) ≤ suc m
unfolding digits
digits_length m n h =
    let l = by_digits (λ n s r. (m : ℕ) → n < tens (suc m) → length r ≤ suc m + length s) one more (suc n) n [] (omega arith) m h in
    omega arith
  where
    one : (n : ℕ) (s : List ℕ) → n < 10 → (m : ℕ) → n < tens (suc m) → length ((48 + n) ∷ s) ≤ suc m + length s
    one n s h m l = omega arith

    more : (n : ℕ) (s r : List ℕ) → 10 ≤ n → ((m : ℕ) → n / 10 < tens (suc m) → length r ≤ suc m + suc (length s))
        → (m : ℕ) → n < tens (suc m) → length r ≤ suc m + length s
    more n s r h f zero l = absurd (omega arith)
    more n s r h f (suc m) l = let g = f m (omega arith) in omega arith

-- A RUN of bytes that pass, before one that does not
pub run_all : (f : ℕ → Bool) (w s : List ℕ) → all f w ≡ true → starts f s ≡ false → run f (w ++ s) ≡ length w
unfolding run all
run_all f [] [] a e = refl
run_all f [] (c ∷ s) a e = rw (e, run)
run_all f (c ∷ w) s a e =
    let b = both (f c) (all f w) a in
    rw (b.0, run) (ap suc (run_all f w s b.1 e))

-- THE DIGITS BEHIND THE POINT
-- needless zeros, put back
padded : (a b c : ℕ) → take 3 (trimmed (a ∷ b ∷ c ∷ []) ++ bytes "000") ≡ a ∷ b ∷ c ∷ []
unfolding trimmed
padded a b c = go (eqb a 48) (eqb b 48) (eqb c 48) refl refl refl
  where
    go : (x y z : Bool) → eqb a 48 ≡ x → eqb b 48 ≡ y → eqb c 48 ≡ z → take 3 (trimmed (a ∷ b ∷ c ∷ []) ++ bytes "000") ≡ a ∷ b ∷ c ∷ []
    go true true true e f g = rw (e, f, g) (rw (eqb-true a 48 e, eqb-true b 48 f, eqb-true c 48 g))
    go false true true e f g = rw (e, f, g) (rw (eqb-true b 48 f, eqb-true c 48 g))
    go x false true e f g = rw (f, g) (rw (and-false, eqb-true c 48 g))
    go x y false e f g = simp (g, and-false)

trimmed_keeps : (s : List ℕ) → all is_digit s ≡ true → (all is_digit (trimmed s) ≡ true) × (length (trimmed s) ≤ length s)
unfolding trimmed all
trimmed_keeps [] a = (refl, omega arith)
trimmed_keeps (c ∷ s) a = go (trimmed_keeps s (both (is_digit c) (all is_digit s) a).1) (eqb c 48 && is_empty (trimmed s)) refl
  where
    go : (all is_digit (trimmed s) ≡ true) × (length (trimmed s) ≤ length s) → (x : Bool) → eqb c 48 && is_empty (trimmed s) ≡ x
        → (all is_digit (trimmed (c ∷ s)) ≡ true) × (length (trimmed (c ∷ s)) ≤ length (c ∷ s))
    go t true e = rw e (refl, omega arith)
    go t false e = rw e (and_i (is_digit c) (all is_digit (trimmed s)) (both (is_digit c) (all is_digit s) a).0 t.0, omega arith)

module _ (n : ℕ) where
  -- the three digits behind the point, and those that are printed
  abbrev pub threes : List ℕ
  threes = (48 + n / 100 % 10) ∷ (48 + n / 10 % 10) ∷ (48 + n % 10) ∷ []

  abbrev pub behind : List ℕ
  behind = trimmed threes

  threes_all : all is_digit threes ≡ true
  unfolding all
  threes_all =
      and_i (is_digit (48 + n / 100 % 10)) _ (digit (n / 100 % 10) (omega arith))
      (and_i (is_digit (48 + n / 10 % 10)) _ (digit (n / 10 % 10) (omega arith))
      (and_i (is_digit (48 + n % 10)) true (digit (n % 10) (omega arith)) refl))

  pub behind_all : all is_digit behind ≡ true
  behind_all = (trimmed_keeps threes threes_all).0

  pub behind_length : length behind ≤ 3
  behind_length = (trimmed_keeps threes threes_all).1

  behind_value : decimal (take 3 (behind ++ bytes "000")) ≡ n % 1000
  unfolding decimal_from
  behind_value =
      let h : n / 100 ≡ n / 10 / 10 = omega arith in
      let t : n / 1000 ≡ n / 10 / 10 / 10 = omega arith in
      ap decimal (padded (48 + n / 100 % 10) (48 + n / 10 % 10) (48 + n % 10)) ∙ omega arith

pub point_stops : (f s : List ℕ) → starts is_digit s ≡ false → starts is_digit (after_point f ++ s) ≡ false
point_stops [] s e = e
point_stops (c ∷ f) s e = refl

point_ends : (f : List ℕ) → starts is_digit (after_point f) ≡ false
point_ends [] = refl
point_ends (c ∷ f) = refl

point_gone : (f : List ℕ) → drop 1 (after_point f) ≡ f
point_gone [] = refl
point_gone (c ∷ f) = refl

-- A NUMBER whose text without its sign is that of n thousandths
module _ (n : ℕ) (w : List ℕ) (e : unsigned w ≡ thousandths_text n) where
  wholes : run is_digit (unsigned w) ≡ length (digits (n / 1000))
  unfolding thousandths_text
  wholes =
      ap (run is_digit) e
      ∙ run_all is_digit (digits (n / 1000)) (after_point (behind n)) (digits_all (n / 1000)) (point_ends (behind n))

  whole_is : whole w ≡ digits (n / 1000)
  unfolding thousandths_text
  whole_is =
      (λ i. take (wholes i) (e i)) ∙ take-append_seam (digits (n / 1000)) (after_point (behind n))

  fraction_is : fraction w ≡ behind n
  unfolding thousandths_text
  fraction_is =
      let one : suc (length (digits (n / 1000))) ≡ length (digits (n / 1000)) + 1 = omega arith in
      (λ i. drop (suc (wholes i)) (e i))
      ∙ ap (λ (k : ℕ). drop k (digits (n / 1000) ++ after_point (behind n))) one
      ∙ drop-append-add (digits (n / 1000)) (after_point (behind n)) 1
      ∙ point_gone (behind n)

  magnitude_is : magnitude w ≡ n
  unfolding magnitude
  magnitude_is = rw (whole_is, fraction_is, decimal_digits, behind_value n) (omega arith)

  fits : n ≤ crisp_limit → digits_fit w ≡ true
  fits h =
      rw (whole_is, fraction_is)
      (and_i (leb (length (digits (n / 1000))) 7) (leb (length (behind n)) 3)
      (le-leb (length (digits (n / 1000))) 7 (digits_length 6 (n / 1000) (omega arith)))
      (le-leb (length (behind n)) 3 (behind_length n)))

-- a text that starts with a digit has no sign
no_sign : (w : List ℕ) → starts is_digit w ≡ true → (unsigned w ≡ w) × (starts (eqb 45) w ≡ false)
no_sign [] h = clash h
no_sign (c ∷ w) h =
    let l = leb-true 48 c (both (leb 48 c) (leb c 57) h).0 in
    (rw (ne_eqb c 43 (λ e. omega arith), ne_eqb c 45 (λ e. omega arith)), ne_eqb 45 c (λ e. omega arith))

pub thousandths_start : (n : ℕ) (s : List ℕ) → starts is_digit (thousandths_text n ++ s) ≡ true
unfolding thousandths_text
thousandths_start n s = go (digits (n / 1000)) (digits_start (n / 1000))
  where
    go : (w : List ℕ) → starts is_digit w ≡ true → starts is_digit ((w ++ after_point (behind n)) ++ s) ≡ true
    go [] h = clash h
    go (c ∷ w) h = h

plain : (n : ℕ) → (unsigned (thousandths_text n) ≡ thousandths_text n) × (starts (eqb 45) (thousandths_text n) ≡ false)
plain n = no_sign (thousandths_text n) (rw append-nil at (thousandths_start n []))

-- THE SORTS
pub value_crisp : (z : ℤ) → value_of (crisp_text z) ≡ z
unfolding value_of crisp_text
value_crisp (pos n) = rw (plain n).1 (ap pos (magnitude_is n (thousandths_text n) (plain n).0))
value_crisp (negsuc n) = ap (λ (m : ℕ). neg_ℤ (pos m)) (magnitude_is (suc n) (45 ∷ thousandths_text (suc n)) refl)

crisp_fits : (z : ℤ) → in_crisp z ≡ true → digits_fit (crisp_text z) ≡ true
unfolding crisp_text
crisp_fits (pos n) h = fits n (thousandths_text n) (plain n).0 (leb-true n crisp_limit h)
crisp_fits (negsuc n) h = fits (suc n) (45 ∷ thousandths_text (suc n)) refl (leb-true (suc n) crisp_limit h)

pub is_crisp_lem : (z : ℤ) → in_crisp z ≡ true → is_crisp (crisp_text z) ≡ true
unfolding is_crisp
is_crisp_lem z h = and_i (digits_fit (crisp_text z)) (in_crisp (value_of (crisp_text z))) (crisp_fits z h) (rw (value_crisp z) h)

module _ (d : ℕ) (h : unit_ok d ≡ true) where
  pub unit_facts : (d ≤ M) × (d % 1000 ≡ 0)
  unfolding unit_ok
  unit_facts = let b = both (leb d M) (eqb (d % 1000) 0) h in (leb-true d M b.0, eqb-true (d % 1000) 0 b.1)

  pub is_unit_lem : is_unit (unit_text d) ≡ true
  unfolding is_unit
  is_unit_lem =
      let f = unit_facts in
      let v : value_of (unit_text d) ≡ pos (d / 1000) = unfold crisp_text in value_crisp (pos (d / 1000)) in
      and_i (digits_fit (unit_text d)) _ (fits (d / 1000) (unit_text d) (plain (d / 1000)).0 (omega arith))
      (rw v (and_i (leb 0 (d / 1000)) (leb (d / 1000) 1000) (le-leb 0 (d / 1000) (omega arith)) (le-leb (d / 1000) 1000 (omega arith))))

  pub unit_back : unit_of (unit_text d) ≡ d
  unfolding unit_of
  unit_back = let f = unit_facts in ap (λ (m : ℕ). m * 1000) (magnitude_is (d / 1000) (unit_text d) (plain (d / 1000)).0) ∙ omega arith

pub is_rule_number_lem : (n : ℕ) → between rule_number_least rule_number_limit n ≡ true → is_rule_number (digits n) ≡ true
unfolding is_rule_number
is_rule_number_lem n h =
    let b = leb-true n rule_number_limit (both (leb rule_number_least n) (leb n rule_number_limit) h).1 in
    and_i (all is_digit (digits n)) _ (digits_all n)
    (and_i (leb (length (digits n)) digit_limit) _ (le-leb (length (digits n)) 7 (digits_length 6 n (omega arith))) (rw (decimal_digits n) h))
