-- Names, crisp values and codes as words, read back.
use mathlib.Core.Path.{◌≡◌, refl, ap, ◌∙◌}
use mathlib.Core.Bool.{Bool, true, false, ◌&&◌, ◌||◌, not}
use mathlib.Core.List.{List, [], ◌∷◌, ◌++◌}
use Prim.Native.Nat.{ℕ, zero, suc, ◌+◌, ◌*◌, ◌-◌, ◌/◌, ◌%◌, ◌≤◌, ◌<◌}
use native.Mathlib.Omega.{arith}
use borrow.Author.Tests.{leb-true, eqb-true, eq-eqb, ne_eqb, lt-ltb, le-ltb}
use lib.Dec.{leb, eqb}
use lib.IntN.{ℤ, pos, negsuc}
use lib.ListN.{length, take, get_or}
use Rattle.model.specs.Basic.{between, all, run, gather, tab}
use Rattle.model.specs.Bounds.{crisp_limit, name_limit}
use Rattle.model.specs.Keywords.{is_keyword}
use Rattle.model.specs.Tokens.{starts_name, is_digit, is_name_byte, is_underscore, starts, tidy, is_name, in_crisp}
use Rattle.model.specs.Image.{word_bytes, bytes_of, word_at, crisp_word, crisp_of, name_words, name_at}
use Rattle.laws.proofs.Tests.{both}
use Rattle.laws.proofs.Places.{At, tab_at}
use Rattle.laws.proofs.Each.{Each, each_passes, each_so, each_at}

-- NAMES
either : (a b : Bool) {X : Type 0} → a || b ≡ true → (a ≡ true → X) → (b ≡ true → X) → X
either true b h f g = f refl
either false b h f g = g h

ranged : (a b c : ℕ) → 0 < a → b < 256 → between a b c ≡ true → (0 < c) × (c < 256)
ranged a b c p q h =
    let r = both (leb a c) (leb c b) h in
    let l : a ≤ c = leb-true a c r.0 in
    let m : c ≤ b = leb-true c b r.1 in
    (omega arith, omega arith)

name_byte : (c : ℕ) → is_name_byte c ≡ true → (0 < c) × (c < 256)
name_byte c h =
    either (starts_name c) (is_digit c) h
    (λ s. either (between 65 90 c) (between 97 122 c || is_underscore c) s (ranged 65 90 c (omega arith) (omega arith))
    (λ t. either (between 97 122 c) (is_underscore c) t (ranged 97 122 c (omega arith) (omega arith))
    (λ u. let e : c ≡ 95 = eqb-true c 95 u in (omega arith, omega arith))))
    (ranged 48 57 c (omega arith) (omega arith))

-- at most 16 bytes, none of them zero
pub record Spelt (n : List ℕ) : Type 0 where
  pub few : length n ≤ name_limit
  pub all : Each (λ c. (0 < c) × (c < 256)) n

pub spelt : (n : List ℕ) → is_name n ≡ true → Spelt n
unfolding is_name
spelt n h =
    let a = both (starts starts_name n) (all is_name_byte n && (tidy n && (leb (length n) name_limit && not (is_keyword n)))) h in
    let b = both (all is_name_byte n) (tidy n && (leb (length n) name_limit && not (is_keyword n))) a.1 in
    let c = both (tidy n) (leb (length n) name_limit && not (is_keyword n)) b.1 in
    let d = both (leb (length n) name_limit) (not (is_keyword n)) c.1 in
    record { few = leb-true _ _ d.0; all = each_so name_byte n (each_passes is_name_byte n b.0) }

pub below : {n : List ℕ} → Spelt n → (k : ℕ) → get_or n k 0 < 256
below {n} s = each_at (λ c. c < 256) 0 (omega arith) n (each_so (λ c h. h.1) n s.all)

spread : (a b c d : ℕ) → a < 256 → b < 256 → c < 256 → word_bytes (a + b * 256 + c * 65536 + d * 16777216) ≡ a ∷ b ∷ c ∷ d ∷ []
spread a b c d p q r =
    let x = a + b * 256 + c * 65536 + d * 16777216 in
    let d1 : x / 256 ≡ b + c * 256 + d * 65536 = omega arith in
    let d2 : x / 65536 ≡ c + d * 256 = omega arith in
    let qa : x % 256 ≡ a = omega arith in
    let qb : x / 256 % 256 ≡ b = rw d1 (omega arith) in
    let qc : x / 65536 % 256 ≡ c = rw d2 (omega arith) in
    let qd : x / 16777216 ≡ d = omega arith in
    λ j. qa j ∷ qb j ∷ qc j ∷ qd j ∷ []

-- the 16 bytes of a name's words
name_bytes : (n : List ℕ) → Spelt n → bytes_of (name_words n) ≡ tab (λ k. get_or n k 0) 16 0
unfolding bytes_of gather name_words word_at tab
name_bytes n s =
    let g = below s in
    let e : (k : ℕ) → word_bytes (word_at n k) ≡ get_or n (k * 4) 0 ∷ get_or n (k * 4 + 1) 0 ∷ get_or n (k * 4 + 2) 0 ∷ get_or n (k * 4 + 3) 0 ∷ [] =
    λ k. spread _ _ _ _ (g (k * 4)) (g (k * 4 + 1)) (g (k * 4 + 2)) in
    λ j. e 0 j ++ (e 1 j ++ (e 2 j ++ (e 3 j ++ [])))

-- the bytes before the first zero
abbrev before : List ℕ → List ℕ
before l = take (run (λ c. not (eqb c 0)) l) l

before_more : (c : ℕ) (l : List ℕ) → eqb c 0 ≡ false → before (c ∷ l) ≡ c ∷ before l
unfolding run
before_more c l e = rw (e, run)

before_stop : (c : ℕ) (l : List ℕ) → eqb c 0 ≡ true → before (c ∷ l) ≡ []
unfolding run
before_stop c l e = rw (e, run)

front : (f : ℕ → ℕ) (n : List ℕ) (m i : ℕ) → length n ≤ m → Each (λ c. (0 < c) × (c < 256)) n → ((k : ℕ) → f (i + k) ≡ get_or n k 0) → before (tab f m i) ≡ n
unfolding tab run
front f [] zero i l h e = refl
front f [] (suc m) i l h e = before_stop (f i) (tab f m (suc i)) (eq-eqb (f i) 0 (ap f (omega arith) ∙ e 0))
front f (c ∷ n) zero i l h e = absurd (omega arith)
front f (c ∷ n) (suc m) i l h e =
    let q : f i ≡ c = ap f (omega arith) ∙ e 0 in
    let z : eqb (f i) 0 ≡ false = ne_eqb (f i) 0 (λ x. omega (arith, h.0.0)) in
    let r = front f n m (suc i) (omega arith) h.1 (λ k. ap f (omega arith) ∙ e (suc k)) in
    before_more (f i) (tab f m (suc i)) z ∙ (λ j. q j ∷ r j)

pub name_back : (w : ℕ → ℕ) (o : ℕ) (n : List ℕ) → Spelt n → At w o (name_words n) → name_at w o ≡ n
unfolding name_at name_words
name_back w o n s a =
    ap (λ (l : List ℕ). before (bytes_of l)) (tab_at w o (name_words n) a)
    ∙ ap before (name_bytes n s)
    ∙ front (λ k. get_or n k 0) n 16 0 s.few s.all (λ k. ap (λ (i : ℕ). get_or n i 0) (omega arith))

-- CRISP VALUES
pub crisp_back : (z : ℤ) → in_crisp z ≡ true → crisp_of (crisp_word z) ≡ z
unfolding crisp_of
crisp_back (pos n) h =
    let l : n ≤ crisp_limit = leb-true _ _ h in
    let q : n < 2147483648 = omega arith in
    simp (lt-ltb n 2147483648 q)
crisp_back (negsuc n) h =
    let l : suc n ≤ crisp_limit = leb-true _ _ h in
    let q : 2147483648 ≤ 4294967295 - n = omega arith in
    let r : 4294967295 - (4294967295 - n) ≡ n = omega arith in
    simp (le-ltb (4294967295 - n) 2147483648 q, r)
