-- Bytes and words in capitals: every class of bytes, the spelling of a name and the kind of a word are as before.
use Rattle.std.specs.Prelude.{if◌then◌else◌}
use mathlib.Core.Path.{◌≡◌, refl, sym, ap, ◌∙◌}
use mathlib.Core.Bool.{Bool, true, false, ◌&&◌, ◌||◌, not, and-false}
use mathlib.Core.List.{List, [], ◌∷◌, map}
use Prim.Native.Nat.{ℕ, zero, suc, ◌+◌, ◌-◌, ◌≤◌, ◌<◌}
use native.Mathlib.Omega.{arith}
use borrow.Author.Tests.{le-leb, lt-leb, ne_eqb}
use lib.Dec.{leb, eqb}
use lib.ListN.{take, drop}
use Rattle.model.specs.Basic.{run, same, index_of, capital, capitals, alike}
use Rattle.model.specs.Keywords.{keywords, keyword_at, is_keyword, WRONG, NAME}
use Rattle.model.specs.Tokens.{is_blank, is_digit, is_underscore, starts_name, is_name_byte, is_sign, is_mark, starts, tidy, word_kind}
use Rattle.laws.proofs.Tests.{clash}
use Rattle.laws.proofs.Words.{by_case, capitals_again}

-- TESTS OF A BYTE that give the same for its capital
abbrev pub Same : (ℕ → Bool) → Type 0
Same f = (c : ℕ) → f (capital c) ≡ f c

-- tests that no letter passes, and nothing else from 65 on
abbrev pub Low : (ℕ → Bool) → Type 0
Low f = (c : ℕ) → 65 ≤ c → f c ≡ false

-- all letters give the same
all_letters : (f : ℕ → Bool) (b : Bool) → ((c : ℕ) → 65 ≤ c → c ≤ 90 → f c ≡ b) → ((c : ℕ) → 97 ≤ c → c ≤ 122 → f c ≡ b) → Same f
all_letters f b big small c = by_case (λ d. f d ≡ f c) c (λ l m. big (c - 32) (omega arith) (omega arith) ∙ sym (small c l m)) refl

low_same : (f : ℕ → Bool) → Low f → Same f
low_same f h = all_letters f false (λ c l m. h c l) (λ c l m. h c (omega arith))

-- a byte that passes is its own capital
low_own : (f : ℕ → Bool) → Low f → (c : ℕ) → f c ≡ true → capital c ≡ c
low_own f h c e = by_case (λ d. d ≡ c) c (λ l m. clash (sym (h c (omega arith)) ∙ e)) refl

or_false : {a b : Bool} → a ≡ false → b ≡ false → a || b ≡ false
or_false p q = rw (p, q)

low_is : (k : ℕ) → k < 65 → Low (λ c. eqb c k)
low_is k h c l = ne_eqb c k (λ e. omega arith)

low_to : (k : ℕ) → k < 65 → Low (eqb k)
low_to k h c l = ne_eqb k c (λ e. omega arith)

low_digit : Low is_digit
low_digit c l = rw (lt-leb c 57 (omega arith)) (and-false (leb 48 c))

low_sign : Low is_sign
low_sign c l = or_false (low_is 43 (omega arith) c l) (low_is 45 (omega arith) c l)

low_mark : Low is_mark
low_mark c l =
    or_false (low_is 40 (omega arith) c l) (or_false (low_is 41 (omega arith) c l)
    (or_false (low_is 44 (omega arith) c l) (or_false (low_is 58 (omega arith) c l) (low_is 59 (omega arith) c l))))

low_blank : Low is_blank
low_blank c l =
    or_false (low_is 32 (omega arith) c l) (or_false (low_is 9 (omega arith) c l)
    (or_false (low_is 13 (omega arith) c l) (low_is 10 (omega arith) c l)))

pub same_is : (k : ℕ) → k < 65 → Same (λ c. eqb c k)
same_is k h = low_same _ (low_is k h)

pub same_to : (k : ℕ) → k < 65 → Same (eqb k)
same_to k h = low_same _ (low_to k h)

pub same_digit : Same is_digit
same_digit = low_same is_digit low_digit

pub own_digit : (c : ℕ) → is_digit c ≡ true → capital c ≡ c
own_digit = low_own is_digit low_digit

pub same_sign : Same is_sign
same_sign = low_same is_sign low_sign

pub own_sign : (c : ℕ) → is_sign c ≡ true → capital c ≡ c
own_sign = low_own is_sign low_sign

pub own_point : (c : ℕ) → eqb c 46 ≡ true → capital c ≡ c
own_point = low_own (λ c. eqb c 46) (low_is 46 (omega arith))

pub same_mark : Same is_mark
same_mark = low_same is_mark low_mark

pub own_mark : (c : ℕ) → is_mark c ≡ true → capital c ≡ c
own_mark = low_own is_mark low_mark

pub same_blank : Same is_blank
same_blank = low_same is_blank low_blank

same_underscore : Same is_underscore
same_underscore = all_letters is_underscore false (λ c l m. ne_eqb c 95 (λ e. omega arith)) (λ c l m. ne_eqb c 95 (λ e. omega arith))

pub same_start : Same starts_name
same_start =
    all_letters starts_name true
    (λ c l m. rw (le-leb 65 c l, le-leb c 90 m))
    (λ c l m. rw (le-leb 65 c (omega arith), lt-leb c 90 (omega arith), le-leb 97 c l, le-leb c 122 m))

pub same_name_lem : Same is_name_byte
same_name_lem c = λ j. same_start c j || same_digit c j

-- LISTS OF BYTES
pub starts_caps : (f : ℕ → Bool) → Same f → (s : List ℕ) → starts f (capitals s) ≡ starts f s
starts_caps f h [] = refl
starts_caps f h (c ∷ s) = h c

pub run_caps : (f : ℕ → Bool) → Same f → (s : List ℕ) → run f (capitals s) ≡ run f s
unfolding run
run_caps f h [] = refl
run_caps f h (c ∷ s) = let e = run_caps f h s in λ j. elim (h c j) [ true ↦ suc (e j) | false ↦ 0 ]

module _ {A B : Type 0} (f : A → B) where
  pub take_map : (n : ℕ) (s : List A) → take n (map f s) ≡ map f (take n s)
  take_map zero s = refl
  take_map (suc n) [] = refl
  take_map (suc n) (x ∷ s) = ap (λ (l : List B). f x ∷ l) (take_map n s)

  pub drop_map : (n : ℕ) (s : List A) → drop n (map f s) ≡ map f (drop n s)
  drop_map zero s = refl
  drop_map (suc n) [] = refl
  drop_map (suc n) (x ∷ s) = drop_map n s

-- WORDS
tidy_caps : (w : List ℕ) → tidy (capitals w) ≡ tidy w
unfolding tidy
tidy_caps [] = refl
tidy_caps (c ∷ []) = ap not (same_underscore c)
tidy_caps (c ∷ d ∷ s) = let e = tidy_caps (d ∷ s) in λ j. not (same_underscore c j && same_underscore d j) && e j

alike_caps : (v w : List ℕ) → alike (capitals v) w ≡ alike v w
alike_caps v w = ap (λ (u : List ℕ). same u (capitals w)) (capitals_again v)

index_alike : (w : List ℕ) (ks : List (List ℕ)) → index_of (alike (capitals w)) ks ≡ index_of (alike w) ks
index_alike w [] = refl
index_alike w (k ∷ ks) = let e = index_alike w ks in λ j. elim (alike_caps w k j) [ true ↦ 0 | false ↦ suc (e j) ]

keyword_at_lem : (w : List ℕ) → keyword_at (capitals w) ≡ keyword_at w
keyword_at_lem w = index_alike w keywords

keyword_caps : (w : List ℕ) → is_keyword (capitals w) ≡ is_keyword w
unfolding is_keyword
keyword_caps w = rw (keyword_at_lem w)

pub kind_caps : (w : List ℕ) → word_kind (capitals w) ≡ word_kind w
unfolding word_kind
kind_caps w = λ j. if not (tidy_caps w j) then WRONG else if keyword_caps w j then 128 + keyword_at_lem w j else NAME
