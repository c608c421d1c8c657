-- Two words byte by byte, words that are no keyword, and keywords by their slots.
use mathlib.Core.Path.{◌≡◌, refl, sym, ap, ◌∙◌}
use mathlib.Core.List.{List, [], ◌∷◌, map}
use mathlib.Core.Bool.{Bool, true, false, ◌&&◌, not, and-false}
use Prim.Native.Nat.{ℕ, zero, suc, ◌+◌, ◌-◌, ◌*◌, ◌/◌, ◌%◌, ◌^◌, ◌≤◌, ◌<◌}
use native.Mathlib.Nat.{mul-add, mul-add-mod_self_right}
use native.Mathlib.Numerals.{add-one}
use native.Mathlib.Omega.{arith}
use borrow.Author.Tests.{eq-eqb, ne_eqb, eqb-true, eqb-false, ltb-true, leb-true, not-true}
use lib.Arith.{lt_of_le-ne}
use lib.Dec.{eqb, leb, ltb}
use lib.ListN.{length, take, drop, get_or, drop_of_length-le}
use lib.Seq.{drop-cons, slice}
use Rattle.model.specs.Basic.{all, capital, capitals, same, alike, index_of, tab}
use Rattle.model.specs.Keywords.{keywords, keyword_at}
use Rattle.laws.proofs.Finding.{all_map}
use Rattle.laws.proofs.Lists.{all_at}
use Rattle.laws.proofs.Places.{same_eq}
use Rattle.laws.proofs.Slices.{part}
use Rattle.laws.proofs.Tests.{both, clash}
use Rattle.laws.proofs.Words.{by_case, length_capitals, byte_capitals, capitals_again, low_bits}
use Rattle.keywords.specs.Slots.{keyword_count, slot_of, group_of, joined, size_of, start_of, row_at, slot_row, first_of, row_in, may_be, Others}
use Rattle.keywords.specs.declared.Row.{Row}

module _ (w t : List ℕ) (k : ℕ) where
  pub same_end : length w ≤ k → length t ≤ k → alike (drop k w) (drop k t) ≡ true
  same_end h g = rw (drop_of_length-le w h, drop_of_length-le t g) refl

  module _ (hw : k < length w) (ht : k < length t) where
    pub same_more : eqb (capital (get_or w k 0)) (capital (get_or t k 0)) ≡ true → alike (drop k w) (drop k t) ≡ alike (drop (k + 1) w) (drop (k + 1) t)
    same_more e = rw (add-one, drop-cons w k 0 hw, drop-cons t k 0 ht) (simp e)

    pub same_stop : eqb (capital (get_or w k 0)) (capital (get_or t k 0)) ≡ false → alike (drop k w) (drop k t) ≡ false
    same_stop e = rw (drop-cons w k 0 hw, drop-cons t k 0 ht) (simp e)

-- a word that fails a test without case which the others pass is none of them
pub unlike : (f : List ℕ → Bool) → ((v : List ℕ) → f (capitals v) ≡ f v) → (w : List ℕ) → f w ≡ false → (ks : List (List ℕ)) → all f ks ≡ true
    → index_of (alike w) ks ≡ length ks
unfolding all
unlike f c w q [] e = refl
unlike f c w q (k ∷ ks) e = go (both (f k) (all f ks) e) (unlike f c w q ks) (alike w k) refl
  where
    go : (f k ≡ true) × (all f ks ≡ true) → (all f ks ≡ true → index_of (alike w) ks ≡ length ks) → (b : Bool) → alike w k ≡ b
        → index_of (alike w) (k ∷ ks) ≡ length (k ∷ ks)
    go t ih true p = clash (sym q ∙ sym (c w) ∙ ap f (same_eq (capitals w) (capitals k) p) ∙ c k ∙ t.0)
    go t ih false p = rw (index_of, p) (ap suc (ih t.1))

-- LENGTHS: a bit for each that a keyword has
abbrev length_bits : ℕ
length_bits = 290556

pub no_length : (w : List ℕ) → length_bits / 2 ^ length w % 2 ≡ 0 → keyword_at w ≡ keyword_count
unfolding all
no_length w h =
    unlike (λ k. not (eqb (length_bits / 2 ^ length k % 2) 0)) (λ v. ap (λ (n : ℕ). not (eqb (length_bits / 2 ^ n % 2) 0)) (length_capitals v)) w
    (simp (eq-eqb _ _ h)) keywords refl

pub some_length : (n : ℕ) → (length_bits / 2 ^ n % 2 ≡ 0 → ⊥) → 0 < n
some_length zero f = absurd (f refl)
some_length (suc n) f = omega arith

-- SLOTS WITHOUT CASE: 32 times such a factor is nothing by 256
folded : (m k c n : ℕ) → m * 32 ≡ k * 256 → (n + m * capital c) % 256 ≡ (n + m * c) % 256
folded m k c n h = by_case (λ d. (n + m * d) % 256 ≡ (n + m * c) % 256) c small refl
  where
    small : 97 ≤ c → c ≤ 122 → (n + m * (c - 32)) % 256 ≡ (n + m * c) % 256
    small l g =
        let q : c ≡ c - 32 + 32 = omega arith in
        let r : m * c ≡ m * (c - 32) + m * 32 = ap (λ (x : ℕ). m * x) q ∙ mul-add m (c - 32) 32 in
        sym (ap (λ (x : ℕ). x % 256) (omega (arith, r, h)) ∙ mul-add-mod_self_right k 256 (n + m * (c - 32)))

slot_folded : (n a z : ℕ) → (n + 8 * capital a + 152 * capital z) % 256 ≡ (n + 8 * a + 152 * z) % 256
slot_folded n a z =
    let swap : (x y u : ℕ) → x + y + u ≡ x + u + y = λ x y u. omega arith in
    folded 152 19 z (n + 8 * capital a) refl ∙ ap (λ (x : ℕ). x % 256) (swap n (8 * capital a) (152 * z))
    ∙ folded 8 1 a (n + 152 * z) refl ∙ ap (λ (x : ℕ). x % 256) (swap n (152 * z) (8 * a))

-- by numbers
pub slot_by : (w : List ℕ) (n a z : ℕ) → length w ≡ n → get_or w 0 0 ≡ a → get_or w (n - 1) 0 ≡ z → slot_of w ≡ (n + 8 * a + 152 * z) % 256
slot_by w n a z l f e =
    ap (λ (m : ℕ). (m + 8 * get_or w 0 0 + 152 * get_or w (m - 1) 0) % 256) l ∙ (λ j. (n + 8 * f j + 152 * e j) % 256)

slot_capitals : (w : List ℕ) → slot_of (capitals w) ≡ slot_of w
slot_capitals w =
    let n = length w in
    slot_by (capitals w) n (capital (get_or w 0 0)) (capital (get_or w (n - 1) 0)) (length_capitals w) (byte_capitals w 0) (byte_capitals w (n - 1))
    ∙ slot_folded n (get_or w 0 0) (get_or w (n - 1) 0)

-- KEYWORDS BY THEIR SLOTS: no two share one
own_slot : ℕ → Bool
own_slot i = eqb (index_of (λ k. eqb (slot_of (get_or keywords i [])) (slot_of k)) keywords) i

own_slot_lem : (i : ℕ) → i < keyword_count → own_slot i ≡ true
unfolding own_slot all tab
own_slot_lem i h = let z : 0 + i ≡ i = omega arith in rw z at (all_at own_slot (λ i. i) keyword_count 0 i h refl)

pub row_here : (h i a n : ℕ) → h ≡ slot_of (get_or keywords i []) → ltb i keyword_count ≡ true → a ≡ start_of i → n ≡ size_of i
    → record { keyword = i; start = a; size = n } ≡ slot_row h
unfolding slot_row own_slot
row_here h i a n q l p r =
    let z : index_of (λ k. eqb h (slot_of k)) keywords ≡ i =
    ap (λ (n : ℕ). index_of (λ k. eqb n (slot_of k)) keywords) q ∙ eqb-true _ _ (own_slot_lem i (ltb-true i keyword_count l)) in
    (λ j. record { keyword = i; start = p j; size = r j }) ∙ ap row_at (sym z)

-- the text of a row
abbrev row_text : Row → List ℕ
row_text r = slice r.start (r.start + r.size) (joined (group_of r.size) keywords)

-- it lies in the text of its group, and is the row's keyword
right_row : ℕ → Bool
right_row i = leb (start_of i + size_of i) (length (joined (group_of (size_of i)) keywords)) && eqb (keyword_at (row_text (row_at i))) i

index_most : {A : Type 0} (f : A → Bool) (xs : List A) → index_of f xs ≤ length xs
index_most f [] = omega arith
index_most f (x ∷ xs) = by (f x) refl (index_most f xs)
  where
    by : (b : Bool) → f x ≡ b → index_of f xs ≤ length xs → index_of f (x ∷ xs) ≤ length (x ∷ xs)
    by true e h = rw (index_of, e) (omega arith)
    by false e h = rw (index_of, e) (omega arith)

right_row_lem : (h : ℕ) → right_row (index_of (λ k. eqb h (slot_of k)) keywords) ≡ true
unfolding right_row all tab
right_row_lem h =
    let i = index_of (λ k. eqb h (slot_of k)) keywords in
    let z : 0 + i ≡ i = omega arith in
    rw z at (all_at right_row (λ i. i) (keyword_count + 1) 0 i (omega (arith, index_most (λ k. eqb h (slot_of k)) keywords)) refl)

-- a keyword is that of its slot
is_own : List ℕ → Bool
is_own k = eqb (length k) (slot_row (slot_of k)).size && alike k (row_text (slot_row (slot_of k)))

not_own : (w : List ℕ) → is_own w ≡ false → keyword_at w ≡ keyword_count
unfolding slot_row is_own all
not_own w e =
    unlike is_own
    (λ v j. eqb (length_capitals v j) (slot_row (slot_capitals v j)).size && same (capitals_again v j) (capitals (row_text (slot_row (slot_capitals v j))))) w e
    keywords refl

-- what a word of slot h is beside the row of its slot
module _ (w : List ℕ) (h : ℕ) (r : Row) (own : h ≡ slot_of w) (here : r ≡ slot_row h) where
  pub row_most : r.keyword ≤ keyword_count
  unfolding slot_row
  row_most = rw here (index_most (λ k. eqb h (slot_of k)) keywords)

  pub row_less : 0 < length w → length w ≡ r.size → r.keyword < keyword_count
  unfolding slot_row
  row_less p fit = by (index_of (λ k. eqb h (slot_of k)) keywords) here (index_most (λ k. eqb h (slot_of k)) keywords)
    where
      by : (i : ℕ) → r ≡ row_at i → i ≤ keyword_count → r.keyword < keyword_count
      by i e m = at (eqb i keyword_count) refl
        where
          at : (b : Bool) → eqb i keyword_count ≡ b → r.keyword < keyword_count
          at true z =
              let s : r.size ≡ 0 = ap (λ (q : Row). q.size) e ∙ ap size_of (eqb-true i keyword_count z) in
              absurd (omega arith)
          at false z =
              let k : r.keyword ≡ i = ap (λ (q : Row). q.keyword) e in
              let d = eqb-false i keyword_count z in
              lt_of_le-ne (rw k m) (λ q. d (sym k ∙ q))

  its_row : r ≡ slot_row (slot_of w)
  its_row = here ∙ ap slot_row own

  pub row_unfit : (length w ≡ r.size → ⊥) → keyword_at w ≡ keyword_count
  unfolding is_own
  row_unfit n = not_own w (simp (ne_eqb (length w) (slot_row (slot_of w)).size (λ e. n (e ∙ ap (λ (q : Row). q.size) (sym its_row)))))

  module _ (text : List ℕ) (group-text : text ≡ joined (group_of (length w)) keywords) (fit : length w ≡ r.size) where
    row_text_lem : text ≡ joined (group_of r.size) keywords
    row_text_lem = group-text ∙ ap (λ (n : ℕ). joined (group_of n) keywords) fit

    pub row_inside : r.start + r.size ≤ length text
    unfolding slot_row right_row
    row_inside =
        let i = index_of (λ k. eqb h (slot_of k)) keywords in
        let p = both (leb (start_of i + size_of i) (length (joined (group_of (size_of i)) keywords))) (eqb (keyword_at (row_text (row_at i))) i) (right_row_lem h) in
        rw (row_text_lem, here) (leb-true (start_of i + size_of i) (length (joined (group_of (size_of i)) keywords)) p.0)

    same_text : alike w (take (r.start + r.size - r.start) (drop r.start text)) ≡ alike w (row_text (slot_row (slot_of w)))
    same_text =
        ap (alike w) (part r.start (r.start + r.size) text ∙ ap (slice r.start (r.start + r.size)) row_text_lem)
        ∙ ap (λ (q : Row). alike w (row_text q)) its_row

    pub row_same : alike w (take (r.start + r.size - r.start) (drop r.start text)) ≡ true → r.keyword ≡ keyword_at w
    unfolding slot_row right_row
    row_same e =
        let n = slot_of w in
        let t = row_text (slot_row n) in
        let i = index_of (λ k. eqb n (slot_of k)) keywords in
        let p = both (leb (start_of i + size_of i) (length (joined (group_of (size_of i)) keywords))) (eqb (keyword_at (row_text (row_at i))) i) (right_row_lem n) in
        ap (λ (q : Row). q.keyword) its_row ∙ sym (eqb-true (keyword_at t) i p.1)
        ∙ sym (ap (λ (v : List ℕ). index_of (λ k. same v (capitals k)) keywords) (same_eq (capitals w) (capitals t) (sym same_text ∙ e)))

    pub row_other : alike w (take (r.start + r.size - r.start) (drop r.start text)) ≡ false → keyword_at w ≡ keyword_count
    unfolding is_own
    row_other e = not_own w (ap (λ (b : Bool). eqb (length w) (slot_row (slot_of w)).size && b) (sym same_text ∙ e) ∙ and-false (eqb (length w) (slot_row (slot_of w)).size))

-- the text of a word's group, by the word's length
pub text_of_2 : (n : ℕ) → n ≡ 2 → joined 2 keywords ≡ joined (group_of n) keywords
text_of_2 n e = ap (λ (m : ℕ). joined (group_of m) keywords) (sym e)

pub text_of_3 : (n : ℕ) → n ≡ 3 → joined 3 keywords ≡ joined (group_of n) keywords
text_of_3 n e = ap (λ (m : ℕ). joined (group_of m) keywords) (sym e)

pub text_of_4 : (n : ℕ) → n ≡ 4 → joined 4 keywords ≡ joined (group_of n) keywords
text_of_4 n e = ap (λ (m : ℕ). joined (group_of m) keywords) (sym e)

pub text_of_more : (n : ℕ) → (n ≡ 2 → ⊥) → (n ≡ 3 → ⊥) → (n ≡ 4 → ⊥) → joined 5 keywords ≡ joined (group_of n) keywords
text_of_more n a b c =
    let e : group_of n ≡ 5 = simp (ne_eqb n 2 a, ne_eqb n 3 b, ne_eqb n 4 c) in
    ap (λ (g : ℕ). joined g keywords) (sym e)

-- NO KEYWORD'S SLOT, NO KEYWORD'S FIRST LETTER AND LENGTH
others_front : (T : Type 0) (h : ℕ) (ns : List ℕ) → Others T h ns → T
others_front T h [] x = x
others_front T h (n ∷ ns) x = (others_front (T × (h ≡ n → ⊥)) h ns x).0

others_all : (T : Type 0) (h : ℕ) (ns : List ℕ) → Others T h ns → all (λ n. not (eqb h n)) ns ≡ true
unfolding all
others_all T h [] x = refl
others_all T h (n ∷ ns) x =
    simp (ne_eqb h n (others_front (T × (h ≡ n → ⊥)) h ns x).1) (others_all (T × (h ≡ n → ⊥)) h ns x)

none_found : (f : List ℕ → Bool) (ks : List (List ℕ)) → all (λ k. not (f k)) ks ≡ true → index_of f ks ≡ length ks
unfolding all
none_found f [] e = refl
none_found f (k ∷ ks) e =
    let b = both (not (f k)) (all (λ k. not (f k)) ks) e in
    rw (index_of, not-true (f k) b.0) (ap suc (none_found f ks b.1))

pub no_slot : (h : ℕ) → Others Unit h (map slot_of keywords) → slot_row h ≡ row_at keyword_count
unfolding slot_row
no_slot h x =
    let f : List ℕ → Bool = λ k. eqb h (slot_of k) in
    ap row_at (none_found f keywords (sym (all_map (λ n. not (eqb h n)) slot_of keywords) ∙ others_all Unit h (map slot_of keywords) x))

first_capitals : (w : List ℕ) → first_of (capitals w) ≡ first_of w
first_capitals w = ap (λ (c : ℕ). c % 32) (byte_capitals w 0) ∙ low_bits (get_or w 0 0)

-- a row of no letter is 0
pub no_row : (T : Type 0) (i : ℕ) (rs : List (ℕ × ℕ)) → Others T i (map (λ r. r.0) rs) → row_in rs i ≡ 0
no_row T i [] x = refl
no_row T i (r ∷ rs) x =
    let U = T × (i ≡ r.0 → ⊥) in
    simp (ne_eqb i r.0 (others_front U i (map (λ r. r.0) rs) x).1) (no_row U i rs x)

-- a word that may be no keyword is none
pub may_not : (w : List ℕ) → may_be (length w) (first_of w) ≡ false → keyword_at w ≡ keyword_count
unfolding all
may_not w h = unlike (λ v. may_be (length v) (first_of v)) (λ v j. may_be (length_capitals v j) (first_capitals v j)) w h keywords refl
