-- Names and numbers in front of a text, cut off as tokens; places are left out.
use Rattle.std.specs.Prelude.{if◌then◌else◌}
use mathlib.Core.Path.{◌≡◌, refl, ap}
use mathlib.Core.List.{List, [], ◌∷◌, ◌++◌, map, append-nil, append_assoc}
use mathlib.Core.Bool.{Bool, true, false, ◌&&◌, ◌||◌}
use Prim.Native.Nat.{ℕ, zero, suc, ◌+◌, ◌/◌, ◌≤◌}
use native.Mathlib.Omega.{arith}
use lib.Dec.{leb, eqb}
use lib.IntN.{ℤ, pos, negsuc}
use lib.ListN.{length, take, length-append}
use lib.Seq.{take-append_seam, drop-append_seam}
use borrow.Author.Tests.{leb-true, leb-false, not-true, lt-leb, ne_eqb}
use Rattle.model.specs.Basic.{all, run}
use Rattle.model.specs.Bounds.{name_limit}
use Rattle.model.specs.Keywords.{END, NAME, NUMBER, BLANK, OPEN, keyword_at, is_keyword}
use Rattle.model.specs.Tokens.{is_blank, is_digit, starts_name, is_name_byte, starts, tidy, is_name, Piece, piece, word_kind, point_part, number_part, word_piece, piece_at, placed, scan}
use Rattle.model.specs.Listing.{digits, after_point, thousandths_text, crisp_text}
use Rattle.laws.proofs.Tests.{both, clash}
use Rattle.listing_laws.proofs.Items.{Item, item, item_of, name, number, word_of, opening}
use Rattle.listing_laws.proofs.Numbers.{run_all, behind, behind_all, digits_all, digits_start, point_stops, thousandths_start}

-- TOKENS WITHOUT PLACES
abbrev kept : Piece → List ℕ → List Item → List Item
kept q s xs = if eqb q.kind BLANK then xs else item q.kind (take (suc q.more) s) ∷ xs

-- as `scan`, without the place
unfoldable pub cut : ℕ → List ℕ → List Item
cut n [] = item END [] ∷ []
cut (suc n) (c ∷ s) = cut n s
cut zero (c ∷ s) = kept (piece_at c s) (c ∷ s) (cut (piece_at c s).more s)

-- unfolding this unfolds what cuts a written text
unfoldable pub cutting : ℕ
unfolding cut piece_at word_piece word_kind run tidy is_keyword
cutting = 0

pub cut_is : (n p : ℕ) (s : List ℕ) → map item_of (scan n p s) ≡ cut n s
unfolding scan cut
cut_is n p [] = refl
cut_is (suc n) p (c ∷ s) = cut_is n (suc p) s
cut_is zero p (c ∷ s) = go (piece_at c s) (λ n. cut_is n (suc p) s)
  where
    go : (q : Piece) → ((n : ℕ) → map item_of (scan n (suc p) s) ≡ cut n s)
        → map item_of (placed q p (c ∷ s) (scan q.more (suc p) s)) ≡ kept q (c ∷ s) (cut q.more s)
    go q ih = by (eqb q.kind BLANK) refl
      where
        by : (b : Bool) → eqb q.kind BLANK ≡ b
            → map item_of (placed q p (c ∷ s) (scan q.more (suc p) s)) ≡ kept q (c ∷ s) (cut q.more s)
        by true e = rw e (ih q.more)
        by false e = rw e (ap (λ (l : List Item). item q.kind (take (suc q.more) (c ∷ s)) ∷ l) (ih q.more))

skip : (w s : List ℕ) → cut (length w) (w ++ s) ≡ cut 0 s
unfolding cut
skip [] s = refl
skip (c ∷ w) s = skip w s

-- a piece of c and w in front of s
cut_off : (k c : ℕ) (w s : List ℕ) → piece_at c (w ++ s) ≡ piece k (length w) → eqb k BLANK ≡ false
    → cut 0 (c ∷ (w ++ s)) ≡ item k (c ∷ w) ∷ cut 0 s
unfolding cut
cut_off k c w s e b = rw (e, cut) (rw b (rw (take-append_seam w s, skip w s)))

-- BYTES
not_blank : (c : ℕ) → 33 ≤ c → is_blank c ≡ false
not_blank c h = rw (ne_eqb c 32 (λ e. omega arith), ne_eqb c 9 (λ e. omega arith), ne_eqb c 13 (λ e. omega arith), ne_eqb c 10 (λ e. omega arith))

starter : (c : ℕ) → starts_name c ≡ true → 65 ≤ c
starter c h = go (leb 65 c) refl
  where
    go : (b : Bool) → leb 65 c ≡ b → 65 ≤ c
    go true e = leb-true 65 c e
    go false e =
        let l = leb-false 65 c e in
        clash (rw (e, lt-leb 97 c (omega arith), ne_eqb c 95 (λ q. omega arith)) at h)

module _ (c : ℕ) (h : is_digit c ≡ true) where
  digit_range : (48 ≤ c) × (c ≤ 57)
  digit_range = let b = both (leb 48 c) (leb c 57) h in (leb-true 48 c b.0, leb-true c 57 b.1)

  digit_no_starter : starts_name c ≡ false
  digit_no_starter =
      let r = digit_range in
      rw (lt-leb 65 c (omega arith), lt-leb 97 c (omega arith), ne_eqb c 95 (λ e. omega arith))

-- WHAT FOLLOWS a name or a number, and does not run on from it
abbrev pub Ends : List ℕ → Type 0
Ends s = (starts is_name_byte s ≡ false) × (point_part s ≡ 0)

no_digit : (s : List ℕ) → Ends s → starts is_digit s ≡ false
no_digit [] e = refl
no_digit (c ∷ s) e = go (starts_name c) (is_digit c) e.0
  where
    go : (a b : Bool) → a || b ≡ false → b ≡ false
    go true true h = h
    go true false h = refl
    go false b h = h

-- NAMES
pub record Name (w : List ℕ) : Type 0 where
  pub first : starts starts_name w ≡ true
  pub bytes : all is_name_byte w ≡ true
  pub neat : tidy w ≡ true
  pub short : length w ≤ name_limit
  pub free : is_keyword w ≡ false

pub name_facts : (w : List ℕ) → is_name w ≡ true → Name w
unfolding is_name
name_facts w h =
    let a = both (starts starts_name w) _ h in
    let b = both (all is_name_byte w) _ a.1 in
    let c = both (tidy w) _ b.1 in
    let d = both (leb (length w) name_limit) _ c.1 in
    record { first = a.0; bytes = b.0; neat = c.0; short = leb-true (length w) name_limit d.0; free = not-true (is_keyword w) d.1 }

-- a word, name or keyword
word_cut : (w s : List ℕ) (k : ℕ) → starts starts_name w ≡ true → all is_name_byte w ≡ true → word_kind w ≡ k → eqb k BLANK ≡ false
    → starts is_name_byte s ≡ false → cut 0 (w ++ s) ≡ item k w ∷ cut 0 s
unfolding piece_at word_piece all
word_cut [] s k h a q b e = clash h
word_cut (c ∷ v) s k h a q b e =
    let r = run_all is_name_byte v s (both (is_name_byte c) (all is_name_byte v) a).1 e in
    let l = starter c h in
    cut_off k c v s (rw (not_blank c (omega arith), piece_at) (rw (h, piece_at) (rw r (rw (take-append_seam v s, q))))) b

pub name_cut : (w s : List ℕ) → is_name w ≡ true → starts is_name_byte s ≡ false → cut 0 (w ++ s) ≡ name w ∷ cut 0 s
unfolding word_kind
name_cut w s h e = let f = name_facts w h in word_cut w s NAME f.first f.bytes (rw (f.neat, f.free)) refl e

-- the bytes of a keyword
pub record Keyword (w : List ℕ) : Type 0 where
  pub first : starts starts_name w ≡ true
  pub bytes : all is_name_byte w ≡ true
  pub neat : tidy w ≡ true
  pub held : is_keyword w ≡ true

-- as a test
unfoldable pub spelt : List ℕ → Bool
unfolding all tidy is_keyword
spelt w = starts starts_name w && (all is_name_byte w && (tidy w && is_keyword w))

pub keyword : (w : List ℕ) → spelt w ≡ true → Keyword w
unfolding spelt
keyword w h =
    let a = both (starts starts_name w) _ h in
    let b = both (all is_name_byte w) _ a.1 in
    let c = both (tidy w) (is_keyword w) b.1 in
    record { first = a.0; bytes = b.0; neat = c.0; held = c.1 }

pub keyword_cut : (w s : List ℕ) → Keyword w → starts is_name_byte s ≡ false → cut 0 (w ++ s) ≡ word_of w ∷ cut 0 s
unfolding word_kind
keyword_cut w s f e =
    word_cut w s (128 + keyword_at w) f.first f.bytes (rw (f.neat, f.held)) (ne_eqb (128 + keyword_at w) BLANK (λ q. omega arith)) e

-- NUMBERS
point_part_lem : (f s : List ℕ) → all is_digit f ≡ true → Ends s → point_part (after_point f ++ s) ≡ length (after_point f)
unfolding all
point_part_lem [] s a e = e.1
point_part_lem (c ∷ f) s a e = rw (both (is_digit c) (all is_digit f) a).0 (ap suc (run_all is_digit (c ∷ f) s a (no_digit s e)))

module _ (f s : List ℕ) (b : all is_digit f ≡ true) (e : Ends s) where
  number_part_lem : (ds : List ℕ) → all is_digit ds ≡ true → number_part ((ds ++ after_point f) ++ s) ≡ length (ds ++ after_point f)
  unfolding number_part
  number_part_lem ds a =
      rw (append_assoc ds (after_point f) s)
      (rw (run_all is_digit ds (after_point f ++ s) a (point_stops f s (no_digit s e)))
      (rw (drop-append_seam ds (after_point f ++ s), point_part_lem f s b e, length-append ds (after_point f))))

  numeral_cut : (ds : List ℕ) → all is_digit ds ≡ true → starts is_digit ds ≡ true
      → cut 0 ((ds ++ after_point f) ++ s) ≡ number (ds ++ after_point f) ∷ cut 0 s
  unfolding piece_at all
  numeral_cut [] a h = clash h
  numeral_cut (c ∷ ds) a h =
      let r = digit_range c h in
      cut_off NUMBER c (ds ++ after_point f) s
      (rw (not_blank c (omega arith), piece_at) (rw (digit_no_starter c h, piece_at) (rw (h, piece_at)
      (ap (piece NUMBER) (number_part_lem ds (both (is_digit c) (all is_digit ds) a).1))))) refl

pub digits_cut : (n : ℕ) (s : List ℕ) → Ends s → cut 0 (digits n ++ s) ≡ number (digits n) ∷ cut 0 s
unfolding all
digits_cut n s e = rw append-nil at (numeral_cut [] s refl e (digits n) (digits_all n) (digits_start n))

pub thousandths_cut : (n : ℕ) (s : List ℕ) → Ends s → cut 0 (thousandths_text n ++ s) ≡ number (thousandths_text n) ∷ cut 0 s
unfolding thousandths_text
thousandths_cut n s e = numeral_cut (behind n) s (behind_all n) e (digits (n / 1000)) (digits_all (n / 1000)) (digits_start (n / 1000))

negative : (n : ℕ) (s : List ℕ) → Ends s → cut 0 (45 ∷ (thousandths_text n ++ s)) ≡ number (45 ∷ thousandths_text n) ∷ cut 0 s
unfolding piece_at thousandths_text
negative n s e =
    cut_off NUMBER 45 (thousandths_text n) s
    (rw (thousandths_start n s, piece_at) (ap (piece NUMBER) (number_part_lem (behind n) s (behind_all n) e (digits (n / 1000)) (digits_all (n / 1000))))) refl

pub crisp_cut : (z : ℤ) (s : List ℕ) → Ends s → cut 0 (crisp_text z ++ s) ≡ number (crisp_text z) ∷ cut 0 s
unfolding crisp_text
crisp_cut (pos n) s e = thousandths_cut n s e
crisp_cut (negsuc n) s e = negative (suc n) s e

-- A PARENTHESIS before anything but a star
pub opening_cut : (s : List ℕ) → starts (eqb 42) s ≡ false → cut 0 (40 ∷ s) ≡ opening ∷ cut 0 s
unfolding piece_at
opening_cut s e = cut_off OPEN 40 [] s (rw (e, piece_at)) refl

pub crisp_start : (z : ℤ) (v s : List ℕ) → starts (eqb 42) ((crisp_text z ++ v) ++ s) ≡ false
unfolding crisp_text
crisp_start (pos n) v s = rw (append_assoc (thousandths_text n) v s) (go (thousandths_text n ++ (v ++ s)) (thousandths_start n (v ++ s)))
  where
    go : (w : List ℕ) → starts is_digit w ≡ true → starts (eqb 42) w ≡ false
    go [] h = refl
    go (c ∷ w) h = let r = digit_range c h in ne_eqb 42 c (λ e. omega arith)
crisp_start (negsuc n) v s = refl

pub name_start : (w v s : List ℕ) → is_name w ≡ true → starts (eqb 42) ((w ++ v) ++ s) ≡ false
name_start w v s h = go w (name_facts w h).first
  where
    go : (w : List ℕ) → starts starts_name w ≡ true → starts (eqb 42) ((w ++ v) ++ s) ≡ false
    go [] q = clash q
    go (c ∷ w) q = let l = starter c q in ne_eqb 42 c (λ e. omega arith)
