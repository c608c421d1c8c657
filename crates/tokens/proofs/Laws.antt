-- One step of each definition that walks over a text, at a place of it.
use Rattle.std.specs.Prelude.{if◌then◌else◌}
use mathlib.Core.Path.{◌≡◌, refl, sym, ap, ◌∙◌}
use mathlib.Core.List.{List, [], ◌∷◌, map}
use mathlib.Core.Bool.{Bool, true, false, ◌&&◌, ◌||◌, not, and-false, false≢true}
use mathlib.Core.Option.{Option, none, some}
use Prim.Native.Nat.{ℕ, zero, suc, ◌+◌, ◌-◌, ◌≤◌, ◌<◌}
use native.Mathlib.Numerals.{add-one}
use native.Mathlib.Omega.{arith}
use borrow.Author.Tests.{eq-eqb, ne_eqb, eqb-true, eqb-false}
use lib.Dec.{eqb}
use lib.ListN.{length, take, drop, get_or, drop_of_length-le, length-drop}
use lib.Seq.{drop-cons, drop-drop, slice, slice_empty}
use Rattle.model.specs.Basic.{run}
use Rattle.model.specs.Keywords.{END, WRONG, BLANK}
use Rattle.model.specs.Tokens.{is_underscore, is_digit, starts_name, is_name_byte, is_mark, starts, tidy, word_kind, point_part, number_part, comment_part, comment_piece, piece, word_piece, piece_at, Piece, Token as ModelToken, token, placed, scan, tokens}
use Rattle.laws.proofs.Slices.{cut}
use Rattle.laws.proofs.Tests.{clash}
use Rattle.characters.proofs.Laws.{tidy_cons, run_in, run_out, run_more, run_stop, run_end}
use Rattle.tokens.specs.Tokens.{is_plain, goes_on, tidy_word, tokens_from, token_of, behind, after}
use Rattle.tokens.specs.declared.Token.{Token}

-- WORDS
-- what `goes_on` tells by the tests of the first byte, n and u, and of the next, p
plain_on : (n u p : Bool) → (n && not u) || (u && p) ≡ true → u ≡ false → n ≡ true
plain_on true u p e q = refl
plain_on false true p e q = clash (sym q)
plain_on false false p e q = e

plain_off : (n u p : Bool) → (n && not u) || (u && p) ≡ false → u ≡ false → n ≡ false
plain_off true true p e q = q
plain_off true false p e q = e
plain_off false u p e q = refl

under_next : (n u p b : Bool) → (n && not u) || (u && p) ≡ b → u ≡ true → p ≡ b
under_next true true p b e q = e
under_next false true p b e q = e
under_next n false p b e q = clash q

under_name : (c : ℕ) → is_underscore c ≡ true → is_name_byte c ≡ true
under_name c e = rw (eqb-true c 95 e)

word_cons : (c : ℕ) (s : List ℕ) → is_name_byte c ≡ true → tidy_word (c ∷ s) ≡ tidy (c ∷ take (run is_name_byte s) s)
unfolding tidy_word
word_cons c s e = rw (run_in is_name_byte c s e)

-- an underscore with a letter or a digit behind it, or with none
under_cons : (c d : ℕ) (s : List ℕ) (b n : Bool) → is_underscore c ≡ true → is_plain d ≡ b → is_name_byte d ≡ n → tidy_word (c ∷ d ∷ s) ≡ b && tidy_word (d ∷ s)
unfolding tidy
under_cons c d s b true q e p =
    let z : b ≡ not (is_underscore d) = sym e ∙ ap (λ x. x && not (is_underscore d)) p in
    word_cons c (d ∷ s) (under_name c q) ∙ rw (run_in is_name_byte d s p, word_cons d s p, z) (simp q)
under_cons c d s b false q e p =
    let z : b ≡ false = sym e ∙ ap (λ x. x && not (is_underscore d)) p in
    word_cons c (d ∷ s) (under_name c q) ∙ rw (run_out is_name_byte d s p, z) (simp q)

under_word : (c : ℕ) (s : List ℕ) (b : Bool) → is_underscore c ≡ true → starts is_plain s ≡ b → tidy_word (c ∷ s) ≡ b && tidy_word s
unfolding tidy run
under_word c [] true q e = clash e
under_word c [] false q e = word_cons c [] (under_name c q) ∙ simp q
under_word c (d ∷ s) b q e = under_cons c d s b (is_name_byte d) q e refl

word_on : (c : ℕ) (s : List ℕ) (u : Bool) → is_underscore c ≡ u → goes_on (c ∷ s) ≡ true → (is_name_byte c ≡ true) × (tidy_word (c ∷ s) ≡ tidy_word s)
unfolding tidy_word
word_on c s false q e =
    let n = plain_on (is_name_byte c) (is_underscore c) (starts is_plain s) e q in
    (n, word_cons c s n ∙ tidy_cons c (take (run is_name_byte s) s) q)
word_on c s true q e = (under_name c q, under_word c s true q (under_next (is_name_byte c) (is_underscore c) (starts is_plain s) true e q))

module _ (s : List ℕ) (i : ℕ) (h : i < length s) where
  pub goes : (p u n : Bool) → is_plain (get_or s i 0) ≡ p → is_underscore (get_or s i 0) ≡ u → starts is_plain (drop (i + 1) s) ≡ n → goes_on (drop i s) ≡ p || (u && n)
  goes p u n ep eu en = let q = rw add-one at en in rw (drop-cons s i 0 h) (λ j. ep j || (eu j && q j))

  pub word_more : goes_on (drop i s) ≡ true
      → (i + run is_name_byte (drop i s) ≡ i + 1 + run is_name_byte (drop (i + 1) s)) × (tidy_word (drop i s) ≡ tidy_word (drop (i + 1) s))
  word_more e =
      let p = word_on (get_or s i 0) (drop (suc i) s) (is_underscore (get_or s i 0)) refl (rw (drop-cons s i 0 h) at e) in
      (run_more is_name_byte s i h p.0, rw (add-one, drop-cons s i 0 h) p.1)

  pub word_stray : goes_on (drop i s) ≡ false → get_or s i 0 ≡ 95 → tidy_word (drop i s) ≡ false
  word_stray e q =
      let u = eq-eqb (get_or s i 0) 95 q in
      let g = rw (drop-cons s i 0 h) at e in
      rw (drop-cons s i 0 h) (
      under_word (get_or s i 0) (drop (suc i) s) false u
      (under_next (is_name_byte (get_or s i 0)) (is_underscore (get_or s i 0)) (starts is_plain (drop (suc i) s)) false g u)
      )

  pub word_ends : goes_on (drop i s) ≡ false → (get_or s i 0 ≡ 95 → ⊥) → (i + run is_name_byte (drop i s) ≡ i) × (tidy_word (drop i s) ≡ true)
  unfolding tidy_word tidy
  word_ends e q =
      let u = ne_eqb (get_or s i 0) 95 q in
      let g = rw (drop-cons s i 0 h) at e in
      let n = plain_off (is_name_byte (get_or s i 0)) (is_underscore (get_or s i 0)) (starts is_plain (drop (suc i) s)) g u in
      (run_stop is_name_byte s i h n, rw (drop-cons s i 0 h, run_out is_name_byte (get_or s i 0) (drop (suc i) s) n))

pub word_none : (s : List ℕ) (i : ℕ) → length s ≤ i → (i + run is_name_byte (drop i s) ≡ i) × (tidy_word (drop i s) ≡ true)
unfolding tidy_word tidy run
word_none s i h = (run_end is_name_byte s i h, rw (drop_of_length-le s h))

-- NUMBERS
module _ (s : List ℕ) (i : ℕ) where
  pub point_here : (d : Bool) → i < length s → get_or s i 0 ≡ 46 → d ≡ starts is_digit (drop (i + 1) s)
      → point_part (drop i s) ≡ if d then suc (run is_digit (drop (i + 1) s)) else 0
  point_here d h e q = rw (q, add-one, drop-cons s i 0 h) (simp (eq-eqb _ _ e))

  pub point_none : i < length s → (get_or s i 0 ≡ 46 → ⊥) → point_part (drop i s) ≡ 0
  point_none h n = rw (drop-cons s i 0 h) (simp (ne_eqb _ _ n))

  pub point_end : length s ≤ i → point_part (drop i s) ≡ 0
  point_end h = rw (drop_of_length-le s h)

-- e is where the first digits end, and p are the bytes of the point and what follows it
pub number : (s : List ℕ) (a e p : ℕ) → e ≡ a + run is_digit (drop a s) → point_part (drop e s) ≡ p → e + p ≡ a + number_part (drop a s)
unfolding number_part
number s a e p h q =
    let z : point_part (drop (run is_digit (drop a s)) (drop a s)) ≡ p = rw (drop-drop (run is_digit (drop a s)) a s, sym h) q in
    omega (arith, h, z)

-- PIECES
pub word_some : (s : List ℕ) → 0 < length s → starts_name (get_or s 0 0) ≡ true → 0 < run is_name_byte s
word_some [] h n = absurd (omega arith)
word_some (c ∷ s) h n = omega (arith, run_in is_name_byte c s (simp n))

pub word_tidy : (s : List ℕ) (e : ℕ) (b : Bool) → e ≡ run is_name_byte s → b ≡ tidy_word s → tidy (take e s) ≡ b
unfolding tidy_word
word_tidy s e b p q = rw (p, q)

pub word_piece_lem : (s : List ℕ) (e k : ℕ) → 0 < length s → starts_name (get_or s 0 0) ≡ true → e ≡ run is_name_byte s → k ≡ word_kind (take e s)
    → piece k (e - 1) ≡ word_piece (get_or s 0 0) (drop 1 s)
unfolding word_piece
word_piece_lem [] e k h n p q = absurd (omega arith)
word_piece_lem (c ∷ s) e k h n p q =
    let z : e ≡ suc (run is_name_byte s) = p ∙ run_in is_name_byte c s (simp n) in
    let y : e - 1 ≡ run is_name_byte s = omega (arith, z) in
    rw (y, q, z)

-- n bytes more
abbrev longer : ℕ → Option ℕ → Option ℕ
longer n none = none
longer n (some m) = some (n + m)

longer_zero : (o : Option ℕ) → longer 0 o ≡ o
longer_zero none = refl
longer_zero (some m) = ap some (omega arith)

longer_more : (n : ℕ) (o : Option ℕ) → longer n (longer 1 o) ≡ longer (n + 1) o
longer_more n none = refl
longer_more n (some m) = ap some (omega arith)

eqb_sym : (a b : ℕ) → eqb a b ≡ eqb b a
eqb_sym a b = go (eqb b a) refl
  where
    go : (t : Bool) → eqb b a ≡ t → eqb a b ≡ t
    go true e = eq-eqb a b (sym (eqb-true b a e))
    go false e = ne_eqb a b (λ q. eqb-false b a e (sym q))

comment_cons : (c : ℕ) (s : List ℕ) (b : Bool) → b ≡ eqb c 42 && starts (eqb 41) s → comment_part (c ∷ s) ≡ if b then some 2 else longer 1 (comment_part s)
unfolding comment_part
comment_cons c [] b e = rw (e, and-false (eqb c 42))
comment_cons c (d ∷ s) b e = rw (e, eqb_sym 41 d) (go (eqb c 42 && eqb d 41) (comment_part (d ∷ s)))
  where
    go : (t : Bool) (o : Option ℕ) → elim t [ true ↦ some 2 | false ↦ elim o [ none ↦ none | some n ↦ some (suc n) ] ] ≡ if t then some 2 else longer 1 o
    go true o = refl
    go false none = refl
    go false (some n) = ap some (omega arith)

-- the bytes of a comment that begins at place 2, if what is left from i on closes it
abbrev pub comment_from : List ℕ → ℕ → Option ℕ
comment_from s i = longer (i - 2) (comment_part (drop i s))

pub comment_begins : (s : List ℕ) → comment_from s 2 ≡ comment_part (drop 2 s)
comment_begins s = longer_zero (comment_part (drop 2 s))

module _ (s : List ℕ) (i : ℕ) (g : 2 ≤ i) (b : Bool) where
  at_byte : i < length s → b ≡ eqb (get_or s i 0) 42 && starts (eqb 41) (drop (i + 1) s)
      → comment_part (drop i s) ≡ if b then some 2 else longer 1 (comment_part (drop (i + 1) s))
  at_byte h e = rw (add-one, drop-cons s i 0 h) (comment_cons (get_or s i 0) (drop (suc i) s) b (rw add-one at e))

  pub comment_more : i < length s → b ≡ eqb (get_or s i 0) 42 && starts (eqb 41) (drop (i + 1) s) → b ≡ false → comment_from s i ≡ comment_from s (i + 1)
  comment_more h e f =
      let z : i + 1 - 2 ≡ i - 2 + 1 = omega arith in
      rw (at_byte h e, f, z) (longer_more (i - 2) (comment_part (drop (i + 1) s)))

  pub comment_closed : i < length s → b ≡ eqb (get_or s i 0) 42 && starts (eqb 41) (drop (i + 1) s) → b ≡ true → comment_from s i ≡ comment_part (drop 2 s)
      → piece BLANK (i + 1) ≡ comment_piece (drop 2 s) (comment_part (drop 2 s))
  comment_closed h e f q =
      let z : i - 2 + 2 ≡ i = omega arith in
      rw (sym q, at_byte h e, f, z, add-one)

pub comment_open : (s : List ℕ) (i : ℕ) → 2 ≤ length s → length s ≤ i → comment_from s i ≡ comment_part (drop 2 s)
    → piece WRONG (length s - 1) ≡ comment_piece (drop 2 s) (comment_part (drop 2 s))
unfolding comment_part
comment_open s i g h q =
    let y : comment_part (drop 2 s) ≡ none = sym q ∙ rw (drop_of_length-le s h) in
    let z : length s - 1 ≡ suc (length (drop 2 s)) = omega (arith, length-drop 2 s) in
    rw (y, z)

pub mark_some : (c : ℕ) → is_mark c ≡ true → 0 < c
mark_some zero e = absurd (false≢true e)
mark_some (suc c) e = omega arith

-- TOKENS
-- the bytes of a piece are passed over
jump : (n p : ℕ) (s : List ℕ) → n ≤ length s → scan n p s ≡ scan 0 (p + n) (drop n s)
unfolding scan
jump zero p s h = let z : p + 0 ≡ p = omega arith in rw z
jump (suc n) p [] h = absurd (omega arith)
jump (suc n) p (c ∷ s) h =
    let z : suc p + n ≡ p + suc n = omega arith in
    jump n (suc p) s (omega arith) ∙ ap (λ (q : ℕ). scan 0 q (drop n s)) z

first : (l : List ℕ) (i k m : ℕ) → m < length l → piece k m ≡ piece_at (get_or l 0 0) (drop 1 l)
    → scan 0 i l ≡ placed (piece k m) i l (scan 0 (i + 1 + m) (drop (suc m) l))
unfolding scan
first [] i k m h e = absurd (omega arith)
first (c ∷ s) i k m h e =
    let z : suc i + m ≡ i + 1 + m = omega arith in
    rw (sym e) (ap (placed (piece k m) i (c ∷ s)) (jump m (suc i) s (omega arith) ∙ ap (λ (q : ℕ). scan 0 q (drop m s)) z))

module _ (s : List ℕ) (i k m : ℕ) (h : m < length (drop i s)) (e : piece k m ≡ piece_at (get_or (drop i s) 0 0) (drop 1 (drop i s))) where
  found : tokens_from s i ≡ placed (piece k m) i (drop i s) (tokens_from s (i + 1 + m))
  unfolding tokens_from
  found =
      let z : i + suc m ≡ i + 1 + m = omega arith in
      let y : drop (suc m) (drop i s) ≡ drop (i + 1 + m) s = rw (drop-drop (suc m) i s, z) in
      first (drop i s) i k m h e ∙ ap (λ l. placed (piece k m) i (drop i s) (scan 0 (i + 1 + m) l)) y

  pub pass : k ≡ BLANK → tokens_from s i ≡ tokens_from s (i + 1 + m)
  pass b = found ∙ simp (eq-eqb _ _ b)

  pub answer : (k ≡ BLANK → ⊥) → 0 < k
      → tokens_from s i ≡ token k (slice i (i + 1 + m) s) i ∷ after s (record { kind = k; start = i; end = i + 1 + m })
  unfolding after
  answer b g =
      let z : i + suc m ≡ i + 1 + m = omega arith in
      let y : take (suc m) (drop i s) ≡ slice i (i + 1 + m) s = cut i (suc m) s ∙ ap (λ (q : ℕ). slice i q s) z in
      let x : k ≡ END → ⊥ = λ q. omega (arith, q, g) in
      found ∙ simp (ne_eqb _ _ b, ne_eqb _ _ x, y)

pub last : (s : List ℕ) (i : ℕ) → length s ≤ i → tokens_from s i ≡ token END (slice i i s) i ∷ after s (record { kind = END; start = i; end = i })
unfolding tokens_from scan after
last s i h = rw (drop_of_length-le s h, slice_empty i s)

-- A PART OF THE TEXT: its tokens stand p bytes further on in the text
abbrev further : ℕ → ModelToken → ModelToken
further p t = token t.kind t.text (p + t.place)

placed_further : (q : ℕ) (x : Piece) (p : ℕ) (s : List ℕ) (ts : List ModelToken) → placed x (q + p) s (map (further q) ts) ≡ map (further q) (placed x p s ts)
placed_further q x p s ts = by (eqb x.kind BLANK) refl
  where
    by : (b : Bool) → eqb x.kind BLANK ≡ b → placed x (q + p) s (map (further q) ts) ≡ map (further q) (placed x p s ts)
    by true e = simp e
    by false e = simp e

scan_further : (q n p : ℕ) (s : List ℕ) → scan n (q + p) s ≡ map (further q) (scan n p s)
unfolding scan
scan_further q n p [] = refl
scan_further q (suc n) p (c ∷ s) = let z : suc (q + p) ≡ q + suc p = omega arith in rw z (scan_further q n (suc p) s)
scan_further q zero p (c ∷ s) =
    let z : suc (q + p) ≡ q + suc p = omega arith in
    rw (z, scan_further q (piece_at c s).more (suc p) s) (placed_further q (piece_at c s) p (c ∷ s) (scan (piece_at c s).more (suc p) s))

slice_further : (p a e : ℕ) (s : List ℕ) → slice a e (drop p s) ≡ slice (p + a) (p + e) s
slice_further p a e s = ap (drop a) (cut p e s) ∙ drop-drop a p (take (p + e) s)

after_further : (s : List ℕ) (p : ℕ) (t : Token) → map (further p) (after (drop p s) t) ≡ after s (behind p t)
unfolding after tokens_from
after_further s p t = by (eqb t.kind END) refl
  where
    by : (b : Bool) → eqb t.kind END ≡ b → map (further p) (after (drop p s) t) ≡ after s (behind p t)
    by true e = simp e
    by false e = simp e (sym (scan_further p 0 t.end (drop t.end (drop p s))) ∙ ap (scan 0 (p + t.end)) (drop-drop t.end p s))

pub carried : (s : List ℕ) (p : ℕ) (t : Token) → tokens (drop p s) ≡ token_of (drop p s) t ∷ after (drop p s) t
    → tokens_from s p ≡ token_of s (behind p t) ∷ after s (behind p t)
unfolding tokens_from tokens
carried s p t e =
    let z : p ≡ p + 0 = omega arith in
    ap (λ (q : ℕ). scan 0 q (drop p s)) z ∙ scan_further p 0 0 (drop p s) ∙ ap (map (further p)) e
    ∙ (λ j. token t.kind (slice_further p t.start t.end s j) (p + t.start) ∷ after_further s p t j)
