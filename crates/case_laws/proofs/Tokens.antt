-- The tokens of a text in capitals: each of the same kind and at the same place, its text in capitals. The text of a number
-- and of `..` has no letters, and stays as it is.
use Rattle.std.specs.Prelude.{if◌then◌else◌}
use mathlib.Core.Path.{◌≡◌, refl, sym, ap, ◌∙◌}
use mathlib.Core.Bool.{Bool, true, false, ◌&&◌, ◌||◌}
use mathlib.Core.List.{List, [], ◌∷◌, map}
use mathlib.Core.Option.{Option, none, some}
use Prim.Native.Nat.{ℕ, zero, suc, ◌+◌}
use native.Mathlib.Omega.{arith}
use borrow.Author.Tests.{eqb-true, eq-eqb, ne_eqb}
use lib.Dec.{eqb}
use lib.ListN.{take, drop}
use Rattle.model.specs.Basic.{run, capital, capitals}
use Rattle.model.specs.Keywords.{keyword_at, is_keyword, NUMBER, DOTS, BLANK}
use Rattle.model.specs.Tokens.{is_blank, is_digit, starts_name, is_name_byte, is_sign, is_mark, starts, tidy, Token, token, Piece, piece, word_kind, point_part, number_part, comment_part, comment_piece, word_piece, piece_at, placed, scan, tokens}
use Rattle.laws.proofs.Tests.{both, clash}
use Rattle.laws.proofs.Words.{length_capitals}
use Rattle.case_laws.proofs.Bytes.{same_is, same_to, same_digit, own_digit, same_sign, own_sign, own_point, same_mark, own_mark, same_blank, same_start, same_name_lem, starts_caps, run_caps, take_map, drop_map, kind_caps}

-- two choices by the same test
branch : {A : Type 0} {a b : Bool} {x y u v : A} → a ≡ b → (b ≡ true → x ≡ y) → (b ≡ false → u ≡ v) → (if a then x else u) ≡ (if b then y else v)
branch {A} {a} {b} {x} {y} {u} {v} e f g = ap (λ (t : Bool). if t then x else u) e ∙ go b f g
  where
    go : (t : Bool) → (t ≡ true → x ≡ y) → (t ≡ false → u ≡ v) → (if t then x else u) ≡ (if t then y else v)
    go true p q = p refl
    go false p q = q refl

-- PIECES
point_caps : (s : List ℕ) → point_part (capitals s) ≡ point_part s
point_caps [] = refl
point_caps (c ∷ s) = λ j. if same_is 46 (omega arith) c j && starts_caps is_digit same_digit s j then suc (run_caps is_digit same_digit s j) else 0

number_caps : (s : List ℕ) → number_part (capitals s) ≡ number_part s
unfolding number_part
number_caps s =
    let n = run is_digit s in
    ap (λ (m : ℕ). m + point_part (drop m (capitals s))) (run_caps is_digit same_digit s)
    ∙ ap (λ (m : ℕ). n + m) (ap point_part (drop_map capital n s) ∙ point_caps (drop n s))

comment_caps : (s : List ℕ) → comment_part (capitals s) ≡ comment_part s
unfolding comment_part
comment_caps [] = refl
comment_caps (c ∷ []) = refl
comment_caps (c ∷ d ∷ s) =
    let e = comment_caps (d ∷ s) in
    λ j. elim (same_is 42 (omega arith) c j && same_is 41 (omega arith) d j) [
      | true ↦ some 2
      | false ↦ elim (e j) [ none ↦ none | some n ↦ some (suc n) ]
    ]

comment_piece_lem : (s : List ℕ) → comment_piece (capitals s) (comment_part (capitals s)) ≡ comment_piece s (comment_part s)
comment_piece_lem s = ap (comment_piece (capitals s)) (comment_caps s) ∙ go (comment_part s)
  where
    go : (o : Option ℕ) → comment_piece (capitals s) o ≡ comment_piece s o
    go none = rw (length_capitals s)
    go (some n) = refl

word_caps : (c : ℕ) (s : List ℕ) → word_piece (capital c) (capitals s) ≡ word_piece c s
unfolding word_piece
word_caps c s =
    let n = run is_name_byte s in
    ap (λ (m : ℕ). piece (word_kind (capital c ∷ take m (capitals s))) m) (run_caps is_name_byte same_name_lem s)
    ∙ ap (λ (k : ℕ). piece k n) (ap (λ (w : List ℕ). word_kind (capital c ∷ w)) (take_map capital n s) ∙ kind_caps (c ∷ take n s))

piece_caps : (c : ℕ) (s : List ℕ) → piece_at (capital c) (capitals s) ≡ piece_at c s
unfolding piece_at
piece_caps c s =
    branch (same_blank c) (λ h. refl) (λ h.
    branch (same_start c) (λ h. word_caps c s) (λ h.
    branch (same_digit c) (λ h. number) (λ h.
    branch (λ j. same_sign c j && starts_caps is_digit same_digit s j) (λ h. number) (λ h.
    branch (λ j. same_is 40 (omega arith) c j && starts_caps (eqb 42) (same_to 42 (omega arith)) s j) (λ h. comment) (λ h.
    branch (λ j. same_is 58 (omega arith) c j && starts_caps (eqb 61) (same_to 61 (omega arith)) s j) (λ h. refl) (λ h.
    branch (λ j. same_is 46 (omega arith) c j && starts_caps (eqb 46) (same_to 46 (omega arith)) s j) (λ h. refl) (λ h.
    branch (same_mark c) (λ h. ap (λ (k : ℕ). piece k 0) (own_mark c h)) (λ h. refl))))))))
  where
    number : piece NUMBER (number_part (capitals s)) ≡ piece NUMBER (number_part s)
    number = ap (piece NUMBER) (number_caps s)

    comment : comment_piece (drop 1 (capitals s)) (comment_part (drop 1 (capitals s))) ≡ comment_piece (drop 1 s) (comment_part (drop 1 s))
    comment = ap (λ (t : List ℕ). comment_piece t (comment_part t)) (drop_map capital 1 s) ∙ comment_piece_lem (drop 1 s)

-- NUMBERS have no letters
abbrev Own : List ℕ → Type 0
Own w = capitals w ≡ w

own_cons : (c : ℕ) (w : List ℕ) → capital c ≡ c → Own w → Own (c ∷ w)
own_cons c w e h = λ j. e j ∷ h j

own_run : (s : List ℕ) → Own (take (run is_digit s) s)
unfolding run
own_run [] = refl
own_run (c ∷ s) = go (is_digit c) refl (own_run s)
  where
    go : (b : Bool) → is_digit c ≡ b → Own (take (run is_digit s) s) → Own (take (run is_digit (c ∷ s)) (c ∷ s))
    go true e h = rw (e, run) (own_cons c _ (own_digit c e) h)
    go false e h = rw (e, run) refl

own_point_part : (s : List ℕ) → Own (take (point_part s) s)
own_point_part [] = refl
own_point_part (c ∷ s) = go (eqb c 46 && starts is_digit s) refl
  where
    go : (b : Bool) → eqb c 46 && starts is_digit s ≡ b → Own (take (point_part (c ∷ s)) (c ∷ s))
    go true e = rw e (own_cons c _ (own_point c (both _ _ e).0) (own_run s))
    go false e = rw e refl

own_number : (s : List ℕ) → Own (take (number_part s) s)
unfolding number_part run
own_number [] = refl
own_number (c ∷ s) = go (is_digit c) refl (own_number s)
  where
    go : (b : Bool) → is_digit c ≡ b → Own (take (number_part s) s) → Own (take (number_part (c ∷ s)) (c ∷ s))
    go true e h =
        let z : suc (run is_digit s) + point_part (drop (run is_digit s) s) ≡ suc (number_part s) = omega arith in
        rw (e, run) (rw z (own_cons c _ (own_digit c e) h))
    go false e h =
        let z : 0 + point_part (c ∷ s) ≡ point_part (c ∷ s) = omega arith in
        rw (e, run) (rw z (own_point_part (c ∷ s)))

-- the kinds of tokens whose text is known to have none
abbrev pub letterless : ℕ → Bool
letterless k = eqb k NUMBER || eqb k DOTS

not_letterless : (k : ℕ) → (k ≡ NUMBER → ⊥) → (k ≡ DOTS → ⊥) → letterless k ≡ false
not_letterless k f g = rw (ne_eqb k NUMBER f, ne_eqb k DOTS g)

module _ (c : ℕ) (s : List ℕ) where
  record Fit (q : Piece) : Type 0 where
    own : letterless q.kind ≡ true → Own (c ∷ take q.more s)

  other : {q : Piece} → letterless q.kind ≡ false → Fit q
  other f = record { own = λ z. clash (sym f ∙ z) }

  either : {p q : Piece} (b : Bool) → (b ≡ true → Fit p) → Fit q → Fit (if b then p else q)
  either true f g = f refl
  either false f g = g

  word_fits : Fit (word_piece c s)
  unfolding word_piece word_kind
  word_fits = go (tidy w) (is_keyword w) refl refl
    where
      w : List ℕ
      w = c ∷ take (run is_name_byte s) s

      go : (t k : Bool) → tidy w ≡ t → is_keyword w ≡ k → Fit (word_piece c s)
      go false k e f = other (rw e)
      go true true e f = other (rw (e, f) (not_letterless (128 + keyword_at w) (λ z. omega arith) (λ z. omega arith)))
      go true false e f = other (rw (e, f))

  comment_fits : (t : List ℕ) (o : Option ℕ) → Fit (comment_piece t o)
  comment_fits t none = other refl
  comment_fits t (some n) = other refl

  number_fits : capital c ≡ c → Fit (piece NUMBER (number_part s))
  number_fits e = record { own = λ z. own_cons c _ e (own_number s) }

  dots_fit : eqb c 46 && starts (eqb 46) s ≡ true → Fit (piece DOTS 1)
  dots_fit h = let e = both (eqb c 46) (starts (eqb 46) s) h in record { own = λ z. own_cons c _ (own_point c e.0) (go s e.1) }
    where
      go : (t : List ℕ) → starts (eqb 46) t ≡ true → Own (take 1 t)
      go [] h = refl
      go (d ∷ t) h = own_cons d [] (own_point d (eq-eqb d 46 (sym (eqb-true 46 d h)))) refl

  mark_fits : is_mark c ≡ true → Fit (piece c 0)
  mark_fits h = other (not_letterless c (λ z. clash (sym (ap is_mark z) ∙ h)) (λ z. clash (sym (ap is_mark z) ∙ h)))

  piece_fits : Fit (piece_at c s)
  unfolding piece_at
  piece_fits =
      either (is_blank c) (λ h. other refl)
      (either (starts_name c) (λ h. word_fits)
      (either (is_digit c) (λ h. number_fits (own_digit c h))
      (either (is_sign c && starts is_digit s) (λ h. number_fits (own_sign c (both _ _ h).0))
      (either (eqb c 40 && starts (eqb 42) s) (λ h. comment_fits (drop 1 s) (comment_part (drop 1 s)))
      (either (eqb c 58 && starts (eqb 61) s) (λ h. other refl)
      (either (eqb c 46 && starts (eqb 46) s) dots_fit
      (either (is_mark c) mark_fits (other refl))))))))

-- TOKENS
abbrev pub caps_text : ℕ → List ℕ → List ℕ
caps_text k w = if letterless k then w else capitals w

abbrev pub caps_token : Token → Token
caps_token t = token t.kind (caps_text t.kind t.text) t.place

-- the text of a piece
piece_text : (c : ℕ) (s : List ℕ) (k n : ℕ) → k ≡ (piece_at c s).kind → n ≡ (piece_at c s).more
    → take (suc n) (capitals (c ∷ s)) ≡ caps_text k (take (suc n) (c ∷ s))
piece_text c s k n e f = take_map capital (suc n) (c ∷ s) ∙ go (letterless k) refl
  where
    go : (b : Bool) → letterless k ≡ b → capitals (take (suc n) (c ∷ s)) ≡ caps_text k (take (suc n) (c ∷ s))
    go true h = rw (h, f) ((piece_fits c s).own (sym (ap letterless e) ∙ h))
    go false h = rw h refl

scan_caps : (n p : ℕ) (s : List ℕ) → scan n p (capitals s) ≡ map caps_token (scan n p s)
unfolding scan
scan_caps n p [] = refl
scan_caps (suc n) p (c ∷ s) = scan_caps n (suc p) s
scan_caps zero p (c ∷ s) =
    ap (λ (x : Piece). placed x p (capitals (c ∷ s)) (scan x.more (suc p) (capitals s))) (piece_caps c s)
    ∙ go (eqb q.kind BLANK) (scan_caps q.more (suc p) s)
  where
    q : Piece
    q = piece_at c s

    ts : List Token
    ts = scan q.more (suc p) s

    us : List Token
    us = scan q.more (suc p) (capitals s)

    go : (b : Bool) → us ≡ map caps_token ts
        → (if b then us else token q.kind (take (suc q.more) (capitals (c ∷ s))) p ∷ us)
        ≡ map caps_token (if b then ts else token q.kind (take (suc q.more) (c ∷ s)) p ∷ ts)
    go true h = h
    go false h = λ j. token q.kind (piece_text c s _ _ refl refl j) p ∷ h j

pub tokens_caps : (s : List ℕ) → tokens (capitals s) ≡ map caps_token (tokens s)
unfolding tokens
tokens_caps s = scan_caps 0 0 s
