-- Two names by their words without case: bytes without bit 5 tell the bytes of names apart as their capitals do.
use Rattle.std.specs.Prelude.{if◌then◌else◌}
use mathlib.Core.Path.{◌≡◌, refl, sym, ap, ◌∙◌, subst}
use mathlib.Core.List.{List, [], ◌∷◌, map}
use mathlib.Core.Bool.{Bool, true, false, ◌||◌, not, and-false}
use Prim.Native.Nat.{ℕ, zero, suc, ◌+◌, ◌*◌, ◌-◌, ◌/◌, ◌%◌, ◌≤◌, ◌<◌}
use native.Mathlib.Nat.{mod-eq_of_lt}
use native.Mathlib.Omega.{arith}
use borrow.Author.Tests.{ne_eqb, eqb-true, lt-leb, ltb-true, ltb-false}
use lib.Dec.{leb, ltb, eqb}
use lib.ListN.{length, get_or}
use lib.Seq.{ext_get_or}
use Rattle.model.specs.Basic.{between, all, run, gather, capital, capitals, same, tab}
use Rattle.model.specs.Tokens.{starts_name, is_name_byte, starts, is_name, same_name}
use Rattle.model.specs.Image.{bytes_of, name_at}
use Rattle.laws.proofs.Tests.{iff, both, and_i, clash}
use Rattle.laws.proofs.Lists.{all_at}
use Rattle.laws.proofs.Places.{same_eq, same_refl}
use Rattle.laws.proofs.Words.{by_case, length_capitals, byte_capitals}
use Rattle.layout.specs.Tables.{name_exact, front}
use Rattle.layout.proofs.Padded.{front_zero, front_more, agrees}
use Rattle.name_letters.specs.Letters.{caseless, letters_of, letters_at}

-- the bytes before the first zero, in capitals
capital_zero : (c : ℕ) → eqb (capital c) 0 ≡ eqb c 0
capital_zero c = by_case (λ d. eqb d 0 ≡ eqb c 0) c (λ l m. ne_eqb (c - 32) 0 (λ z. omega arith) ∙ sym (ne_eqb c 0 (λ z. omega arith))) refl

front_capitals : (s : List ℕ) → capitals (front s) ≡ front (capitals s)
unfolding run
front_capitals [] = refl
front_capitals (c ∷ s) = go (eqb c 0) refl (front_capitals s)
  where
    go : (b : Bool) → eqb c 0 ≡ b → capitals (front s) ≡ front (capitals s) → capitals (front (c ∷ s)) ≡ front (capitals (c ∷ s))
    go true e ih = ap capitals (front_zero c s e) ∙ sym (front_zero (capital c) (capitals s) (capital_zero c ∙ e))
    go false e ih =
        ap capitals (front_more c s e) ∙ ap (λ (l : List ℕ). capital c ∷ l) ih ∙ sym (front_more (capital c) (capitals s) (capital_zero c ∙ e))

-- WITHOUT CASE
-- a byte of a name, or what fills it up
abbrev fits : ℕ → Bool
fits c = is_name_byte c || eqb c 0

-- the capital of such a byte from its byte without case
abbrev back : ℕ → ℕ
back c = if between 16 25 c then c + 32 else c

back_rule : ℕ → Bool
back_rule c = not (fits c) || eqb (capital c) (back (caseless c))

back_rule_lem : (c : ℕ) → c < 128 → back_rule c ≡ true
unfolding back_rule all tab
back_rule_lem c h = let z : 0 + c ≡ c = omega arith in rw z at (all_at back_rule (λ c. c) 128 0 c h refl)

not_above : (a b c : ℕ) → b < c → between a b c ≡ false
not_above a b c h = simp (lt-leb c b h) (and-false (leb a c))

fits_low : (c : ℕ) → fits c ≡ true → c < 128
fits_low c f = go (ltb c 128) refl
  where
    go : (b : Bool) → ltb c 128 ≡ b → c < 128
    go true e = ltb-true c 128 e
    go false e =
        let h : 128 ≤ c = ltb-false c 128 e in
        clash (sym (simp (not_above 65 90 c (omega arith), not_above 97 122 c (omega arith), not_above 48 57 c (omega arith), ne_eqb c 95 (λ z. omega arith), ne_eqb c 0 (λ z. omega arith))) ∙ f)

told : (b c : ℕ) → fits b ≡ true → fits c ≡ true → caseless b ≡ caseless c → capital b ≡ capital c
unfolding back_rule
told b c f g e = from b f ∙ ap back e ∙ sym (from c g)
  where
    from : (d : ℕ) → fits d ≡ true → capital d ≡ back (caseless d)
    from d h = eqb-true _ _ (simp h at (back_rule_lem d (fits_low d h)))

kept : (c : ℕ) → caseless (capital c) ≡ caseless c
kept c = by_case (λ d. caseless d ≡ caseless c) c (λ l m. omega (arith, l, m)) refl

all_told : (s t : List ℕ) → all fits s ≡ true → all fits t ≡ true → same (map caseless s) (map caseless t) ≡ true → capitals s ≡ capitals t
unfolding all
all_told [] [] f g e = refl
all_told [] (c ∷ t) f g e = clash e
all_told (b ∷ s) [] f g e = clash e
all_told (b ∷ s) (c ∷ t) f g e =
    let p = both (fits b) (all fits s) f in
    let q = both (fits c) (all fits t) g in
    let r = both (eqb (caseless b) (caseless c)) (same (map caseless s) (map caseless t)) e in
    λ j. told b c p.0 q.0 (eqb-true _ _ r.0) j ∷ all_told s t p.1 q.1 r.1 j

all_kept : (s : List ℕ) → map caseless (capitals s) ≡ map caseless s
all_kept [] = refl
all_kept (c ∷ s) = λ j. kept c j ∷ all_kept s j

-- THE BYTES OF A NAME IN ITS FIELD
name_fits : (l : List ℕ) → all is_name_byte l ≡ true → (k : ℕ) → fits (get_or l k 0) ≡ true
unfolding all
name_fits [] h k = refl
name_fits (c ∷ l) h zero = simp (both (is_name_byte c) (all is_name_byte l) h).0
name_fits (c ∷ l) h (suc k) = name_fits l (both (is_name_byte c) (all is_name_byte l) h).1 k

all_fits : (s : List ℕ) → ((k : ℕ) → k < length s → fits (get_or s k 0) ≡ true) → all fits s ≡ true
unfolding all
all_fits [] h = refl
all_fits (c ∷ s) h = and_i (fits c) (all fits s) (h 0 (omega arith)) (all_fits s (λ k l. h (suc k) (omega arith)))

module _ (w : ℕ → ℕ) (o : ℕ) (g : name_exact w o ≡ true) (n : is_name (name_at w o) ≡ true) where
  abbrev field : List ℕ
  field = bytes_of (tab w 4 o)

  field_long : length (bytes_of (tab w 4 o)) ≡ 16
  unfolding bytes_of gather tab
  field_long = refl

  letters_only : all is_name_byte (front (bytes_of (tab w 4 o))) ≡ true
  unfolding is_name name_at
  letters_only =
      let v = front field in
      (both (all is_name_byte v) _ (both (starts starts_name v) _ n).1).0

  field_fits : (k : ℕ) → k < 16 → fits (get_or (bytes_of (tab w 4 o)) k 0) ≡ true
  field_fits k h = subst (λ (c : ℕ). fits c ≡ true) (agrees w o g k h) (name_fits (front field) letters_only k)

  all_field : all fits (bytes_of (tab w 4 o)) ≡ true
  all_field = all_fits field (λ k h. field_fits k (omega (arith, field_long)))

  -- the capitals of the field from those of the name
  field_capitals : (t : List ℕ) → length t ≡ 16 → ((k : ℕ) → k < 16 → get_or (front t) k 0 ≡ get_or t k 0) → capitals (front (bytes_of (tab w 4 o))) ≡ capitals (front t)
      → capitals (bytes_of (tab w 4 o)) ≡ capitals t
  field_capitals t l h e =
      ext_get_or 0 (capitals field) (capitals t) (length_capitals field ∙ field_long ∙ sym (length_capitals t ∙ l))
      (λ k b.
      let c : k < 16 = omega (arith, length_capitals field, field_long) in
      byte_capitals field k ∙ ap capital (sym (agrees w o g k c)) ∙ sym (byte_capitals (front field) k)
      ∙ ap (λ (v : List ℕ). get_or v k 0) e ∙ byte_capitals (front t) k ∙ ap capital (h k c) ∙ sym (byte_capitals t k))

-- ONE WORD
whole : (x : ℕ) → fits (x / 16777216) ≡ true → x / 16777216 % 256 ≡ x / 16777216
whole x h = mod-eq_of_lt (omega (arith, fits_low (x / 16777216) h))

module _ (x y : ℕ) (fx : fits (x / 16777216) ≡ true) (fy : fits (y / 16777216) ≡ true) where
  letters_from : caseless (x % 256) ≡ caseless (y % 256) → caseless (x / 256 % 256) ≡ caseless (y / 256 % 256)
      → caseless (x / 65536 % 256) ≡ caseless (y / 65536 % 256) → caseless (x / 16777216) ≡ caseless (y / 16777216) → letters_of x ≡ letters_of y
  letters_from a b c d =
      let e : caseless (x / 16777216 % 256) ≡ caseless (y / 16777216 % 256) = ap caseless (whole x fx) ∙ d ∙ sym (ap caseless (whole y fy)) in
      λ j. a j + b j * 256 + c j * 65536 + e j * 16777216

  letters_to : letters_of x ≡ letters_of y
      → (caseless (x % 256) ≡ caseless (y % 256)) × (caseless (x / 256 % 256) ≡ caseless (y / 256 % 256))
      × (caseless (x / 65536 % 256) ≡ caseless (y / 65536 % 256)) × (caseless (x / 16777216) ≡ caseless (y / 16777216))
  letters_to e =
      let d = digits (caseless (x % 256)) (caseless (x / 256 % 256)) (caseless (x / 65536 % 256)) (caseless (x / 16777216 % 256))
      (caseless (y % 256)) (caseless (y / 256 % 256)) (caseless (y / 65536 % 256)) (caseless (y / 16777216 % 256))
      (small (x % 256) (omega arith)) (small (x / 256 % 256) (omega arith)) (small (x / 65536 % 256) (omega arith))
      (small (y % 256) (omega arith)) (small (y / 256 % 256) (omega arith)) (small (y / 65536 % 256) (omega arith)) e in
      (d.0, d.1, d.2, sym (ap caseless (whole x fx)) ∙ d.3 ∙ ap caseless (whole y fy))
    where
      small : (c : ℕ) → c < 256 → caseless c < 256
      small c h = omega arith

      digits : (a b c d e f g h : ℕ) → a < 256 → b < 256 → c < 256 → e < 256 → f < 256 → g < 256
          → a + b * 256 + c * 65536 + d * 16777216 ≡ e + f * 256 + g * 65536 + h * 16777216 → (a ≡ e) × (b ≡ f) × (c ≡ g) × (d ≡ h)
      digits a b c d e f g h la lb lc le lf lg q = (omega arith, omega arith, omega arith, omega arith)

-- FOUR WORDS
module _ (w : ℕ → ℕ) (o q : ℕ) (go : name_exact w o ≡ true) (no : is_name (name_at w o) ≡ true) (gq : name_exact w q ≡ true) (nq : is_name (name_at w q) ≡ true) where
  words_to : same (tab (letters_at w) 4 o) (tab (letters_at w) 4 q) ≡ true → map caseless (bytes_of (tab w 4 o)) ≡ map caseless (bytes_of (tab w 4 q))
  unfolding bytes_of gather tab
  words_to e =
      let fo = field_fits w o go no in
      let fq = field_fits w q gq nq in
      let l = same_eq (tab (letters_at w) 4 o) (tab (letters_at w) 4 q) e in
      let a = letters_to (w o) (w q) (fo 3 (omega arith)) (fq 3 (omega arith)) (ap (λ (v : List ℕ). get_or v 0 0) l) in
      let b = letters_to (w (suc o)) (w (suc q)) (fo 7 (omega arith)) (fq 7 (omega arith)) (ap (λ (v : List ℕ). get_or v 1 0) l) in
      let c = letters_to (w (suc (suc o))) (w (suc (suc q))) (fo 11 (omega arith)) (fq 11 (omega arith)) (ap (λ (v : List ℕ). get_or v 2 0) l) in
      let d = letters_to (w (suc (suc (suc o)))) (w (suc (suc (suc q)))) (fo 15 (omega arith)) (fq 15 (omega arith)) (ap (λ (v : List ℕ). get_or v 3 0) l) in
      λ j. a.0 j ∷ a.1 j ∷ a.2 j ∷ a.3 j ∷ b.0 j ∷ b.1 j ∷ b.2 j ∷ b.3 j ∷ c.0 j ∷ c.1 j ∷ c.2 j ∷ c.3 j ∷ d.0 j ∷ d.1 j ∷ d.2 j ∷ d.3 j ∷ []

  words_from : map caseless (bytes_of (tab w 4 o)) ≡ map caseless (bytes_of (tab w 4 q)) → tab (letters_at w) 4 o ≡ tab (letters_at w) 4 q
  unfolding bytes_of gather tab
  words_from e =
      let fo = field_fits w o go no in
      let fq = field_fits w q gq nq in
      let at : (k : ℕ) → get_or (map caseless (bytes_of (tab w 4 o))) k 0 ≡ get_or (map caseless (bytes_of (tab w 4 q))) k 0 = λ k. ap (λ (v : List ℕ). get_or v k 0) e in
      let a = letters_from (w o) (w q) (fo 3 (omega arith)) (fq 3 (omega arith)) (at 0) (at 1) (at 2) (at 3) in
      let b = letters_from (w (suc o)) (w (suc q)) (fo 7 (omega arith)) (fq 7 (omega arith)) (at 4) (at 5) (at 6) (at 7) in
      let c = letters_from (w (suc (suc o))) (w (suc (suc q))) (fo 11 (omega arith)) (fq 11 (omega arith)) (at 8) (at 9) (at 10) (at 11) in
      let d = letters_from (w (suc (suc (suc o)))) (w (suc (suc (suc q)))) (fo 15 (omega arith)) (fq 15 (omega arith)) (at 12) (at 13) (at 14) (at 15) in
      λ j. a j ∷ b j ∷ c j ∷ d j ∷ []

  same_letters : same (tab (letters_at w) 4 o) (tab (letters_at w) 4 q) ≡ same_name (name_at w o) (name_at w q)
  unfolding name_at same_name
  same_letters =
      let s = bytes_of (tab w 4 o) in
      let t = bytes_of (tab w 4 q) in
      iff (same (tab (letters_at w) 4 o) (tab (letters_at w) 4 q)) (same (capitals (front s)) (capitals (front t)))
      (λ e.
      let m = words_to e in
      let c = all_told s t (all_field w o go no) (all_field w q gq nq) (rw m (same_refl (map caseless t))) in
      rw (front_capitals s ∙ ap front c ∙ sym (front_capitals t)) (same_refl (capitals (front t))))
      (λ e.
      let c = field_capitals w o go no t (field_long w q gq nq) (agrees w q gq) (same_eq (capitals (front s)) (capitals (front t)) e) in
      rw (words_from (sym (all_kept s) ∙ ap (map caseless) c ∙ all_kept t)) (same_refl (tab (letters_at w) 4 q)))

pub same_names : (w : ℕ → ℕ) (o q : ℕ) → (name_exact w o ≡ true) × (is_name (name_at w o) ≡ true) → (name_exact w q ≡ true) × (is_name (name_at w q) ≡ true)
    → same (tab (letters_at w) 4 o) (tab (letters_at w) 4 q) ≡ same_name (name_at w o) (name_at w q)
same_names w o q g h = same_letters w o q g.0 g.1 h.0 h.1
