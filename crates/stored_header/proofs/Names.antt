-- A name's words are those of its bytes before the first zero exactly when no other byte follows it.
use Rattle.std.specs.Prelude.{if◌then◌else◌}
use mathlib.Core.Path.{◌≡◌, refl, sym, ap, ◌∙◌}
use mathlib.Core.List.{List, [], ◌∷◌}
use mathlib.Core.Bool.{Bool, true, false}
use Prim.Native.Nat.{ℕ, zero, suc, ◌+◌, ◌*◌, ◌/◌, ◌%◌, ◌<◌}
use native.Mathlib.Omega.{arith}
use lib.Dec.{leb, ltb, eqb}
use lib.ListN.{length, get_or}
use borrow.Author.Tests.{eq-eqb, ne_eqb, eqb-true, ltb-true, ltb-false}
use Rattle.model.specs.Basic.{run, gather, tab}
use Rattle.model.specs.Image.{word_at, word_bytes, bytes_of, name_words, name_at}
use Rattle.laws.proofs.Tests.{iff, clash}
use Rattle.words.proofs.Bytes.{words_at}
use Rattle.layout.specs.Tables.{name_exact, front}
use Rattle.layout.proofs.RowLaws.{stood}
use Rattle.layout.proofs.Padded.{front_zero, front_more, agrees}
use Rattle.stored_header.specs.Tests.{pad_step, pad_run}

dead : (l : List ℕ) → pad_run 2 l ≡ 2
unfolding pad_run pad_step
dead [] = refl
dead (c ∷ l) = go (dead l) (eqb c 0) refl
  where
    go : pad_run 2 l ≡ 2 → (b : Bool) → eqb c 0 ≡ b → pad_run 2 (c ∷ l) ≡ 2
    go ih true e = simp e ih
    go ih false e = simp e ih

-- ONE WORD
-- a word whose upper bytes are zero
module _ (x : ℕ) where
  below_3 : x / 16777216 ≡ 0 → x / 65536 % 256 ≡ 0 → x < 65536
  below_3 e f = omega arith

  below_2 : x / 16777216 ≡ 0 → x / 65536 % 256 ≡ 0 → x / 256 % 256 ≡ 0 → x < 256
  below_2 e f g = let h = below_3 e f in omega (arith, h, g)

  below_1 : x / 16777216 ≡ 0 → x / 65536 % 256 ≡ 0 → x / 256 % 256 ≡ 0 → x % 256 ≡ 0 → x < 1
  below_1 e f g k = let h = below_2 e f g in omega (arith, h, k)

abbrev Zeros : List ℕ → Type 0
Zeros [] = Unit {0}
Zeros (c ∷ l) = (c ≡ 0) × Zeros l

module _ (m : ℕ) (h : m ≡ 0 → ⊥) where
  stays : (l : List ℕ) → Zeros l → pad_run m l ≡ m
  unfolding pad_run pad_step
  stays [] z = refl
  stays (c ∷ l) z = simp (eq-eqb c 0 z.0, ne_eqb m 0 h) (stays l z.1)

  breaks : (l : List ℕ) → (Zeros l → ⊥) → pad_run m l ≡ 2
  unfolding pad_run pad_step
  breaks [] f = absurd (f tt)
  breaks (c ∷ l) f = go (λ g. breaks l g) (eqb c 0) refl
    where
      go : ((Zeros l → ⊥) → pad_run m l ≡ 2) → (b : Bool) → eqb c 0 ≡ b → pad_run m (c ∷ l) ≡ 2
      go ih true e = simp (e, ne_eqb m 0 h) (ih (λ z. f (eqb-true c 0 e, z)))
      go ih false e = simp (e, ne_eqb m 0 h) (dead l)

  -- x is below n where only zeros follow
  pub padding : (l : List ℕ) (x n : ℕ) → (Zeros l → x < n) → (x < n → Zeros l) → pad_run m l ≡ if ltb x n then m else 2
  padding l x n f g = go (ltb x n) refl
    where
      go : (b : Bool) → ltb x n ≡ b → pad_run m l ≡ if b then m else 2
      go true e = stays l (g (ltb-true x n e))
      go false e = breaks l (λ z. absurd (omega (arith, f z, ltb-false x n e)))

  pub pad_more : (x : ℕ) → pad_run m (word_bytes x) ≡ if ltb x 1 then m else 2
  pad_more x =
      padding (word_bytes x) x 1 (λ z. below_1 x z.1.1.1.0 z.1.1.0 z.1.0 z.0)
      (λ g. (omega arith, (omega arith, (omega arith, (omega arith, tt)))))

module _ (c : ℕ) (l : List ℕ) where
  pad_zero : c ≡ 0 → pad_run 0 (c ∷ l) ≡ pad_run 1 l
  unfolding pad_run pad_step
  pad_zero e = simp (eq-eqb c 0 e)

  pad_letter : (c ≡ 0 → ⊥) → pad_run 0 (c ∷ l) ≡ pad_run 0 l
  unfolding pad_run pad_step
  pad_letter f = simp (ne_eqb c 0 f)

module _ (x : ℕ) where
  pub pad_0 : x % 256 ≡ 0 → pad_run 0 (word_bytes x) ≡ if ltb x 1 then 1 else 2
  pad_0 e =
      pad_zero _ _ e
      ∙ padding 1 (λ z. omega arith) (x / 256 % 256 ∷ x / 65536 % 256 ∷ x / 16777216 ∷ []) x 1
      (λ z. below_1 x z.1.1.0 z.1.0 z.0 e) (λ g. (omega arith, (omega arith, (omega arith, tt))))

  module _ (a : x % 256 ≡ 0 → ⊥) where
    pub pad_1 : x / 256 % 256 ≡ 0 → pad_run 0 (word_bytes x) ≡ if ltb x 256 then 1 else 2
    pad_1 e =
        pad_letter _ _ a
        ∙ pad_zero _ _ e
        ∙ padding 1 (λ z. omega arith) (x / 65536 % 256 ∷ x / 16777216 ∷ []) x 256
        (λ z. below_2 x z.1.0 z.0 e) (λ g. (omega arith, (omega arith, tt)))

    module _ (b : x / 256 % 256 ≡ 0 → ⊥) where
      pub pad_2 : x / 65536 % 256 ≡ 0 → pad_run 0 (word_bytes x) ≡ if ltb x 65536 then 1 else 2
      pad_2 e =
          pad_letter _ _ a
          ∙ pad_letter _ _ b
          ∙ pad_zero _ _ e
          ∙ padding 1 (λ z. omega arith) (x / 16777216 ∷ []) x 65536 (λ z. below_3 x z.0 e) (λ g. (omega arith, tt))

      module _ (d : x / 65536 % 256 ≡ 0 → ⊥) where
        pub pad_3 : x / 16777216 ≡ 0 → pad_run 0 (word_bytes x) ≡ 1
        pad_3 e = pad_letter _ _ a ∙ pad_letter _ _ b ∙ pad_letter _ _ d ∙ pad_zero _ _ e ∙ unfold pad_run in refl

        pub pad_4 : (x / 16777216 ≡ 0 → ⊥) → pad_run 0 (word_bytes x) ≡ 0
        pad_4 f = pad_letter _ _ a ∙ pad_letter _ _ b ∙ pad_letter _ _ d ∙ pad_letter _ _ f ∙ unfold pad_run in refl

-- ALL BYTES
zeros : (l : List ℕ) → leb (pad_run 1 l) 1 ≡ true → (k : ℕ) → 0 ≡ get_or l k 0
unfolding pad_run pad_step
zeros [] h k = refl
zeros (c ∷ l) h k = go (λ g. zeros l g) (eqb c 0) refl k
  where
    go : (leb (pad_run 1 l) 1 ≡ true → (j : ℕ) → 0 ≡ get_or l j 0) → (b : Bool) → eqb c 0 ≡ b → (k : ℕ) → 0 ≡ get_or (c ∷ l) k 0
    go ih true e zero = sym (eqb-true c 0 e)
    go ih true e (suc k) = ih (simp e at h) k
    go ih false e k = clash (simp (e, dead l) at h)

no_zeros : (l : List ℕ) → ((k : ℕ) → k < length l → 0 ≡ get_or l k 0) → pad_run 1 l ≡ 1
unfolding pad_run pad_step
no_zeros [] h = refl
no_zeros (c ∷ l) h =
    let e : c ≡ 0 = sym (h 0 (omega arith)) in
    simp (eq-eqb c 0 e) (no_zeros l (λ k g. h (suc k) (omega arith)))

padded : (l : List ℕ) → leb (pad_run 0 l) 1 ≡ true → (k : ℕ) → get_or (front l) k 0 ≡ get_or l k 0
unfolding pad_run pad_step run
padded [] h k = refl
padded (c ∷ l) h k = go (λ g. padded l g) (eqb c 0) refl k
  where
    go : (leb (pad_run 0 l) 1 ≡ true → (j : ℕ) → get_or (front l) j 0 ≡ get_or l j 0) → (b : Bool) → eqb c 0 ≡ b
        → (k : ℕ) → get_or (front (c ∷ l)) k 0 ≡ get_or (c ∷ l) k 0
    go ih true e zero = ap (λ (t : List ℕ). get_or t 0 0) (front_zero c l e) ∙ sym (eqb-true c 0 e)
    go ih true e (suc k) = ap (λ (t : List ℕ). get_or t (suc k) 0) (front_zero c l e) ∙ zeros l (simp e at h) k
    go ih false e zero = ap (λ (t : List ℕ). get_or t 0 0) (front_more c l e)
    go ih false e (suc k) = ap (λ (t : List ℕ). get_or t (suc k) 0) (front_more c l e) ∙ ih (simp e at h) k

pads : (l : List ℕ) → ((k : ℕ) → k < length l → get_or (front l) k 0 ≡ get_or l k 0) → leb (pad_run 0 l) 1 ≡ true
unfolding pad_run pad_step
pads [] h = refl
pads (c ∷ l) h = go (λ g. pads l g) (eqb c 0) refl
  where
    go : (((k : ℕ) → k < length l → get_or (front l) k 0 ≡ get_or l k 0) → leb (pad_run 0 l) 1 ≡ true) → (b : Bool) → eqb c 0 ≡ b → leb (pad_run 0 (c ∷ l)) 1 ≡ true
    go ih true e = simp (e, no_zeros l (λ k g. sym (ap (λ (t : List ℕ). get_or t (suc k) 0) (front_zero c l e)) ∙ h (suc k) (omega arith)))
    go ih false e = simp e (ih (λ k g. sym (ap (λ (t : List ℕ). get_or t (suc k) 0) (front_more c l e)) ∙ h (suc k) (omega arith)))

word_agree : (s l : List ℕ) → ((k : ℕ) → get_or s k 0 ≡ get_or l k 0) → (i : ℕ) → word_at s i ≡ word_at l i
unfolding word_at
word_agree s l h i = λ j. h (i * 4) j + h (i * 4 + 1) j * 256 + h (i * 4 + 2) j * 65536 + h (i * 4 + 3) j * 16777216

module _ (w : ℕ → ℕ) (o : ℕ) where
  abbrev bytes : List ℕ
  bytes = bytes_of (tab w 4 o)

  to : name_exact w o ≡ true → leb (pad_run 0 bytes) 1 ≡ true
  unfolding bytes_of gather tab
  to h = pads bytes (agrees w o h)

  from : leb (pad_run 0 bytes) 1 ≡ true → name_exact w o ≡ true
  unfolding name_exact name_words name_at tab
  from h =
      let b = words_at (tab w 4 o) in
      let a = word_agree (front bytes) bytes (padded bytes h) in
      stood w o 4 (name_words (front bytes)) refl (sym (a 0 ∙ b.0), (sym (a 1 ∙ b.1.0), (sym (a 2 ∙ b.1.1.0), (sym (a 3 ∙ b.1.1.1.0), tt))))

  name_spelt : name_exact w o ≡ leb (pad_run 0 bytes) 1
  name_spelt = iff (name_exact w o) (leb (pad_run 0 bytes) 1) to from

  -- word by word
  pub name_tests : (x y z u a b c : ℕ) → x ≡ w o → y ≡ w (o + 1) → z ≡ w (o + 2) → u ≡ w (o + 3)
      → a ≡ pad_run 0 (word_bytes x) → b ≡ pad_run a (word_bytes y) → c ≡ pad_run b (word_bytes z) → leb (pad_run c (word_bytes u)) 1 ≡ name_exact w o
  unfolding pad_run bytes_of gather tab
  name_tests x y z u a b c ex ey ez eu ea eb ec =
      let e1 : o + 1 ≡ suc o = omega arith in
      let e2 : o + 2 ≡ suc (suc o) = omega arith in
      let e3 : o + 3 ≡ suc (suc (suc o)) = omega arith in
      let fy : y ≡ w (suc o) = ey ∙ ap w e1 in
      let fz : z ≡ w (suc (suc o)) = ez ∙ ap w e2 in
      let fu : u ≡ w (suc (suc (suc o))) = eu ∙ ap w e3 in
      rw (ec, eb, ea) ((λ j. leb (pad_run 0 (bytes_of (ex j ∷ fy j ∷ fz j ∷ fu j ∷ []))) 1) ∙ sym name_spelt)
