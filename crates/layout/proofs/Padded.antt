-- The bytes of an exact name are those before the first zero, and zeros.
use mathlib.Core.Path.{◌≡◌, refl, sym, ap, ◌∙◌}
use mathlib.Core.List.{List, [], ◌∷◌}
use mathlib.Core.Bool.{Bool, true, false, not}
use Prim.Native.Nat.{ℕ, zero, suc, ◌+◌, ◌*◌, ◌/◌, ◌%◌, ◌≤◌, ◌<◌}
use native.Mathlib.Omega.{arith}
use lib.Dec.{eqb}
use lib.ListN.{take, get_or}
use Rattle.model.specs.Basic.{run, gather, tab}
use Rattle.model.specs.Image.{word_at, bytes_of, name_words, name_at}
use Rattle.words.proofs.Bytes.{words_at}
use Rattle.layout.specs.Tables.{name_exact, front}
use Rattle.layout.proofs.RowLaws.{stands}

pub front_zero : (c : ℕ) (l : List ℕ) → eqb c 0 ≡ true → front (c ∷ l) ≡ []
unfolding run
front_zero c l e = ap (λ (b : Bool). take (elim (not b) [ true ↦ suc (run (λ x. not (eqb x 0)) l) | false ↦ 0 ]) (c ∷ l)) e

pub front_more : (c : ℕ) (l : List ℕ) → eqb c 0 ≡ false → front (c ∷ l) ≡ c ∷ front l
unfolding run
front_more c l e = ap (λ (b : Bool). take (elim (not b) [ true ↦ suc (run (λ x. not (eqb x 0)) l) | false ↦ 0 ]) (c ∷ l)) e

below : (l : List ℕ) (k : ℕ) → get_or (front l) k 0 ≤ get_or l k 0
unfolding run
below [] k = omega arith
below (c ∷ l) k = go (λ j. below l j) (eqb c 0) refl k
  where
    go : ((j : ℕ) → get_or (front l) j 0 ≤ get_or l j 0) → (b : Bool) → eqb c 0 ≡ b → (k : ℕ) → get_or (front (c ∷ l)) k 0 ≤ get_or (c ∷ l) k 0
    go ih true e k = rw (front_zero c l e) (omega arith)
    go ih false e zero = rw (front_more c l e) (omega arith)
    go ih false e (suc k) = rw (front_more c l e) (ih k)

-- bytes that are at most others, of words that are equal
byte_agree : (s l : List ℕ) → ((k : ℕ) → get_or s k 0 ≤ get_or l k 0) → (i j : ℕ) → j < 4 → word_at s i ≡ word_at l i → get_or s (i * 4 + j) 0 ≡ get_or l (i * 4 + j) 0
unfolding word_at
byte_agree s l h i zero g e =
    let z : i * 4 + 0 ≡ i * 4 = omega arith in
    rw z (omega (arith, h (i * 4), h (i * 4 + 1), h (i * 4 + 2), h (i * 4 + 3)))
byte_agree s l h i (suc zero) g e = omega (arith, h (i * 4), h (i * 4 + 1), h (i * 4 + 2), h (i * 4 + 3))
byte_agree s l h i (suc (suc zero)) g e = omega (arith, h (i * 4), h (i * 4 + 1), h (i * 4 + 2), h (i * 4 + 3))
byte_agree s l h i (suc (suc (suc zero))) g e = omega (arith, h (i * 4), h (i * 4 + 1), h (i * 4 + 2), h (i * 4 + 3))
byte_agree s l h i (suc (suc (suc (suc j)))) g e = absurd (omega arith)

module _ (w : ℕ → ℕ) (o : ℕ) where
  abbrev bytes : List ℕ
  bytes = bytes_of (tab w 4 o)

  pub agrees : name_exact w o ≡ true → (k : ℕ) → k < 16 → get_or (front (bytes_of (tab w 4 o))) k 0 ≡ get_or (bytes_of (tab w 4 o)) k 0
  unfolding name_exact name_words name_at bytes_of gather tab
  agrees h k g =
      let a = stands w o 4 (name_words (front bytes)) h in
      let b = words_at (tab w 4 o) in
      let a2 = a.1.1 in
      let b2 = b.1.1 in
      let words : (i : ℕ) → i < 4 → word_at (front bytes) i ≡ word_at bytes i =
      go (front bytes) bytes a.0 a.1.0 a2.0 a2.1.0 b.0 b.1.0 b2.0 b2.1.0 in
      let e : k / 4 * 4 + k % 4 ≡ k = omega arith in
      let there = words (k / 4) (omega arith) in
      ap (λ (j : ℕ). get_or (front bytes) j 0) (sym e)
      ∙ byte_agree (front bytes) bytes (below bytes) (k / 4) (k % 4) (omega arith) there
      ∙ ap (λ (j : ℕ). get_or bytes j 0) e
    where
      go : {x y z u : ℕ} (s l : List ℕ) → x ≡ word_at s 0 → y ≡ word_at s 1 → z ≡ word_at s 2 → u ≡ word_at s 3
          → word_at l 0 ≡ x → word_at l 1 ≡ y → word_at l 2 ≡ z → word_at l 3 ≡ u → (i : ℕ) → i < 4 → word_at s i ≡ word_at l i
      go s t a b c d e f g h zero l = sym (e ∙ a)
      go s t a b c d e f g h (suc zero) l = sym (f ∙ b)
      go s t a b c d e f g h (suc (suc zero)) l = sym (g ∙ c)
      go s t a b c d e f g h (suc (suc (suc zero))) l = sym (h ∙ d)
      go s t a b c d e f g h (suc (suc (suc (suc i)))) l = absurd (omega arith)
