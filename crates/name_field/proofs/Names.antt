-- The bytes of four words are those of the image; a name is those before the first zero.
use mathlib.Core.Path.{◌≡◌, refl, sym, ap, ◌∙◌}
use mathlib.Core.Bool.{Bool, true, false, not}
use mathlib.Core.List.{List, [], ◌∷◌}
use Prim.Native.Nat.{ℕ, suc, ◌+◌, ◌*◌, ◌≤◌, ◌<◌}
use native.Mathlib.Omega.{arith}
use borrow.Author.Tests.{ltb-false, ltb-true}
use lib.Dec.{ltb, eqb}
use lib.ListN.{length, take, drop, get_or, length-drop, get_or-eq_default}
use lib.Seq.{length-take-le, get_or-take, get_or-drop}
use Rattle.std.specs.Option.{unwrap_or}
use Rattle.std.specs.List.{position, prefix_len}
use Rattle.std.proofs.lemmas.List.Sums.{prefix_len-le-length}
use Rattle.model.specs.Basic.{run, tab}
use Rattle.model.specs.Image.{word_at, bytes_of, name_at}
use Rattle.laws.proofs.Places.{At, tab_nth}
use Rattle.characters.proofs.Laws.{run_in, run_out}
use Rattle.words.proofs.Bytes.{bytes_at, part_word}

-- what stands past the end is 0
low : (xs : List ℕ) → ((k : ℕ) → k < length xs → get_or xs k 0 < 256) → (k : ℕ) → get_or xs k 0 < 256
low xs f k = go (ltb k (length xs)) refl
  where
    go : (b : Bool) → ltb k (length xs) ≡ b → get_or xs k 0 < 256
    go true e = f k (ltb-true k (length xs) e)
    go false e = rw (get_or-eq_default xs 0 (ltb-false k (length xs) e)) (omega arith)

module _ (img : List ℕ) (o : ℕ) where
  abbrev pub byte_of : ℕ → ℕ
  byte_of k = get_or img (o * 4 + k) 0

  gives : (i k : ℕ) → i * 4 ≡ o * 4 + k
      → word_at img i ≡ byte_of k + byte_of (k + 1) * 256 + byte_of (k + 2) * 65536 + byte_of (k + 3) * 16777216
  unfolding word_at
  gives i k e =
      let e1 : i * 4 + 1 ≡ o * 4 + (k + 1) = omega arith in
      let e2 : i * 4 + 2 ≡ o * 4 + (k + 2) = omega arith in
      let e3 : i * 4 + 3 ≡ o * 4 + (k + 3) = omega arith in
      rw (e1, e2, e3, e)

  -- the bytes of four words are those of the image
  pub four_words : ((k : ℕ) → get_or img k 0 < 256) → tab byte_of 16 0 ≡ bytes_of (tab (word_at img) 4 o)
  unfolding tab word_at
  four_words f = bytes_at (tab byte_of 16 0) (tab (word_at img) 4 o) (low (tab byte_of 16 0) small) refl stands
    where
      small : (k : ℕ) → k < 16 → get_or (tab byte_of 16 0) k 0 < 256
      small k h = rw (tab_nth byte_of 16 0 k 0 h) (f (o * 4 + (0 + k)))

      stands : At (word_at (tab byte_of 16 0)) 0 (tab (word_at img) 4 o)
      stands = (
        sym (gives o 0 (omega arith)),
        (
          sym (gives (suc o) 4 (omega arith)),
          (
            sym (gives (suc (suc o)) 8 (omega arith)),
            (sym (gives (suc (suc (suc o))) 12 (omega arith)), tt),
          ),
        ),
      )

  -- and a part of it, where it goes that far
  pub part_bytes : ((k : ℕ) → get_or img k 0 < 256) → (n : ℕ) → n ≡ 16 → o * 4 + n ≤ length img → take n (drop (o * 4) img) ≡ bytes_of (tab (word_at img) 4 o)
  unfolding tab
  part_bytes f n e h = bytes_at part (tab (word_at img) 4 o) (low part small) long (word 0 o (omega arith) (omega arith), (word 1 (suc o) (omega arith) (omega arith), (word 2 (suc (suc o)) (omega arith) (omega arith), (word 3 (suc (suc (suc o))) (omega arith) (omega arith), tt))))
    where
      part : List ℕ
      part = take n (drop (o * 4) img)

      long : length part ≡ 16
      long = length-take-le n (drop (o * 4) img) (omega (arith, length-drop (o * 4) img)) ∙ e

      small : (k : ℕ) → k < length part → get_or part k 0 < 256
      small k g = rw (get_or-take n (drop (o * 4) img) k 0 (omega (arith, long, e)), get_or-drop (o * 4) img k 0) (f (o * 4 + k))

      word : (i p : ℕ) → i < 4 → o + i ≡ p → word_at part i ≡ word_at img p
      word i p g q = part_word img o n i (omega (arith, e)) ∙ ap (word_at img) q

-- the bytes before the first zero
pub name_front : (w : ℕ → ℕ) (o : ℕ) (s : List ℕ) (n : ℕ) → s ≡ bytes_of (tab w 4 o) → n ≡ run (λ c. not (eqb c 0)) s
    → take n s ≡ name_at w o
unfolding name_at
name_front w o s n es en = rw (en, es)

run_is : (f : ℕ → Bool) (s : List ℕ) → prefix_len f s ≡ run f s
run_is f [] = unfold run in refl
run_is f (c ∷ s) = go (run_is f s) (f c) refl
  where
    go : prefix_len f s ≡ run f s → (b : Bool) → f c ≡ b → prefix_len f (c ∷ s) ≡ run f (c ∷ s)
    go ih true e = rw (run_in f c s e, e) (omega (arith, ih))
    go ih false e = rw (run_out f c s e, e) refl

-- the first place that passes, or the length
pub run_until : (f : ℕ → Bool) (s : List ℕ) → unwrap_or (position f s) (length s) ≡ run (λ c. not (f c)) s
run_until f s = go (ltb n (length s)) refl ∙ run_is (λ c. not (f c)) s
  where
    n : ℕ
    n = prefix_len (λ c. not (f c)) s

    go : (b : Bool) → ltb n (length s) ≡ b → unwrap_or (position f s) (length s) ≡ prefix_len (λ c. not (f c)) s
    go true e = rw e refl
    go false e = rw e (omega (arith, prefix_len-le-length (λ c. not (f c)) s, ltb-false n (length s) e))
