-- The words of an image against its bytes.
use mathlib.Core.Path.{◌≡◌, refl, sym, ap, ◌∙◌}
use mathlib.Core.List.{List, [], ◌∷◌}
use Prim.Native.Nat.{ℕ, suc, ◌+◌, ◌*◌, ◌/◌, ◌%◌, ◌≤◌, ◌<◌}
use native.Mathlib.Omega.{arith}
use lib.ListN.{length, take, drop, get_or}
use lib.Seq.{get_or-take, get_or-drop}
use Rattle.model.specs.Basic.{gather}
use Rattle.model.specs.Image.{word_at, bytes_of}
use Rattle.laws.proofs.Places.{At}

pub length_bytes : (ws : List ℕ) → length (bytes_of ws) ≡ length ws * 4
unfolding bytes_of gather
length_bytes [] = refl
length_bytes (w ∷ ws) = omega (arith, length_bytes ws)

-- the words after the first
word_next : (a b c d : ℕ) (s : List ℕ) (i : ℕ) → word_at (a ∷ b ∷ c ∷ d ∷ s) (suc i) ≡ word_at s i
unfolding word_at
word_next a b c d s i =
    let e0 : suc i * 4 ≡ suc (suc (suc (suc (i * 4)))) = omega arith in
    let e1 : suc i * 4 + 1 ≡ suc (suc (suc (suc (i * 4 + 1)))) = omega arith in
    let e2 : suc i * 4 + 2 ≡ suc (suc (suc (suc (i * 4 + 2)))) = omega arith in
    let e3 : suc i * 4 + 3 ≡ suc (suc (suc (suc (i * 4 + 3)))) = omega arith in
    rw (e1, e2, e3, e0)

at_suc : (f g : ℕ → ℕ) (o : ℕ) (xs : List ℕ) → ((k : ℕ) → f (suc k) ≡ g k) → At g o xs → At f (suc o) xs
at_suc f g o [] e h = tt
at_suc f g o (x ∷ xs) e h = (e o ∙ h.0, at_suc f g (suc o) xs e h.1)

at_pred : (f g : ℕ → ℕ) (o : ℕ) (xs : List ℕ) → ((k : ℕ) → f (suc k) ≡ g k) → At f (suc o) xs → At g o xs
at_pred f g o [] e h = tt
at_pred f g o (x ∷ xs) e h = (sym (e o) ∙ h.0, at_pred f g (suc o) xs e h.1)

-- words laid out as bytes are read back
pub words_at : (ws : List ℕ) → At (word_at (bytes_of ws)) 0 ws
unfolding word_at bytes_of gather
words_at [] = tt
words_at (x ∷ ws) = (head x (bytes_of ws), at_suc _ _ 0 ws (word_next _ _ _ _ (bytes_of ws)) (words_at ws))
  where
    head : (x : ℕ) (s : List ℕ) → word_at (x % 256 ∷ x / 256 % 256 ∷ x / 65536 % 256 ∷ x / 16777216 ∷ s) 0 ≡ x
    head x s = omega arith

-- and bytes are those of the words that are read from them
pub bytes_at : (img ws : List ℕ) → ((k : ℕ) → get_or img k 0 < 256) → length img ≡ length ws * 4 → At (word_at img) 0 ws → img ≡ bytes_of ws
unfolding bytes_of word_at gather
bytes_at [] [] f e h = refl
bytes_at [] (x ∷ ws) f e h = absurd (omega arith)
bytes_at (a ∷ img) [] f e h = absurd (omega arith)
bytes_at (a ∷ []) (x ∷ ws) f e h = absurd (omega arith)
bytes_at (a ∷ b ∷ []) (x ∷ ws) f e h = absurd (omega arith)
bytes_at (a ∷ b ∷ c ∷ []) (x ∷ ws) f e h = absurd (omega arith)
bytes_at (a ∷ b ∷ c ∷ d ∷ img) (x ∷ ws) f e h =
    let fa : a < 256 = f 0 in
    let fb : b < 256 = f 1 in
    let fc : c < 256 = f 2 in
    let fd : d < 256 = f 3 in
    let q : a + b * 256 + c * 65536 + d * 16777216 ≡ x = h.0 in
    let qa : a ≡ x % 256 = omega arith in
    let d1 : x / 256 ≡ b + c * 256 + d * 65536 = omega arith in
    let d2 : x / 65536 ≡ c + d * 256 = omega arith in
    let qb : b ≡ x / 256 % 256 = rw d1 (omega arith) in
    let qc : c ≡ x / 65536 % 256 = rw d2 (omega arith) in
    let qd : d ≡ x / 16777216 = omega arith in
    let r = bytes_at img ws (λ k. f (suc (suc (suc (suc k))))) (omega arith) (at_pred _ _ 0 ws (word_next a b c d img) h.1) in
    λ j. qa j ∷ qb j ∷ qc j ∷ qd j ∷ r j

-- four bytes make a word of 32 bits
pub word_fits : (img : List ℕ) → ((k : ℕ) → get_or img k 0 < 256) → (i : ℕ) → word_at img i ≤ 4294967295
unfolding word_at
word_fits img f i = omega (arith, f (i * 4), f (i * 4 + 1), f (i * 4 + 2), f (i * 4 + 3))

-- the words of n bytes that start with word o
pub part_word : (img : List ℕ) (o n i : ℕ) → i * 4 + 3 < n → word_at (take n (drop (o * 4) img)) i ≡ word_at img (o + i)
unfolding word_at
part_word img o n i h =
    let b0 = byte (i * 4) ((o + i) * 4) (omega arith) (omega arith) in
    let b1 = byte (i * 4 + 1) ((o + i) * 4 + 1) (omega arith) (omega arith) in
    let b2 = byte (i * 4 + 2) ((o + i) * 4 + 2) (omega arith) (omega arith) in
    let b3 = byte (i * 4 + 3) ((o + i) * 4 + 3) (omega arith) (omega arith) in
    λ j. b0 j + b1 j * 256 + b2 j * 65536 + b3 j * 16777216
  where
    byte : (k p : ℕ) → k < n → o * 4 + k ≡ p → get_or (take n (drop (o * 4) img)) k 0 ≡ get_or img p 0
    byte k p g e = get_or-take n (drop (o * 4) img) k 0 g ∙ get_or-drop (o * 4) img k 0 ∙ ap (λ (x : ℕ). get_or img x 0) e
