-- Words laid over a buffer, one after the other.
use mathlib.Core.Path.{◌≡◌, refl, sym, ap, ◌∙◌}
use mathlib.Core.List.{List, [], ◌∷◌, ◌++◌, append_assoc}
use Prim.Native.Nat.{ℕ, ◌+◌, ◌*◌, ◌-◌, ◌≤◌, ◌<◌}
use native.Mathlib.Numerals.{add-one}
use native.Mathlib.Omega.{arith}
use borrow.Rule.Slice.PartMut.{put_mid, Post-is}
use lib.ListN.{length, get_or, take, drop, set, length-append}
use lib.Seq.{take_at, drop-append-add, drop-drop, take-suc, length-take-le}
use Rattle.model.specs.Basic.{gather}
use Rattle.model.specs.Image.{word_bytes, bytes_of}
use Rattle.words.proofs.Bytes.{length_bytes}
use Rattle.word_writer.specs.Over.{over, Wrote}

bytes_append : (a b : List ℕ) → bytes_of (a ++ b) ≡ bytes_of a ++ bytes_of b
unfolding bytes_of gather
bytes_append [] b = refl
bytes_append (w ∷ a) b = simp (bytes_append a b, append_assoc)

-- four bytes put in place of four others are one word
pub one_word : (l ys : List ℕ) (at w : ℕ) → at * 4 + 4 ≤ length l → ys ≡ word_bytes w → put_mid (at * 4) (at * 4 + 4 - at * 4) l ys ≡ over at (w ∷ []) l
unfolding over bytes_of gather
one_word l ys at w h e =
    let n : (at + 1) * 4 ≡ at * 4 + 4 = omega arith in
    rw (e, n) (ap (λ (r : List ℕ). take (at * 4) l ++ (word_bytes w ++ r)) (Post-is (at * 4) (at * 4 + 4) l (omega arith)))

pub nothing_over : (at : ℕ) (old : List ℕ) → old ≡ over at [] old
unfolding over bytes_of gather
nothing_over at old = let e : (at + 0) * 4 ≡ at * 4 = omega arith in rw e (sym (lib.ListN.take-append-drop (at * 4) old))

module _ (at : ℕ) (xs ys old : List ℕ) (room : (at + length xs) * 4 ≤ length old) where
  abbrev front : List ℕ
  front = take (at * 4) old ++ bytes_of xs

  front_length : length front ≡ (at + length xs) * 4
  front_length = omega (arith, length-append (take (at * 4) old) (bytes_of xs), length-take-le (at * 4) old (omega arith), length_bytes xs)

  split : over at xs old ≡ front ++ drop ((at + length xs) * 4) old
  unfolding over
  split = sym (append_assoc (take (at * 4) old) (bytes_of xs) (drop ((at + length xs) * 4) old))

  -- xs and then ys behind them
  pub over_over : over (at + length xs) ys (over at xs old) ≡ over at (xs ++ ys) old
  unfolding over
  over_over =
      let p = (at + length xs) * 4 in
      let q : (at + length xs + length ys) * 4 ≡ length front + length ys * 4 = omega (arith, front_length) in
      let r : p + length ys * 4 ≡ (at + length (xs ++ ys)) * 4 = omega (arith, length-append xs ys) in
      ap (λ (l : List ℕ). take p l ++ (bytes_of ys ++ drop ((at + length xs + length ys) * 4) l)) split
      ∙ (λ j. take_at front (drop p old) p front_length j ++ (bytes_of ys ++ drop (q j) (front ++ drop p old)))
      ∙ ap (λ (l : List ℕ). front ++ (bytes_of ys ++ l)) (drop-append-add front (drop p old) (length ys * 4) ∙ drop-drop (length ys * 4) p old
      ∙ ap (λ (n : ℕ). drop n old) r)
      ∙ simp (append_assoc, bytes_append)

pub joined : {at m r : ℕ} {xs ys old mid new : List ℕ} → m * 4 ≤ length old → Wrote at m xs old mid → Wrote m r ys mid new → Wrote at r (xs ++ ys) old new
joined {at} {m} {r} {xs} {ys} {old} {mid} {new} h p q = record {
  next = omega (arith, p.next, q.next, length-append xs ys);
  laid = q.laid ∙ (λ j. over (p.next j) ys (p.laid j)) ∙ over_over at xs ys old (rw (← p.next) h);
}

pub no_words : (at : ℕ) (old : List ℕ) → Wrote at at [] old old
no_words at old = record { next = omega arith; laid = nothing_over at old }

pub retold : {at r : ℕ} {xs ys old new : List ℕ} → xs ≡ ys → Wrote at r xs old new → Wrote at r ys old new
retold {at} {r} {xs} {ys} {old} {new} e p = rw (← e) p

-- a word more of ws
pub word_more : (ws old new new' : List ℕ) (at i : ℕ) → i < length ws → (at + i) * 4 ≤ length old → Wrote at (at + i) (take i ws) old new
    → new' ≡ over (at + i) (get_or ws i 0 ∷ []) new → Wrote at (at + (i + 1)) (take (i + 1) ws) old new'
word_more ws old new new' at i h room p q =
    let e : take (i + 1) ws ≡ take i ws ++ (get_or ws i 0 ∷ []) = rw add-one (take-suc ws i 0 h) in
    rw e (joined room p (record { next = omega arith; laid = q }))

-- words that were written from the start on
pub from_start : (r n : ℕ) (ws old new : List ℕ) → Wrote 0 r ws old new → length (bytes_of ws) ≡ n → new ≡ bytes_of ws ++ drop n old
unfolding over
from_start r n ws old new w e =
    let q : (0 + length ws) * 4 ≡ n = omega (arith, length_bytes ws) in
    w.laid ∙ ap (λ (k : ℕ). bytes_of ws ++ drop k old) q
