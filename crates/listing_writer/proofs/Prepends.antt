-- One text written before another, and where a text that has room stands.
use mathlib.Core.Path.{◌≡◌, refl, sym, ap, ◌∙◌}
use mathlib.Core.List.{List, [], ◌∷◌, ◌++◌, append_assoc, append-nil}
use Prim.Native.Nat.{ℕ, suc, ◌+◌, ◌-◌, ◌≤◌, ◌<◌}
use native.Mathlib.Omega.{arith}
use borrow.Author.Tests.{le-ltb, lt-ltb}
use lib.ListN.{length, get_or, set, drop, take, length-append}
use lib.Seq.{drop-cons, drop-length, drop-append_seam, take-suc, take_all, set_at, length-take-le}
use Rattle.std.proofs.Common.{take-append-drop, length-drop, min, cond, Bool, true, false}
use borrow.Author.Tests.{ltb-true, ltb-false}
use lib.Dec.{ltb}
use Rattle.std.proofs.lemmas.Slice.{put_mid-paste}
use borrow.Rule.Slice.PartMut.{put_mid}
use Rattle.listing_writer.specs.declared.Listing.{Listing}
use Rattle.listing_writer.specs.Prepends.{top, next, set_before, count_after, prepended, Prepends, Writes}

pub count_append : (k : ℕ) (xs ys : List ℕ) → count_after k (xs ++ ys) ≡ count_after (count_after k ys) xs
unfolding count_after
count_append k [] ys = refl
count_append k (x ∷ xs) ys = ap next (count_append k xs ys)

pub prepended_append : (k : ℕ) (xs ys old : List ℕ) → prepended k (xs ++ ys) old ≡ prepended (count_after k ys) xs (prepended k ys old)
unfolding prepended
prepended_append k [] ys old = refl
prepended_append k (x ∷ xs) ys old = rw (prepended_append k xs ys old, count_append k xs ys) refl

pub count_none : (k : ℕ) → count_after k [] ≡ k
unfolding count_after
count_none k = refl

pub count_more : (k x : ℕ) (xs : List ℕ) → count_after k (x ∷ xs) ≡ next (count_after k xs)
unfolding count_after
count_more k x xs = refl

pub prepended_none : (k : ℕ) (old : List ℕ) → prepended k [] old ≡ old
unfolding prepended
prepended_none k old = refl

pub prepended_more : (k x : ℕ) (xs old : List ℕ) → prepended k (x ∷ xs) old ≡ set_before (prepended k xs old) (count_after k xs) x
unfolding prepended
prepended_more k x xs old = refl

-- a text written part by part
pub ruleset parts = (count_append, prepended_append, count_none, count_more, prepended_none, prepended_more)

-- ys, then xs before it
pub joined : {k m r : ℕ} {xs ys old mid new : List ℕ} → Prepends k m ys old mid → Prepends m r xs mid new
    → Prepends k r (xs ++ ys) old new
joined {k} {m} {r} {xs} {ys} {old} {mid} {new} v w = record {
  count = w.count ∙ ap (λ (j : ℕ). count_after j xs) v.count ∙ sym (count_append k xs ys);
  contents = w.contents ∙ rw (v.count, v.contents) refl ∙ sym (prepended_append k xs ys old);
}

pub nothing : (k : ℕ) (old : List ℕ) → Prepends k k [] old old
unfolding count_after prepended
nothing k old = record { count = refl; contents = refl }

-- the same of a listing
pub writes_joined : {xs ys : List ℕ} {old mid new : Listing} → Writes ys old mid → Writes xs mid new → Writes (xs ++ ys) old new
writes_joined v w = record { text = joined v.text w.text; buffer = w.buffer ∙ v.buffer }

pub writes_nothing : (old : Listing) → Writes [] old old
writes_nothing old = record { text = nothing old.count old.bytes.now; buffer = refl }

-- ONE BYTE: with room, and without
module _ (n k x : ℕ) (old : List ℕ) where
  counted_one : k ≤ top → count_after k (x ∷ []) ≡ min (k + 1) top
  unfolding count_after next
  counted_one f = go (ltb k top) refl
    where
      go : (b : Bool) → ltb k top ≡ b → count_after k (x ∷ []) ≡ min (k + 1) top
      go true e = let h = ltb-true k top e in rw (e, cond) (omega arith)
      go false e = let h = ltb-false k top e in rw (e, cond) (omega arith)

  pub one_in : n ≡ length old → k < n → k ≤ top → Prepends k (min (k + 1) top) (x ∷ []) old (set old (n - 1 - k) x)
  unfolding prepended set_before count_after
  one_in e h m = record { count = sym (counted_one m); contents = rw (e, lt-ltb k (length old) (omega arith)) refl }

  pub one_out : n ≡ length old → n ≤ k → k ≤ top → Prepends k (min (k + 1) top) (x ∷ []) old old
  unfolding prepended set_before count_after
  one_out e h m = record { count = sym (counted_one m); contents = rw (le-ltb k (length old) (omega arith)) refl }

-- A TEXT, byte by byte from its end
module _ {k p : ℕ} (s : List ℕ) {old : List ℕ} where
  pub more : (q i : ℕ) (mid new : List ℕ) → 0 < i → i ≤ length s → Prepends k p (drop i s) old mid
      → Prepends p q (get_or s (i - 1) 0 ∷ []) mid new → Prepends k q (drop (i - 1) s) old new
  more q i mid new h t v w =
      let e : suc (i - 1) ≡ i = omega arith in
      let d : drop (i - 1) s ≡ get_or s (i - 1) 0 ∷ drop i s = drop-cons s (i - 1) 0 (omega arith) ∙ rw e refl in
      rw d (joined v w)

  pub whole : (i : ℕ) (new : List ℕ) → i ≤ 0 → Prepends k p (drop i s) old new → Prepends k p s old new
  whole i new h v = let e : i ≡ 0 = omega arith in rw e at v

pub none_yet : (k : ℕ) (s old : List ℕ) → Prepends k k (drop (length s) s) old old
none_yet k s old = rw (drop-length s) (nothing k old)

-- A TEXT THAT HAS ROOM
room_count : (k : ℕ) (xs : List ℕ) → k + length xs ≤ top → count_after k xs ≡ k + length xs
unfolding count_after next
room_count k [] h = omega arith
room_count k (x ∷ xs) h = rw (room_count k xs (omega arith)) (rw (lt-ltb (k + length xs) top (omega arith)) (omega arith))

room_contents : (k : ℕ) (xs old : List ℕ) → k + length xs ≤ length old → length old ≤ top
    → prepended k xs old ≡ take (length old - k - length xs) old ++ (xs ++ drop (length old - k) old)
unfolding prepended set_before
room_contents k [] old h m =
    let e : length old - k - 0 ≡ length old - k = omega arith in
    rw e (sym (take-append-drop (length old - k) old))
room_contents k (x ∷ xs) old h m =
    let n = length old - k in
    let j = n - suc (length xs) in
    let e : n - length xs ≡ suc j = omega arith in
    let taken = length-take-le (suc j) old (omega arith) in
    let rest = xs ++ drop n old in
    let dropped = length-drop n old in
    let more = length-append xs (drop n old) in
    let len : length (take (suc j) old ++ rest) ≡ length old = length-append (take (suc j) old) rest ∙ rw taken (omega arith) in
    let i : length old - 1 - (k + length xs) ≡ j = omega arith in
    rw (room_contents k xs old (omega arith) m, room_count k xs (omega arith), e, len, lt-ltb (k + length xs) (length old) (omega arith), i)
    (rw (take-suc old j 0 (omega arith))
    (rw (append_assoc (take j old) (get_or old j 0 ∷ []) rest)
    (set_at (take j old) (get_or old j 0) rest x j (length-take-le j old (omega arith)))))

-- a text that is copied into its place
pub fits : (n k : ℕ) (xs part old : List ℕ) → n ≡ length old → part ≡ xs → k + length xs ≤ n → n ≤ top
    → Prepends k (k + length xs) xs old (put_mid (n - k - length xs) (n - k - (n - k - length xs)) old part)
fits n k xs part old e p h m =
    let d : n - k - length xs + length xs ≡ length old - k = omega arith in
    let f : n - k - length xs ≡ length old - k - length xs = omega arith in
    let pasted = put_mid-paste (n - k - length xs) (n - k - (n - k - length xs)) old part xs (length xs) p (omega arith) refl in
    let all = take_all (length xs) xs (omega arith) in
    record {
      count = sym (room_count k xs (omega arith));
      contents = pasted ∙ rw (d, f, all, append_assoc) refl ∙ sym (room_contents k xs old (omega arith) (omega arith));
    }

-- a text that has room ends the bytes, and is counted
pub stands : (r : ℕ) (xs old new : List ℕ) → length xs ≤ length old → length old ≤ top → Prepends 0 r xs old new
    → (r ≡ length xs) × (new ≡ take (length old - length xs) old ++ xs)
stands r xs old new h m w =
    let z : length old - 0 ≡ length old = omega arith in
    let e : drop (length old - 0) old ≡ [] = rw z (drop-length old) in
    let c : count_after 0 xs ≡ length xs = room_count 0 xs (omega arith) ∙ omega arith in
    (w.count ∙ c, w.contents ∙ room_contents 0 xs old (omega arith) m ∙ rw (e, append-nil xs, z) refl)

-- the whole text: m bytes have room for it
module _ (m n : ℕ) (xs old new : List ℕ) (room : length old ≡ m) (few : m ≤ top) (short : length xs ≤ m) (w : Prepends 0 n xs old new) where
  pub counted : (n ≡ length xs) × (n ≤ m)
  counted = let e = (stands n xs old new (omega arith) (omega arith) w).0 in (e, omega arith)

  pub at_end : drop (m - n) new ≡ xs
  at_end =
      let front = take (length old - length xs) old in
      let long : m - n ≡ length front = omega (arith, counted.0, length-take-le (length old - length xs) old (omega arith)) in
      rw ((stands n xs old new (omega arith) (omega arith) w).1, long) (drop-append_seam front xs)

  pub text_is : drop (length new - n) new ≡ xs
  text_is =
      let front = take (length old - length xs) old in
      let all = ap length (stands n xs old new (omega arith) (omega arith) w).1 ∙ length-append front xs in
      let long : length new ≡ m = omega (arith, all, length-take-le (length old - length xs) old (omega arith)) in
      rw long at_end
