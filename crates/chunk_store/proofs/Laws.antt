-- A chunk put into a store, and what a call is answered and leaves, in a state that is open and in one that is not.
use mathlib.Core.Path.{◌≡◌, refl, sym, ap, ◌∙◌}
use mathlib.Core.Bool.{Bool, true, false, not}
use mathlib.Core.List.{List, [], ◌++◌}
use mathlib.Core.Option.{none, some}
use Prim.Native.Nat.{ℕ, ◌+◌, ◌-◌, ◌≤◌, ◌<◌}
use native.Mathlib.Omega.{arith}
use borrow.Author.Tests.{lt-ltb, le-ltb, leb-true, leb-false, le-leb, lt-leb}
use borrow.Rule.Slice.PartMut.{put_mid, Post-is}
use lib.Dec.{ltb, leb}
use lib.ListN.{length, take, drop, length-append}
use lib.Seq.{length-take-le}
use Rattle.model.specs.Bounds.{text_limit}
use Rattle.model.specs.Outcome.{accepted, refused}
use Rattle.model.specs.Buffers.{reads_into}
use Rattle.model.specs.Chunks.{TextCall, chunk, finish, answer, TextState, is_open, bytes_in, answer_in, behind, closed, state_after}
use Rattle.laws.proofs.Tests.{both}

-- bytes put into a part of a store that is as long
pub put_behind : (n : ℕ) (d l ys : List ℕ) → n + length d ≤ length l → ys ≡ d
    → put_mid n (n + length d - n) l ys ≡ take n l ++ (d ++ drop (n + length d) l)
put_behind n d l ys h e = λ i. take n l ++ (e i ++ Post-is n (n + length d) l (omega arith) i)

not_least : (a b : ℕ) → not (leb a b) ≡ ltb b a
not_least a b = go (leb a b) refl
  where
    go : (q : Bool) → leb a b ≡ q → not q ≡ ltb b a
    go true e = sym (le-ltb b a (leb-true a b e))
    go false e = sym (lt-ltb b a (leb-false a b e))

module _ (t : TextState) where
  -- OPEN OR NOT
  pub short_store : length t.store < text_limit → not (is_open t) ≡ true
  short_store h = rw (lt-leb text_limit (length t.store) h) refl

  pub by_count : text_limit ≤ length t.store → not (is_open t) ≡ ltb text_limit t.count
  by_count h = rw (le-leb text_limit (length t.store) h) (not_least t.count text_limit)

  pub is_open_lem : text_limit ≤ length t.store → t.count ≤ text_limit → is_open t ≡ true
  is_open_lem h l = rw (le-leb text_limit (length t.store) h) (le-leb t.count text_limit l)

  -- NOT OPEN: over, or a state that no calls made
  module _ (shut : is_open t ≡ false) where
    pub answer_over : (c : TextCall) → answer_in t c ≡ refused 16 none
    unfolding answer
    answer_over c = rw shut refl

    pub state_over : (c : TextCall) → state_after t c ≡ t
    unfolding state_after
    state_over (chunk d) = rw shut refl
    state_over (finish buffer) = rw shut refl

  -- OPEN
  module _ (ready : is_open t ≡ true) where
    pub room : text_limit ≤ length t.store
    room = leb-true text_limit (length t.store) (both (leb text_limit (length t.store)) (leb t.count text_limit) ready).0

    pub few : t.count ≤ text_limit
    few = leb-true t.count text_limit (both (leb text_limit (length t.store)) (leb t.count text_limit) ready).1

    -- the length that the text would have
    pub longer : (d : List ℕ) → length (bytes_in t ++ d) ≡ t.count + length d
    longer d = length-append (bytes_in t) d ∙ ap (λ (n : ℕ). n + length d) (length-take-le t.count t.store (omega (arith, room, few)))

    pub chunk_long : (d : List ℕ) → text_limit < t.count + length d
        → (answer_in t (chunk d) ≡ refused 1 (some 0)) × (state_after t (chunk d) ≡ closed t)
    unfolding answer state_after
    chunk_long d l = rw (ready, longer d, lt-ltb text_limit (t.count + length d) l) (refl, refl)

    pub chunk_kept : (d : List ℕ) → t.count + length d ≤ text_limit
        → (answer_in t (chunk d) ≡ accepted []) × (state_after t (chunk d) ≡ behind t d)
    unfolding answer state_after
    chunk_kept d l = rw (ready, longer d, le-ltb text_limit (t.count + length d) l) (refl, refl)

    pub end_read : (buffer : List ℕ)
        → (answer_in t (finish buffer) ≡ reads_into (length buffer) (bytes_in t)) × (state_after t (finish buffer) ≡ closed t)
    unfolding answer state_after
    end_read buffer = rw ready (refl, refl)
