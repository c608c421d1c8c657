-- A helper: a text written from the end of a buffer to its front. `listing_writer/proofs/Prepends.stands` ties it to the
-- text: where there is room, the buffer ends with it.
use Rattle.std.specs.Prelude.{◌≡◌, List, [], ◌∷◌, ℕ, suc, ◌-◌, ltb, length, set, if◌then◌else◌}
use Rattle.listing_writer.specs.declared.Listing.{Listing}

-- the greatest number of bytes that is counted
abbrev pub top : ℕ
top = 18446744073709551615

unfoldable pub next : ℕ → ℕ
next k = if ltb k top then suc k else k

-- a byte before the last k, if there is room
unfoldable pub set_before : List ℕ → ℕ → ℕ → List ℕ
set_before s k c = if ltb k (length s) then set s (length s - 1 - k) c else s

unfoldable pub count_after : ℕ → List ℕ → ℕ
count_after k [] = k
count_after k (x ∷ xs) = next (count_after k xs)

unfoldable pub prepended : ℕ → List ℕ → List ℕ → List ℕ
prepended k [] old = old
prepended k (x ∷ xs) old = set_before (prepended k xs old) (count_after k xs) x

-- xs was written before the last k bytes of the buffer old, which is new then; r bytes are counted now
pub record Prepends (k r : ℕ) (xs old new : List ℕ) : Type 0 where
  pub count : r ≡ count_after k xs
  pub contents : new ≡ prepended k xs old

-- xs was written before the listing old, which is new then, over the same buffer
pub record Writes (xs : List ℕ) (old new : Listing) : Type 0 where
  pub text : Prepends old.count new.count xs old.bytes.now new.bytes.now
  pub buffer : new.bytes.ghost_name ≡ old.bytes.ghost_name
