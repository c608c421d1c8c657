-- A helper: words laid over a buffer. Their bytes, by `bytes_of` of the model, stand in it from the place `at` on,
-- counted in words, and what is before and after them stays. `from_start` of proofs/Over says what that is from the
-- start on.
use Rattle.std.specs.Prelude.{◌≡◌, List, ◌++◌, ℕ, ◌+◌, ◌*◌, length, take, drop}
use Rattle.model.specs.Image.{bytes_of}

unfoldable pub over : ℕ → List ℕ → List ℕ → List ℕ
over at ws old = take (at * 4) old ++ (bytes_of ws ++ drop ((at + length ws) * 4) old)

-- ws were written at the place `at` of the buffer old, which is new then; r is the next place
pub record Wrote (at r : ℕ) (ws old new : List ℕ) : Type 0 where
  pub next : r ≡ at + length ws
  pub laid : new ≡ over at ws old
