-- A helper: what the load check finds of bytes that it accepts, with their header. The words make a block's image
-- (`layout/proofs/Groups.groups`), the header is theirs, and the bytes go as far as its tables.
use Rattle.std.specs.Prelude.{List, ℕ}
use Rattle.model.specs.Image.{word_at}
use Rattle.header.specs.declared.Header.{Header}
use Rattle.header.specs.Header.{Heads, Covers}
use Rattle.layout.specs.Groups.{Sound}

pub record Checked (bytes : List ℕ) (h : Header) : Type 0 where
  pub sound : Sound (word_at bytes)
  pub heads : Heads (word_at bytes) h
  pub holds : Covers bytes h
