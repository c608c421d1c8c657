-- A helper: the text of a condition written, whose words `Spans` places.
use Rattle.std.specs.Prelude.{◌≡◌, List, ℕ}
use Rattle.model.specs.Block.{Condition}
use Rattle.listing_writer.specs.declared.Listing.{Listing}
use Rattle.listing_writer.specs.Prepends.{Writes}
use Rattle.operator_listing.specs.Spans.{Spans}

-- the condition that ends before e starts at s, and what `text` makes of it was written
abbrev pub WritesCondition : (ℕ → ℕ) → (Condition → List ℕ) → ℕ → ℕ → Listing → Listing → Type 0
WritesCondition f text e s old new = (i : ℕ) (c : Condition) → Spans f i e c → (s ≡ i) × Writes (text c) old new
