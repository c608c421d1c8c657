use Prim.Native.Nat.{◌+◌, ◌≤◌}
use Rattle.model.specs.Basic.{gather}
use Rattle.model.specs.Image.{word_at, term_at}
use Rattle.model.specs.Listing.{term_line}
use Rattle.listing_writer.specs.Prepends.{Writes}
use Rattle.listing_writer.proofs.Lists.{from}
use Rattle.fuzzify_listing.proofs.input_terms.Given as goal

abbrev pub invariant-loop-t : goal.invariant-loop-t
invariant-loop-t l =
    (l.first ≤ l.t) × Writes (gather term_line (from (term_at (word_at l.image.stored.bytes.now)) (l.first + l.n) l.t)) l.fn.out l.out
