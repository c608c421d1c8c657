use Prim.Native.Nat.{◌+◌, ◌≤◌}
use Rattle.model.specs.Basic.{gather}
use Rattle.model.specs.Image.{word_at, singleton_at}
use Rattle.model.specs.Listing.{singleton_line}
use Rattle.listing_writer.specs.Prepends.{Writes}
use Rattle.listing_writer.proofs.Lists.{from}
use Rattle.defuzzify_listing.proofs.singletons.Given as goal

abbrev pub invariant-loop-t : goal.invariant-loop-t
invariant-loop-t l =
    (l.first ≤ l.t) × Writes (gather singleton_line (from (singleton_at (word_at l.image.stored.bytes.now)) (l.first + l.n) l.t)) l.fn.out l.out
