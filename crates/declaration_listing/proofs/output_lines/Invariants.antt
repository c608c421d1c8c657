use Rattle.model.specs.Basic.{gather}
use Rattle.model.specs.Image.{word_at, output_at, OUTPUTS}
use Rattle.model.specs.Listing.{output_line}
use Rattle.listing_writer.specs.Prepends.{Writes}
use Rattle.listing_writer.proofs.Lists.{from}
use Rattle.declaration_listing.proofs.output_lines.Given as goal

abbrev pub invariant-loop-i : goal.invariant-loop-i
invariant-loop-i l = Writes (gather output_line (from (output_at (word_at l.image.stored.bytes.now)) (word_at l.image.stored.bytes.now OUTPUTS) l.i)) l.fn.out l.out
