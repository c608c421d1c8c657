use Rattle.model.specs.Basic.{gather}
use Rattle.model.specs.Image.{word_at, input_at, INPUTS}
use Rattle.model.specs.Listing.{input_line}
use Rattle.listing_writer.specs.Prepends.{Writes}
use Rattle.listing_writer.proofs.Lists.{from}
use Rattle.declaration_listing.proofs.input_lines.Given as goal

abbrev pub invariant-loop-i : goal.invariant-loop-i
invariant-loop-i l = Writes (gather input_line (from (input_at (word_at l.image.stored.bytes.now)) (word_at l.image.stored.bytes.now INPUTS) l.i)) l.fn.out l.out
