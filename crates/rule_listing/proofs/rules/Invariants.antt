use Rattle.model.specs.Basic.{gather}
use Rattle.model.specs.Image.{word_at, decode, rule_at, RULES}
use Rattle.model.specs.Listing.{rule_line}
use Rattle.listing_writer.specs.Prepends.{Writes}
use Rattle.listing_writer.proofs.Lists.{from}
use Rattle.rule_listing.proofs.rules.Given as goal

abbrev pub invariant-loop-i : goal.invariant-loop-i
invariant-loop-i l =
    let w = word_at l.image.stored.bytes.now in
    Writes (gather (rule_line (decode w)) (from (rule_at w) (w RULES) l.i)) l.fn.out l.out
