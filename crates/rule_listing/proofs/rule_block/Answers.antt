use Rattle.model.specs.Image.{decode}
use Rattle.model.specs.Listing.{rule_block_text}
use Rattle.listing_writer.proofs.Prepends.{writes_joined}
use Rattle.rule_listing.proofs.rule_block.Goals as goal

pub returns : goal.returns
unfolding rule_block_text decode
returns c =
    let accu = writes_joined (writes_joined (writes_joined c.puts.ensures c.rules.ensures) c.puts-2.ensures) (rw c.accumulation.ensures at c.accumulation-2.ensures) in
    let act = writes_joined (writes_joined accu c.puts-3.ensures) (rw c.activation.ensures at c.activation-2.ensures) in
    let or = writes_joined (writes_joined act c.puts-4.ensures) (rw c.pair-pair.ensures at c.or_algorithm.ensures) in
    let and = writes_joined (writes_joined or c.puts-5.ensures) (rw c.pair-pair.ensures at c.and_algorithm.ensures) in
    writes_joined (writes_joined (writes_joined and c.puts-6.ensures) c.name.ensures) c.puts-7.ensures
