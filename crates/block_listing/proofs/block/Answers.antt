use Rattle.model.specs.Image.{decode}
use Rattle.model.specs.Listing.{listing}
use Rattle.listing_writer.proofs.Prepends.{writes_joined}
use Rattle.block_listing.proofs.block.Goals as goal

pub returns : goal.returns
unfolding listing decode
returns c =
    let rules = writes_joined c.puts.ensures c.rule_block.ensures in
    let parts = writes_joined (writes_joined rules c.defuzzify_parts.ensures) c.fuzzify_parts.ensures in
    let outputs = writes_joined (writes_joined (writes_joined parts c.puts-2.ensures) c.output_lines.ensures) c.puts-3.ensures in
    let inputs = writes_joined (writes_joined outputs c.input_lines.ensures) c.puts-4.ensures in
    writes_joined (writes_joined inputs c.name.ensures) c.puts-5.ensures
