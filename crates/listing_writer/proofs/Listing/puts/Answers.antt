use Rattle.std.proofs.Common.{refl, arith}
use Rattle.listing_writer.proofs.Prepends.{fits}
use Rattle.listing_writer.proofs.Listing.puts.Goals as goal

pub returns-then-self-n : goal.returns-then-self-n
returns-then-self-n c = record {
  text = fits _ c.args.self.now.count c.args.s.now _ c.args.self.now.bytes.now refl c.copy_from_slice.ensures.after (omega arith) (omega arith);
  buffer = refl;
}
