use Rattle.std.proofs.Common.{refl, arith}
use Rattle.listing_writer.proofs.Prepends.{one_in, one_out}
use Rattle.listing_writer.proofs.Listing.put.Goals as goal
use Rattle.listing_writer.proofs.Listing.put.Goals.{then-self-n, else-self-n}

pub returns : goal.returns
returns c =
    elim c.if-self-n.branch [
      | then-self-n w ↦ rw (c.saturating_add-self.ensures, w.self-is) record {
        text = one_in _ _ c.args.c c.args.self.now.bytes.now (omega arith) (omega arith) (omega arith);
        buffer = refl;
      }
      | else-self-n w ↦ rw (c.saturating_add-self.ensures, w.self-is) record {
        text = one_out _ _ c.args.c c.args.self.now.bytes.now refl (omega arith) (omega arith);
        buffer = refl;
      }
    ]
