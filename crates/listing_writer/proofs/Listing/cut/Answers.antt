use Rattle.std.proofs.Common.{refl, ◌∙◌, arith}
use Rattle.listing_writer.proofs.Prepends.{more, whole, none_yet}
use Rattle.listing_writer.proofs.Listing.cut.Goals as goal

pub loop-i-init : goal.loop-i-init
loop-i-init c = record { text = none_yet _ c.args.s.now _; buffer = refl }

pub loop-i-preserved : goal.loop-i-preserved
loop-i-preserved c =
    let l = c.loop-i in
    record {
      text = more c.args.s.now _ l.i _ _ (omega arith) (omega arith) l.invariant.text c.put.ensures.text;
      buffer = c.put.ensures.buffer ∙ l.invariant.buffer;
    }

pub returns : goal.returns
returns c =
    let l = c.loop-i in
    record { text = whole c.args.s.now l.i _ (omega arith) l.invariant.text; buffer = l.invariant.buffer }
