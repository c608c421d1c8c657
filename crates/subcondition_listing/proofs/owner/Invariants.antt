use Rattle.model.specs.Image.{word_at}
use Rattle.subcondition_listing.proofs.Names.{Among}
use Rattle.subcondition_listing.proofs.owner.Given as goal

abbrev pub invariant-loop-i : goal.invariant-loop-i
invariant-loop-i l = Among (word_at l.image.stored.bytes.now) l.t l.i
