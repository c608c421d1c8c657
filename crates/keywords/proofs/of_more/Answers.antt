use Rattle.keywords.proofs.Laws.{text_of_more}
use Rattle.keywords.proofs.of_more.Goals as goal

pub in_slot-requires : goal.in_slot-requires
in_slot-requires c = let p = c.requires in (p.0, p.1, text_of_more _ p.2 p.3 p.4)
