use native.Mathlib.Omega.{arith}
use Rattle.keywords.proofs.Laws.{text_of_2}
use Rattle.keywords.proofs.of_two.Goals as goal

pub in_slot-requires : goal.in_slot-requires
in_slot-requires c = let p = c.requires in (p.0, omega arith, text_of_2 _ p.1)
