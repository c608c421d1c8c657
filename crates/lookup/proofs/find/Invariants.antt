use lib.Seq.{slice}
use Rattle.model.specs.Tokens.{same_name}
use Rattle.laws.proofs.Search.{Past}
use Rattle.lookup.specs.Names.{name_of}
use Rattle.lookup.proofs.find.Given as goal

abbrev pub invariant-loop-i : goal.invariant-loop-i
invariant-loop-i l = Past (same_name (slice l.start l.end l.s)) (name_of l.s l.names) l.count l.from l.i
