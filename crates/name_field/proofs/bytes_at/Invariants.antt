use Rattle.std.proofs.Common.{◌≡◌, ◌++◌, ◌-◌, length}
use lib.ListN.{replicate}
use Rattle.model.specs.Basic.{tab}
use Rattle.name_field.proofs.Names.{byte_of}
use Rattle.name_field.proofs.bytes_at.Given as goal

abbrev pub invariant-loop-k : goal.invariant-loop-k
invariant-loop-k l = (length l.s ≡ 16) × (l.s ≡ tab (byte_of l.img l.o) l.k 0 ++ replicate (16 - l.k) 0)
