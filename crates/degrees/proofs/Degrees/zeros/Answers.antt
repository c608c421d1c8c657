use lib.ListN.{length-replicate}
use Rattle.degrees.proofs.Tables.{low_zeros, numbers_zeros}
use Rattle.degrees.proofs.Degrees.zeros.Goals as goal

pub invariant_of-result : goal.invariant_of-result
invariant_of-result g c = record { long = length-replicate g.row.N _; low = rw (numbers_zeros g.row.N) (low_zeros g.row.N) }

pub returns : goal.returns
returns g c = numbers_zeros g.row.N
