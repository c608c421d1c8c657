use Rattle.short_quotient.proofs.TenBits.{Open}
use Rattle.short_quotient.proofs.ten_bits.Given as goal

abbrev pub invariant-loop-k : goal.invariant-loop-k
invariant-loop-k l = Open l.a l.b l.r l.k
