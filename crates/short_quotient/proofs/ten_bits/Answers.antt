use Rattle.std.proofs.Common.{◌-◌, arith}
use Rattle.short_quotient.proofs.TenBits.{taken, kept, highest, wrapped}
use Rattle.short_quotient.proofs.ten_bits.Goals as goal

pub loop-k-preserved-then-t-lt9223372036854775808 : goal.loop-k-preserved-then-t-lt9223372036854775808
loop-k-preserved-then-t-lt9223372036854775808 c =
    let l = c.loop-k in
    taken c.args.a c.args.b l.r (l.k - 1) (omega arith) c.requires.1 (omega arith)
    (highest c.args.a c.args.b l.r l.k (omega arith) l.invariant) _ (wrapped _ _ (omega arith)) c.if-t-lt9223372036854775808.true

pub loop-k-preserved : goal.loop-k-preserved
loop-k-preserved c =
    let l = c.loop-k in
    kept c.args.a c.args.b l.r (l.k - 1) (omega arith) c.requires.1 (omega arith)
    (highest c.args.a c.args.b l.r l.k (omega arith) l.invariant) _ (wrapped _ _ (omega arith)) (omega arith) c.if-t-lt9223372036854775808.false
