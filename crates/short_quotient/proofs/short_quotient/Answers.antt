use Rattle.short_quotient.proofs.TenBits.{joined}
use Rattle.short_quotient.proofs.short_quotient.Goals as goal

pub returns : goal.returns
returns c =
    let h = c.ten_bits-high in
    let l = c.ten_bits-low in
    joined c.args.a c.args.b h.result l.result h.ensures.0 l.ensures.0 l.ensures.1
