use Rattle.std.proofs.Common.{rules}
use Rattle.listing_report.proofs.Sizes.{line_short}
use Rattle.listing_report.proofs.refused_line.Goals as goal

pub returns-clause-short : goal.returns-clause-short
returns-clause-short c =
    let t = c.args.t in
    line_short t.number t.place (search rules) (search rules)
