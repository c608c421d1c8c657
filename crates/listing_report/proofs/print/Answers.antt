use Rattle.std.proofs.Common.{rules, sym, ◌∙◌}
use Rattle.listing_report.proofs.Answers.{was_read, not_read, read_loads, prints, shows_counts}
use Rattle.listing_report.proofs.print.Goals as goal

pub returns-in-Ok-clause-shows : goal.returns-in-Ok-clause-shows
returns-in-Ok-clause-shows c =
    let s = c.args.s.now in
    let read = c.in-Ok.ensures in
    let r = was_read s _ _ _ _ read.result_value read.buffer (search rules) in
    rw (prints s r.block r.was) (c.listed.ensures r.block (read_loads s _ r.block r.was r.taken))

pub returns-in-Ok-clause-counts : goal.returns-in-Ok-clause-counts
returns-in-Ok-clause-counts c =
    let s = c.args.s.now in
    let read = c.in-Ok.ensures in
    let r = was_read s _ _ _ _ read.result_value read.buffer (search rules) in
    shows_counts (c.listed.ensures r.block (read_loads s _ r.block r.was r.taken))

pub returns-in-Err-clause-shows : goal.returns-in-Err-clause-shows
returns-in-Err-clause-shows c =
    let told = sym c.refused.ensures.told ∙ c.in-Err.ensures.result_value in
    rw (not_read c.args.s.now _ told (search rules)) c.refused.ensures.shows
