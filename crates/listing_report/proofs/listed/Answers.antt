use Rattle.std.proofs.Common.{sym, ◌∙◌}
use Rattle.listing_report.proofs.Answers.{listed_shows, listed_not}
use Rattle.listing_report.proofs.listed.Goals as goal

pub returns-in-Ok : goal.returns-in-Ok
returns-in-Ok c =
    λ b h. listed_shows c.args.img.now b _ h c.requires _ _ _ c.in-Ok.ensures.result_value c.in-Ok.ensures.buffer

pub returns-in-Err : goal.returns-in-Err
returns-in-Err c =
    λ b h. listed_not c.args.img.now b _ h c.requires (sym c.refused.ensures.told ∙ c.in-Err.ensures.result_value)
