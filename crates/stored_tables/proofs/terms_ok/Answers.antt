use Rattle.std.proofs.Common.{rules, ◌∙◌}
use Rattle.model.specs.Basic.{every}
use Rattle.model.specs.Image.{word_at}
use Rattle.stored_tables.proofs.Loops.{points_are}
use Rattle.stored_tables.proofs.terms_ok.Goals as goal

pub returns-then-singleton_rows : goal.returns-then-singleton_rows
unfolding every
returns-then-singleton_rows c =
    let image = c.args.image.now in
    let points = c.singleton_points.ensures ∙ points_are (word_at image.bytes.now) image.heads.fits _ _ in
    search rules
