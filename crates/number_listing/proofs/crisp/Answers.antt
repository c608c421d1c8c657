use Rattle.std.proofs.Common.{w32}
use borrow.Author.Rules.{rules}
use mir.ValLaws.{to_z-of_z}
use mir.Val.{SFits}
use Rattle.listing_writer.proofs.Prepends.{writes_joined}
use Rattle.number_listing.proofs.Signs.{below_zero, not_below}
use Rattle.number_listing.proofs.crisp.Goals as goal
use Rattle.number_listing.proofs.crisp.Goals.{After-thousandths}

signed : (c : After-thousandths) → SFits w32 c.args.x.0
signed c = search rules

pub returns-then-x-lt0 : goal.returns-then-x-lt0
returns-then-x-lt0 c =
    let z = to_z-of_z w32 c.args.x.0 (signed (goal.at.returns-then-x-lt0 c).After-thousandths) in
    rw (below_zero _ (rw z at c.if-x-lt0.true)) (writes_joined (rw (c.unsigned_abs.ensures.value, z) at c.thousandths.ensures) c.put.ensures)

pub returns-else-x-lt0 : goal.returns-else-x-lt0
returns-else-x-lt0 c =
    let z = to_z-of_z w32 c.args.x.0 (signed (goal.at.returns-else-x-lt0 c).After-thousandths) in
    rw (not_below _ (rw z at c.if-x-lt0.false)) (rw (c.unsigned_abs.ensures.value, z) at c.thousandths.ensures)
