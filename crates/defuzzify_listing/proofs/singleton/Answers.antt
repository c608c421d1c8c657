use mathlib.Core.Path.{ap, ◌∙◌}
use Prim.Native.Nat.{ℕ, ◌+◌, ◌*◌}
use native.Mathlib.Omega.{arith}
use Rattle.model.specs.Image.{word_at, point_at, singleton_at}
use Rattle.model.specs.Listing.{singleton_line}
use Rattle.laws.proofs.Places.{field}
use Rattle.layout.proofs.Within.{point_within}
use Rattle.listing_writer.proofs.Prepends.{writes_joined}
use Rattle.defuzzify_listing.proofs.singleton.Goals as goal

pub place_at-requires : goal.place_at-requires
place_at-requires c =
    let image = c.args.image.now in
    let heads = image.stored.heads in
    let w = word_at image.stored.bytes.now in
    let first = field w _ _ 4 _ c.word.ensures.0 (c.row-row.ensures ∙ (λ j. heads.terms.start j + c.args.t * 6)) in
    let point = point_within w image.sound.frame c.args.t c.requires.0 (omega (arith, heads.terms.rows, c.requires.1)) in
    omega (arith, first, heads.points.rows, point)

pub returns : goal.returns
unfolding singleton_line singleton_at point_at
returns c =
    let w = word_at c.args.image.now.stored.bytes.now in
    let place = c.row-row.ensures ∙ (λ j. c.args.image.now.stored.heads.terms.start j + c.args.t * 6) in
    let at = c.place_at.ensures ∙ ap (λ (j : ℕ). (point_at w j).at) (field w _ _ 4 _ c.word.ensures.0 place) in
    writes_joined (writes_joined (writes_joined (writes_joined c.puts.ensures (rw at at c.crisp.ensures)) c.puts-2.ensures) (rw place at c.name.ensures)) c.puts-3.ensures
