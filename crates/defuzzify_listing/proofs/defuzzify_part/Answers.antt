use mathlib.Core.Path.{◌≡◌, ◌∙◌}
use Prim.Native.Nat.{◌+◌, ◌*◌}
use native.Mathlib.Omega.{arith}
use Rattle.model.specs.Image.{word_at, output_place, output_at}
use Rattle.model.specs.Listing.{defuzzify_text}
use Rattle.laws.proofs.Places.{field}
use Rattle.layout.specs.Tables.{output_count}
use Rattle.layout.proofs.Within.{output_terms_within}
use Rattle.listing_writer.proofs.Prepends.{writes_joined}
use Rattle.defuzzify_listing.proofs.defuzzify_part.Goals as goal
use Rattle.defuzzify_listing.proofs.defuzzify_part.Goals.{After-word-n}

-- the words of the output's row that were read
reads_are : (c : After-word-n) →
    let w = word_at c.args.image.now.stored.bytes.now in
    (c.row-row.result ≡ output_place w c.args.i) × (c.word-first.result ≡ w (output_place w c.args.i + 4)) × (c.word-n.result ≡ output_count w c.args.i)
reads_are c =
    let w = word_at c.args.image.now.stored.bytes.now in
    let place = c.row-row.ensures ∙ (λ j. c.args.image.now.stored.heads.outputs.start j + c.args.i * 11) in
    (place, field w _ _ 4 _ c.word-first.ensures.0 place, field w _ _ 5 _ c.word-n.ensures.0 place)

pub singletons-requires : goal.singletons-requires
singletons-requires c =
    let image = c.args.image.now in
    let heads = image.stored.heads in
    let (place, first, count) = reads_are (goal.at.singletons-requires c).After-word-n in
    let terms = output_terms_within (word_at image.stored.bytes.now) image.sound.frame c.args.i (omega (arith, heads.outputs.rows, c.requires)) in
    (omega (arith, first, terms.0), omega (arith, first, count, heads.terms.rows, terms.1))

pub returns : goal.returns
unfolding defuzzify_text output_at
returns c =
    let (place, first, count) = reads_are (goal.at.returns c).After-word-n in
    let below = writes_joined (writes_joined c.puts.ensures (rw c.default_of.ensures at c.default_value.ensures)) c.puts-2.ensures in
    let body = writes_joined (writes_joined below (rw (first, count) at c.singletons.ensures)) (rw c.range_of.ensures at c.range_line.ensures) in
    writes_joined (writes_joined (writes_joined body c.puts-3.ensures) (rw place at c.name.ensures)) c.puts-4.ensures
