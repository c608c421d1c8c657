use native.Mathlib.Omega.{arith}
use mathlib.Core.Path.{◌∙◌}
use Prim.Native.Nat.{◌+◌, ◌*◌, ◌<◌}
use Rattle.model.specs.Image.{word_at, INPUTS}
use Rattle.laws.proofs.Places.{field}
use Rattle.layout.proofs.Within.{input_terms_within}
use Rattle.layout.proofs.Inputs.{first_is, accepted_terms}
use Rattle.fuzzify_listing.proofs.fuzzify_part.Goals as goal

pub input_terms-requires : goal.input_terms-requires
input_terms-requires c =
    let image = c.args.image.now in
    let heads = image.stored.heads in
    let w = word_at image.stored.bytes.now in
    let i = c.args.i in
    let input : i < w INPUTS = omega (arith, heads.inputs.rows, c.requires) in
    let place = c.row-row.ensures ∙ (λ j. heads.inputs.start j + i * 7) in
    let first = field w _ _ 5 _ c.word-first.ensures.0 place in
    let count = field w _ _ 6 _ c.word-n.ensures.0 place in
    let terms = accepted_terms w i c.word-first.result c.word-n.result image.sound input (first ∙ first_is w i image.sound input) count in
    (omega (arith, first, count, (input_terms_within w image.sound.frame i input).0), terms.1)
