use mathlib.Core.Path.{◌∙◌}
use Prim.Native.Nat.{◌+◌, ◌*◌}
use Rattle.model.specs.Image.{word_at}
use Rattle.listing_writer.proofs.Prepends.{writes_joined}
use Rattle.conclusion_listing.proofs.Names.{conclusion_text_lem}
use Rattle.conclusion_listing.proofs.conclusion.Goals as goal

pub returns : goal.returns
returns c =
    let image = c.args.image.now in
    let heads = image.stored.heads in
    let e = conclusion_text_lem (word_at image.stored.bytes.now) image.sound c.args.j _ _ _ _ _ c.requires.1
    (c.row-row.ensures ∙ (λ i. heads.conclusions.start i + c.args.j * 2)) c.word-2.ensures.0 c.word.ensures.0
    (c.row-2.ensures ∙ (λ i. heads.outputs.start i + c.word-2.result * 11)) (c.row.ensures ∙ (λ i. heads.terms.start i + c.word.result * 6)) in
    rw e (writes_joined (writes_joined c.name.ensures c.puts.ensures) c.name-2.ensures)
