use mathlib.Core.Path.{◌∙◌}
use Prim.Native.Nat.{◌+◌, ◌*◌}
use native.Mathlib.Omega.{arith}
use Rattle.model.specs.Image.{word_at}
use Rattle.laws.proofs.Places.{field}
use Rattle.subcondition_listing.proofs.Names.{among_all, among_next, among_found, among_none}
use Rattle.subcondition_listing.proofs.owner.Goals as goal

pub loop-i-init : goal.loop-i-init
loop-i-init c = among_all (word_at c.args.image.now.stored.bytes.now) c.args.t c.args.image.now.sound

pub returns-then-t-word : goal.returns-then-t-word
returns-then-t-word c =
    let l = c.loop-i in
    let hd = c.args.image.now.stored.heads in
    let w = word_at c.args.image.now.stored.bytes.now in
    let o = c.row-row.ensures ∙ (λ j. hd.inputs.start j + l.i * 7) in (
      omega arith,
      among_found w c.args.t l.i _ _ (omega (arith, hd.inputs.rows)) (field w _ _ 5 _ c.word.ensures.0 o)
          (field w _ _ 6 _ c.word-in-loop-i.ensures.0 o) c.if-t-word.true l.invariant,
    )

pub loop-i-preserved : goal.loop-i-preserved
loop-i-preserved c =
    let l = c.loop-i in
    let hd = c.args.image.now.stored.heads in
    let w = word_at c.args.image.now.stored.bytes.now in
    let o = c.row-row.ensures ∙ (λ j. hd.inputs.start j + l.i * 7) in
    among_next w c.args.t l.i _ _ (omega (arith, hd.inputs.rows)) (field w _ _ 5 _ c.word.ensures.0 o)
    (field w _ _ 6 _ c.word-in-loop-i.ensures.0 o) c.if-t-word.false l.invariant

pub returns : goal.returns
returns c =
    let hd = c.args.image.now.stored.heads in
    among_none (word_at c.args.image.now.stored.bytes.now) c.args.t c.loop-i.i (omega (arith, hd.inputs.rows)) c.loop-i.invariant
