use mathlib.Core.Path.{◌≡◌, ◌∙◌}
use Prim.Native.Nat.{◌+◌, ◌-◌, ◌*◌, ◌<◌}
use native.Mathlib.Omega.{arith}
use Rattle.model.specs.Image.{word_at, decode, conclusion_at, RULES, RULE_TABLE}
use Rattle.model.specs.Listing.{conclusion_text}
use Rattle.laws.proofs.Places.{field}
use Rattle.layout.proofs.Within.{conclusions_within}
use Rattle.layout.proofs.Rules.{rule_conclusions, conclusion_here}
use Rattle.listing_writer.proofs.Lists.{commaed_from}
use Rattle.conclusion_listing.proofs.conclusions.Goals as goal
use Rattle.conclusion_listing.proofs.conclusions.Goals.{After-row-row}

-- where the rule's row starts, and that it is there
row : (c : After-row-row) →
    let w = word_at c.args.image.now.stored.bytes.now in
    (c.row-row.result ≡ w RULE_TABLE + c.args.i * 6) × (c.args.i < w RULES)
row c =
    let heads = c.args.image.now.stored.heads in
    (c.row-row.ensures ∙ (λ i. heads.rules.start i + c.args.i * 6), omega (arith, heads.rules.rows, c.requires))

pub conclusion-requires : goal.conclusion-requires
conclusion-requires c =
    let image = c.args.image.now in
    let w = word_at image.stored.bytes.now in
    let (place, rule) = row (goal.at.conclusion-requires c).After-row-row in
    let first = field w _ _ 3 _ c.word-first.ensures.0 place in
    let count = field w _ _ 4 _ c.word.ensures.0 place in
    let within = conclusions_within w image.sound.rules c.args.i rule in
    let j : c.word-first.result + (c.loop-j.j - 1 - c.word-first.result) ≡ c.loop-j.j - 1 = omega arith in
    let here = conclusion_here w image.sound c.args.i rule _ _ _ place c.word-first.ensures.0 c.word.ensures.0 (c.loop-j.j - 1 - c.word-first.result) (omega arith) in
    (omega (arith, first, count, within, image.stored.heads.conclusions.rows), rw j at here)

pub returns : goal.returns
returns c =
    let image = c.args.image.now in
    let w = word_at image.stored.bytes.now in
    let (place, rule) = row (goal.at.returns c).After-row-row in
    let items = rule_conclusions w image.sound c.args.i rule _ _ _ place c.word-first.ensures.0 c.word.ensures.0 in
    let all = commaed_from (conclusion_text (decode w)) (conclusion_at w) c.word-first.result c.word.result c.loop-j.j (omega arith) in
    rw (all, items) at c.loop-j.invariant.1
