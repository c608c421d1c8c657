use mathlib.Core.Path.{◌≡◌, ◌∙◌}
use Prim.Native.Nat.{◌+◌, ◌*◌, ◌<◌}
use native.Mathlib.Omega.{arith}
use Rattle.model.specs.Image.{word_at, rule_at, RULES, WORD_TABLE}
use Rattle.laws.proofs.Places.{field}
use Rattle.layout.specs.Tables.{word_count}
use Rattle.layout.proofs.Parts.{word_first}
use Rattle.layout.proofs.Within.{words_within}
use Rattle.rule_listing.proofs.Conditions.{rule_spans}
use Rattle.rule_listing.proofs.rule_condition.Goals as goal
use Rattle.rule_listing.proofs.rule_condition.Goals.{After-word-2}

-- the words of the rule's row that were read
reads_are : (c : After-word-2) →
    let w = word_at c.args.image.now.stored.bytes.now in
    (c.word.result ≡ word_first w c.args.i) × (c.word-2.result ≡ word_count w c.args.i) × (c.args.i < w RULES)
reads_are c =
    let w = word_at c.args.image.now.stored.bytes.now in
    let heads = c.args.image.now.stored.heads in
    let o = c.row-row.ensures ∙ (λ i. heads.rules.start i + c.args.i * 6) in
    (field w _ _ 1 _ c.word.ensures.0 o, field w _ _ 2 _ c.word-2.ensures.0 o, omega (arith, heads.rules.rows, c.requires))

pub condition-requires : goal.condition-requires
condition-requires c =
    let image = c.args.image.now in
    let (first, count, rule) = reads_are (goal.at.condition-requires c).After-word-2 in
    let within = words_within (word_at image.stored.bytes.now) image.sound.rules c.args.i rule in
    omega (arith, first, count, within, image.stored.heads.words.rows, image.stored.covers.words)

pub returns : goal.returns
returns c =
    let image = c.args.image.now in
    let w = word_at image.stored.bytes.now in
    let (first, count, rule) = reads_are (goal.at.returns c).After-word-2 in
    let at : image.stored.header.words.start + c.word.result ≡ w WORD_TABLE + word_first w c.args.i = λ j. image.stored.heads.words.start j + first j in
    (c.condition.ensures.writes _ (rule_at w c.args.i).condition (rule_spans w image.sound c.args.i rule _ _ at count)).1
