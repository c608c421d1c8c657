use mathlib.Core.Path.{◌≡◌}
use Prim.Native.Nat.{◌<◌}
use native.Mathlib.Omega.{arith}
use Rattle.model.specs.Image.{word_at, rule_place, RULES}
use Rattle.laws.proofs.Places.{field}
use Rattle.accumulation.proofs.Rules.{weight_small}
use Rattle.accumulation.proofs.rule_degree.Goals as goal

pub prod-requires : goal.prod-requires
prod-requires c =
    let image = c.args.image.now in
    let w = word_at image.stored.bytes.now in
    let i = c.args.i in
    let inside : i < w RULES = omega (arith, c.requires.0, image.stored.heads.rules.rows) in
    let o : c.row.result ≡ rule_place w i = omega (arith, image.stored.heads.rules.start, c.row.ensures) in
    (c.requires.1, omega (arith, field w _ _ 5 _ c.word-weight.ensures.0 o, weight_small w image.sound i inside))
