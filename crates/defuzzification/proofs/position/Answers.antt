use mathlib.Core.Path.{◌≡◌, ap, ◌∙◌}
use Prim.Native.Nat.{ℕ, ◌+◌}
use native.Mathlib.Omega.{arith}
use Rattle.model.specs.Image.{word_at, term_place, singleton_at, point_at}
use Rattle.layout.proofs.Within.{point_within}
use Rattle.defuzzification.proofs.position.Goals as goal
use Rattle.defuzzification.proofs.position.Goals.{After-word-first}

-- the term's point
read : (c : After-word-first) → let w = word_at c.args.image.now.stored.bytes.now in c.word-first.result ≡ w (term_place w c.args.t + 4)
read c =
    let stored = c.args.image.now.stored in
    let w = word_at stored.bytes.now in
    let e : c.row.result ≡ term_place w c.args.t = omega (arith, stored.heads.terms.start, c.row.ensures) in
    c.word-first.ensures.0 ∙ ap (λ (o : ℕ). w (o + 4)) e

pub place_at-requires : goal.place_at-requires
place_at-requires c =
    let image = c.args.image.now in
    let h = image.stored.heads in
    let few = point_within (word_at image.stored.bytes.now) image.sound.frame c.args.t (omega (arith, image.counted, c.requires.0)) (omega (arith, h.terms.rows, c.requires.1)) in
    omega (arith, read (goal.at.place_at-requires c).After-word-first, few, h.points.rows)

pub returns : goal.returns
unfolding singleton_at
returns c =
    let w = word_at c.args.image.now.stored.bytes.now in
    c.place_at.ensures ∙ ap (λ (k : ℕ). (point_at w k).at) (read (goal.at.returns c).After-word-first)
