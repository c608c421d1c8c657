use native.Mathlib.Omega.{arith}
use mathlib.Core.Path.{◌≡◌, sym, ap, ◌∙◌}
use Prim.Native.Nat.{◌+◌, ◌*◌, ◌≤◌}
use lib.Seq.{length-take-le}
use Rattle.model.specs.Basic.{tab}
use Rattle.model.specs.Block.{Term}
use Rattle.model.specs.Image.{word_at, name_at, term_place, point_at, term_at}
use Rattle.laws.proofs.Places.{field}
use Rattle.layout.specs.Tables.{term_count}
use Rattle.layout.proofs.Within.{points_within}
use Rattle.layout.proofs.Inputs.{points_few}
use Rattle.name_field.proofs.Names.{name_front}
use Rattle.fuzzify_listing.proofs.input_term.Goals as goal
use Rattle.fuzzify_listing.proofs.input_term.Goals.{After-row-row, After-word-n}

place : (c : After-row-row) → c.row-row.result ≡ term_place (word_at c.args.image.now.stored.bytes.now) c.args.t
place c = c.row-row.ensures ∙ (λ i. c.args.image.now.stored.heads.terms.start i + c.args.t * 6)

-- the words of the term's row that were read
reads_are : (c : After-word-n) →
    let w = word_at c.args.image.now.stored.bytes.now in
    (c.word-n.result ≡ term_count w c.args.t) × (c.word-first.result ≡ w (term_place w c.args.t + 4))
reads_are c =
    let w = word_at c.args.image.now.stored.bytes.now in
    let o = c.row-row.ensures ∙ (λ i. c.args.image.now.stored.heads.terms.start i + c.args.t * 6) in
    (field w _ _ 5 _ c.word-n.ensures.0 o, field w _ _ 4 _ c.word-first.ensures.0 o)

few : (c : After-word-n) → c.word-n.result ≤ 4
few c = omega (arith, (reads_are c).0, (points_few (word_at c.args.image.now.stored.bytes.now) c.args.t c.requires.2).1)

pub term_points-ps-requires : goal.term_points-ps-requires
term_points-ps-requires c =
    let image = c.args.image.now in
    let (count, first) = reads_are c in
    let ends = points_within (word_at image.stored.bytes.now) image.sound.frame c.args.t c.requires.1 in
    (omega (arith, count, first, ends, image.stored.heads.points.rows), few c)

pub slice_bounds-ps-end : goal.slice_bounds-ps-end
slice_bounds-ps-end c = omega (arith, few (goal.at.slice_bounds-ps-end c).After-word-n)

pub slice_bounds-term_line-end-2 : goal.slice_bounds-term_line-end-2
slice_bounds-term_line-end-2 c =
    sym (length-take-le c.word-n.result c.term_points-ps.result (omega (arith, few (goal.at.slice_bounds-term_line-end-2 c).After-word-n)))

pub returns : goal.returns
unfolding term_at
returns c =
    let w = word_at c.args.image.now.stored.bytes.now in
    let (count, first) = reads_are (goal.at.returns c).After-word-n in
    let n = name_front w c.row-row.result _ _ c.bytes_at-name.ensures c.first_zero.ensures.value ∙ ap (name_at w) (place (goal.at.returns c).After-row-row) in
    let p = c.term_points-ps.ensures ∙ (λ j. tab (point_at w) (count j) (first j)) in
    let same : ◌≡◌ {A = Term} (record { name = _; points = _ }) (term_at w c.args.t) = λ j. record { name = n j; points = p j } in
    rw same at c.term_line.ensures
