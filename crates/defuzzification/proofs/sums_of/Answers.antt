use mathlib.Core.Path.{◌≡◌, sym, ap, ◌∙◌, subst}
use mathlib.Core.List.{List, [], ◌∷◌, ◌++◌}
use Prim.Native.Nat.{ℕ, ◌+◌, ◌-◌, ◌≤◌, ◌<◌}
use native.Mathlib.Omega.{arith}
use lib.IntN.{ℤ}
use Rattle.model.specs.Basic.{total, tab}
use Rattle.model.specs.Bounds.{term_limit, output_term_limit}
use Rattle.model.specs.Image.{word_at, output_place}
use Rattle.crisp.specs.Crisp.{InCrisp}
use Rattle.degrees.specs.Tables.{numbers}
use Rattle.centre.specs.Centre.{lifted, SumsOf}
use Rattle.layout.specs.Tables.{output_count, output_first_at}
use Rattle.layout.proofs.Sound.{output_numbers, positions_crisp}
use Rattle.layout.proofs.Within.{output_terms_within}
use Rattle.defuzzification.specs.Outputs.{height_of}
use Rattle.defuzzification.proofs.Answers.{tab_more}
use Rattle.defuzzification.proofs.sums_of.Invariants.{place_in}
use Rattle.defuzzification.proofs.sums_of.Goals as goal
use Rattle.defuzzification.proofs.sums_of.Goals.{After-word-count}

-- the output is one of the image's
known : (c : After-word-count) → c.args.i < word_at c.args.image.now.stored.bytes.now 3
known c = omega (arith, c.requires, c.args.image.now.stored.heads.outputs.rows)

-- the output's terms: the first, and how many
read : (c : After-word-count) →
    let w = word_at c.args.image.now.stored.bytes.now in
    (c.word-first.result ≡ output_first_at w c.args.i) × (c.word-count.result ≡ output_count w c.args.i)
read c =
    let stored = c.args.image.now.stored in
    let w = word_at stored.bytes.now in
    let e : c.row-row.result ≡ output_place w c.args.i = omega (arith, stored.heads.outputs.start, c.row-row.ensures) in
    (c.word-first.ensures.0 ∙ ap (λ (o : ℕ). w (o + 4)) e, c.word-count.ensures.0 ∙ ap (λ (o : ℕ). w (o + 5)) e)

-- where the terms' heights stand
within : (c : After-word-count) →
    let m = c.args.image.now.input_terms in
    let first = c.word-first.result in
    (c.word-count.result ≤ term_limit) × (m ≤ first) × (first - m + c.word-count.result ≤ output_term_limit)
within c =
    let image = c.args.image.now in
    omega (arith, output_numbers (word_at image.stored.bytes.now) image.sound c.args.i (known c), read c, image.counted)

pub loop-t-init : goal.loop-t-init
unfolding tab total lifted
loop-t-init c =
    let e : c.word-first.result - c.word-first.result ≡ 0 = omega arith in
    rw e (record { sums = c.none-sums.ensures; small = omega (arith, c.none-sums.ensures.1) })

pub overflow_sub-t : goal.overflow_sub-t
overflow_sub-t c = omega (arith, within (goal.at.overflow_sub-t c).After-word-count)

pub get-height-requires : goal.get-height-requires
get-height-requires c = (omega arith, omega (arith, within (goal.at.get-height-requires c).After-word-count))

pub position-requires : goal.position-requires
position-requires c =
    let image = c.args.image.now in
    let p = (goal.at.position-requires c).After-word-count in
    let few = output_terms_within (word_at image.stored.bytes.now) image.sound.frame _ (known p) in
    (omega (arith, read p, few, image.counted), omega (arith, read p, few, image.stored.heads.terms.rows))

pub added-sums-requires : goal.added-sums-requires
added-sums-requires c =
    let l = c.loop-t in
    let image = c.args.image.now in
    let w = word_at image.stored.bytes.now in
    let p = (goal.at.added-sums-requires c).After-word-count in
    let r = read p in
    let at : l.t ≡ output_first_at w c.args.i + (l.t - c.word-first.result) = omega (arith, r.0) in
    let e = c.position.ensures ∙ ap (place_in w) at in
    let crisp = positions_crisp w image.sound _ (known p) (l.t - c.word-first.result) (omega (arith, r.1)) in
    (subst InCrisp (sym e) crisp, c.get-height.ensures.1, omega (arith, l.invariant.small, within p))

pub loop-t-preserved : goal.loop-t-preserved
loop-t-preserved c =
    let l = c.loop-t in
    let image = c.args.image.now in
    let w = word_at image.stored.bytes.now in
    let f = place_in w in
    let g = height_of (numbers c.args.hs.now.at) image.input_terms in
    let first = c.word-first.result in
    let k = l.t - first in
    let at : l.t ≡ first + k = omega arith in
    let next : k + 1 ≡ l.t + 1 - first = omega arith in
    let ep = tab_more f k first c.position.result.0 (c.position.ensures ∙ ap f at) in
    let eh = tab_more g k first c.get-height.result.0 (c.get-height.ensures.0 ∙ ap g at) in
    let new = c.added-sums in
    let sums = subst (λ (ps : List ℤ). SumsOf new.result.heights new.result.moment ps (tab g (k + 1) first)) ep
    (subst (λ (hs : List ℕ). SumsOf new.result.heights new.result.moment (tab f k first ++ (c.position.result.0 ∷ [])) hs) eh (new.ensures.sums_of _ _ l.invariant.sums)) in
    record {
      sums = subst (λ (n : ℕ). SumsOf new.result.heights new.result.moment (tab f n first) (tab g n first)) next sums;
      small = omega (arith, new.ensures.small, l.invariant.small);
    }

pub returns : goal.returns
returns c =
    let l = c.loop-t in
    let image = c.args.image.now in
    let w = word_at image.stored.bytes.now in
    let g = height_of (numbers c.args.hs.now.at) image.input_terms in
    let r = read (goal.at.returns c).After-word-count in
    let first = c.word-first.result in
    let e : l.t - first ≡ output_count w c.args.i = omega (arith, r.1) in
    subst (λ (n : ℕ). SumsOf l.sums.heights l.sums.moment (tab (place_in w) n (output_first_at w c.args.i)) (tab g n (output_first_at w c.args.i))) e
    (subst (λ (p : ℕ). SumsOf l.sums.heights l.sums.moment (tab (place_in w) (l.t - first) p) (tab g (l.t - first) p)) r.0 l.invariant.sums)
