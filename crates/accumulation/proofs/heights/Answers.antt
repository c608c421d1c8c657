use mathlib.Core.Path.{◌≡◌, refl, sym, ap, ◌∙◌}
use mathlib.Core.List.{List}
use Prim.Native.Nat.{ℕ, ◌+◌, ◌-◌, ◌≤◌, ◌<◌}
use native.Mathlib.Omega.{arith}
use lib.ListN.{length, length-map, get_or}
use Rattle.model.specs.Bounds.{output_term_limit}
use Rattle.model.specs.Block.{Conclusion}
use Rattle.model.specs.Degrees.{prod_of}
use Rattle.model.specs.Evaluation.{rule_degree, accumulated}
use Rattle.model.specs.Image.{word_at, decode, rule_place, rule_at, conclusion_place, conclusion_at}
use Rattle.laws.proofs.Places.{field}
use Rattle.laws.proofs.Arrays.{replicate_at}
use Rattle.layout.proofs.Rules.{rules_few, rule_conclusions}
use Rattle.layout.proofs.Within.{conclusions_within}
use Rattle.degrees.specs.Tables.{numbers}
use Rattle.accumulation.specs.Heights.{after_conclusions}
use Rattle.accumulation.proofs.Steps.{height_is, conclusion_turn, conclusions_start, conclusions_end, rules_start, rule_turn, rules_end}
use Rattle.accumulation.proofs.Rules.{degree_by, rule_degree_is, term_read}
use Rattle.accumulation.proofs.heights.Goals as goal
use Rattle.accumulation.proofs.heights.Goals.{After-word-term, After-word-count}

inside : (c : After-word-count) → c.loop-i.i < word_at c.args.image.now.stored.bytes.now 6
inside c = omega (arith, c.loop-i-test.true, c.args.image.now.stored.heads.rules.rows)

-- the first conclusion of a rule and how many there are
read : (c : After-word-count) →
    let w = word_at c.args.image.now.stored.bytes.now in
    let o = rule_place w c.loop-i.i in
    (c.word-first.result ≡ w (o + 3)) × (c.word-count.result ≡ w (o + 4))
read c =
    let stored = c.args.image.now.stored in
    let w = word_at stored.bytes.now in
    let o : c.row-row.result ≡ rule_place w c.loop-i.i = omega (arith, stored.heads.rules.start, c.row-row.ensures) in
    (field w _ _ 3 _ c.word-first.ensures.0 o, field w _ _ 4 _ c.word-count.ensures.0 o)

-- the term that a turn reads
here : (c : After-word-term) →
    let w = word_at c.args.image.now.stored.bytes.now in
    let m = c.args.image.now.input_terms in
    let t = c.word-term.result in
    (t ≡ (conclusion_at w c.loop-j.j).term) × (m ≤ t) × (t < m + output_term_limit)
here c =
    let image = c.args.image.now in
    let w = word_at image.stored.bytes.now in
    let o : c.row-row.result ≡ rule_place w c.loop-i.i = omega (arith, image.stored.heads.rules.start, c.row-row.ensures) in
    let first = field w _ _ 3 _ c.word-first.ensures.0 o in
    let count = field w _ _ 4 _ c.word-count.ensures.0 o in
    let within : c.loop-i.i < w 6 = omega (arith, c.loop-i-test.true, image.stored.heads.rules.rows) in
    let k = c.loop-j.j - c.word-first.result in
    let e : c.word-first.result + k ≡ c.loop-j.j = omega arith in
    let p : c.row.result ≡ conclusion_place w (c.word-first.result + k) = omega (arith, image.stored.heads.conclusions.start, c.row.ensures, e) in
    let r = term_read w image.sound _ within _ _ k _ first count (omega arith) (field w _ _ 1 _ c.word-term.ensures.0 p) in
    (r.0 ∙ ap (λ (j : ℕ). (conclusion_at w j).term) e, omega (arith, r.1, image.counted), omega (arith, r.2, image.counted))

pub loop-i-init : goal.loop-i-init
loop-i-init c p =
    let e : get_or (numbers c.zeros-hs.result.at) p 0 ≡ 0 = ap (λ (l : List ℕ). get_or l p 0) c.zeros-hs.ensures ∙ replicate_at output_term_limit p 0 in
    rules_start _ _ _ _ 0 _ _ e

pub get-requires : goal.get-requires
get-requires c =
    let image = c.args.image.now in
    (omega arith, omega (arith, c.loop-i-test.true, image.stored.heads.rules.rows, rules_few _ image.sound))

pub loop-j-init : goal.loop-j-init
loop-j-init c = λ p. conclusions_start _ _ _ _ _ _ _

pub word-term-requires : goal.word-term-requires
word-term-requires c =
    let image = c.args.image.now in
    let w = word_at image.stored.bytes.now in
    let q = (goal.at.word-term-requires c).After-word-count in
    let few = conclusions_within w image.sound.rules _ (inside q) in
    omega (arith, read q, few, image.stored.heads.conclusions.rows, image.stored.covers.conclusions)

pub overflow_sub-t : goal.overflow_sub-t
overflow_sub-t c = (here (goal.at.overflow_sub-t c).After-word-term).1

pub get-before-requires : goal.get-before-requires
get-before-requires c = (omega arith, omega (arith, here (goal.at.get-before-requires c).After-word-term))

pub set-requires : goal.set-requires
set-requires c = (omega arith, (omega (arith, here (goal.at.set-requires c).After-word-term), c.accumulate.ensures.1))

pub loop-j-preserved : goal.loop-j-preserved
loop-j-preserved c =
    let image = c.args.image.now in
    let k = here (goal.at.loop-j-preserved c).After-word-term in
    let l = numbers c.loop-j.hs.at in
    let t = c.word-term.result in
    let accu = c.stored_accumulation-accumulation.result in
    let d = c.rule_degree-d.result.0 in
    let long : t < image.input_terms + length l = rw length-map (omega (arith, k, c.loop-j.hs.long)) in
    let v : c.accumulate.result.0 ≡ accumulated accu (get_or l (t - image.input_terms) 0) d =
    c.accumulate.ensures.0 ∙ ap (λ (h : ℕ). accumulated accu h d) c.get-before.ensures.0 in
    λ p. conclusion_turn accu d (conclusion_at (word_at image.stored.bytes.now)) _ c.loop-j.j image.input_terms l _ t _ c.loop-j-test.true k.0 k.1 long v c.set.ensures p
    ∙ c.loop-j.invariant p

pub loop-i-preserved : goal.loop-i-preserved
loop-i-preserved c =
    let image = c.args.image.now in
    let m = image.input_terms in
    let w = word_at image.stored.bytes.now in
    let g = c.loop-j in
    let l = c.loop-i in
    let d = c.rule_degree-d in
    let cs = numbers c.condition_degrees-conditions.result.at in
    let q = (goal.at.loop-i-preserved c).After-word-count in
    let k = read q in
    let accu = c.stored_accumulation-accumulation.result in
    let ks = rule_conclusions w image.sound l.i (inside q) (rule_place w l.i) _ _ refl k.0 k.1 in
    let own : degree_by w cs l.i ≡ d.result.0 = ap (λ (x : ℕ). prod_of x (rule_at w l.i).weight) (sym c.get.ensures.0) ∙ sym d.ensures.0 in
    let after : List Conclusion → ℕ → ℕ = λ ks p. after_conclusions accu d.result.0 (m + p) ks (get_or (numbers l.hs.at) p 0) in
    let given : (p : ℕ) → get_or (numbers g.hs.at) p 0 ≡ after (rule_at w l.i).conclusions p =
    λ p. sym (conclusions_end _ d.result.0 (conclusion_at w) _ g.j (m + p) _ c.loop-j-test.false) ∙ g.invariant p ∙ (λ j. after (ks j) p) in
    λ p. rule_turn _ _ _ _ l.i _ _ _ _ c.loop-i-test.true (sym own) (given p) ∙ l.invariant p

pub returns : goal.returns
returns c =
    let l = c.loop-i in
    let k = c.condition_degrees-conditions in
    let pair = c.stored_pair in
    let accu = c.stored_accumulation-accumulation in
    let image = c.args.image.now in
    let w = word_at image.stored.bytes.now in
    let cs = numbers k.result.at in
    let ds = numbers c.args.ds.now.at in
    let each : (j : ℕ) → j < image.stored.header.rules.rows → degree_by w cs j ≡ rule_degree (decode w) ds (rule_at w j) =
    λ j h. rule_degree_is w cs ds pair.result j pair.ensures (k.ensures j h) in
    λ p. sym (rules_end _ _ _ _ l.i (image.input_terms + p) _ c.loop-i-test.false) ∙ l.invariant p
    ∙ height_is w ds (image.input_terms + p) _ _ _ accu.ensures image.stored.heads.rules.rows each
