use mathlib.Core.Path.{◌≡◌, refl, sym, ap, subst, ◌∙◌}
use mathlib.Core.Bool.{true}
use mathlib.Core.List.{List, [], ◌∷◌, ◌++◌}
use Prim.Native.Nat.{ℕ, ◌+◌, ◌*◌, ◌-◌, ◌≤◌, ◌<◌}
use native.Mathlib.Omega.{arith}
use lib.IntN.{pos}
use lib.ListN.{get_or, length-map, replicate, get_or-map}
use lib.Seq.{sets}
use Rattle.model.specs.Bounds.{term_limit, input_term_limit}
use Rattle.model.specs.declared.Crisp.{Crisp}
use Rattle.model.specs.Basic.{all, tab}
use Rattle.model.specs.Degrees.{term_degree}
use Rattle.model.specs.Evaluation.{term_degrees}
use Rattle.model.specs.Image.{word_at, term_at, input_at, decode, INPUTS}
use Rattle.model.specs.WellFormed.{term_ok}
use Rattle.laws.proofs.Lists.{all_at}
use Rattle.crisp.specs.Crisp.{InCrisp}
use Rattle.layout.specs.Tables.{sums, input_count}
use Rattle.layout.proofs.Within.{input_terms_within}
use Rattle.layout.proofs.Inputs.{input_limit_lem, first_is, accepted_terms, sums_last}
use Rattle.degrees.specs.Tables.{numbers}
use Rattle.input_values.specs.Filled.{filled, figures}
use Rattle.input_values.proofs.Fill.{filled_sets, place_more}
use Rattle.fuzzification.proofs.Degrees.{degrees_at, length_at, term_more, length_degrees, input_more}
use Rattle.fuzzification.proofs.term_degrees.Goals as goal
use Rattle.fuzzification.proofs.term_degrees.Goals.{After-word-count}

below : (c : After-word-count) → c.loop-i.i < word_at c.args.image.now.stored.bytes.now 2
below c = omega (arith, c.loop-i-test.true, c.args.image.now.stored.heads.inputs.rows)

count : (c : After-word-count) → c.word-count.result ≡ input_count (word_at c.args.image.now.stored.bytes.now) c.loop-i.i
count c =
    let stored = c.args.image.now.stored in
    let w = word_at stored.bytes.now in
    let e : c.row.result ≡ w 9 + c.loop-i.i * 7 = omega (arith, stored.heads.inputs.start, c.row.ensures) in
    c.word-count.ensures.0 ∙ ap (λ (o : ℕ). w (o + 6)) e

-- the terms of an input: few, and in order
accepted : (c : After-word-count) →
    (c.word-count.result ≤ term_limit) × (all term_ok (tab (term_at (word_at c.args.image.now.stored.bytes.now)) c.word-count.result c.loop-i.first) ≡ true)
accepted c =
    let image = c.args.image.now in
    let l = c.loop-i in
    accepted_terms (word_at image.stored.bytes.now) l.i l.first c.word-count.result image.sound (below c) l.invariant.before (count c)

-- they are input terms
among : (c : After-word-count) → c.loop-i.first + c.word-count.result ≤ c.args.image.now.input_terms
among c =
    let image = c.args.image.now in
    let l = c.loop-i in
    let w = word_at image.stored.bytes.now in
    let s = image.sound in
    omega (arith, l.invariant.before, count c, first_is w l.i s (below c), (input_terms_within w s.frame l.i (below c)).0, image.counted)

pub loop-i-init : goal.loop-i-init
unfolding tab term_degrees sums
loop-i-init c =
    let image = c.args.image.now in record {
      few = omega (arith, image.stored.heads.inputs.rows, input_limit_lem (word_at image.stored.bytes.now) image.sound);
      before = refl;
      small = omega arith;
      placed = c.zeros-ds.ensures;
    }

pub loop-t-init : goal.loop-t-init
unfolding tab
loop-t-init c =
    let l = c.loop-i in
    let e : 0 ≡ l.first - l.first = omega arith in
    ap (λ (k : ℕ). sets (numbers l.ds.at) l.first (degrees_at (get_or (figures c.args.xs.now) l.i (pos 0)) (tab (term_at (word_at c.args.image.now.stored.bytes.now)) k l.first))) e

pub input_term_degree-requires : goal.input_term_degree-requires
input_term_degree-requires c =
    let l = c.loop-i in
    let t = c.loop-t.t in
    let p = (goal.at.input_term_degree-requires c).After-word-count in
    let f = term_at (word_at c.args.image.now.stored.bytes.now) in
    let e : l.first + (t - l.first) ≡ t = omega arith in record {
      input_term = (omega (arith, among p), subst InCrisp (get_or-map (λ (y : Crisp). y.0) c.args.xs.now l.i (record { 0 = pos 0 })) (c.requires l.i));
      ok = subst (λ (k : ℕ). term_ok (f k) ≡ true) e (all_at term_ok f _ l.first (t - l.first) (omega arith) (accepted p).1);
    }

pub set-requires : goal.set-requires
set-requires c = (omega arith, (omega (arith, accepted (goal.at.set-requires c).After-word-count, c.loop-i.invariant), c.input_term_degree.ensures.1))

pub loop-t-preserved : goal.loop-t-preserved
loop-t-preserved c =
    let l = c.loop-i in
    let t = c.loop-t.t in
    let f = term_at (word_at c.args.image.now.stored.bytes.now) in
    let xs = c.args.xs.now in
    let x = get_or (figures xs) l.i (pos 0) in
    let ex = sym (get_or-map (λ (y : Crisp). y.0) xs l.i (record { 0 = pos 0 })) in
    let k = t - l.first in
    let e : l.first + k ≡ t = omega arith in
    let n : k + 1 ≡ t + 1 - l.first = omega arith in
    let d : c.input_term_degree.result.0 ≡ term_degree (f (l.first + k)).points x =
    c.input_term_degree.ensures.0 ∙ (λ j. term_degree (f (sym e j)).points (ex j)) in
    c.set.ensures
    ∙ place_more (numbers c.loop-t.ds.at) (numbers l.ds.at) l.first t (degrees_at x (tab f k l.first)) c.input_term_degree.result.0
    c.loop-t.invariant (omega (arith, length_at x f k l.first))
    ∙ ap (λ (y : ℕ). sets (numbers l.ds.at) l.first (degrees_at x (tab f k l.first) ++ (y ∷ []))) d
    ∙ ap (λ (ys : List ℕ). sets (numbers l.ds.at) l.first ys) (sym (term_more x f k l.first))
    ∙ ap (λ (m : ℕ). sets (numbers l.ds.at) l.first (degrees_at x (tab f m l.first))) n

pub loop-i-preserved : goal.loop-i-preserved
loop-i-preserved c =
    let l = c.loop-i in
    let p = (goal.at.loop-i-preserved c).After-word-count in
    let image = c.args.image.now in
    let w = word_at image.stored.bytes.now in
    let xs = figures c.args.xs.now in
    let i = l.i in
    let e = count p in
    let n = length-map c.args.xs.now (λ (x : Crisp). x.0) in
    let q : 0 + i ≡ i = omega arith in
    let all_read : c.loop-t.t - l.first ≡ c.word-count.result = omega arith in record {
      few = l.invariant.few;
      before = omega (arith, l.invariant.before, e, sums_last (input_count w) i 0, ap (input_count w) q);
      small = omega (arith, l.invariant.small, (accepted p).0);
      placed = input_more w i l.first (c.loop-t.t - l.first) _ xs (replicate input_term_limit 0) (numbers l.ds.at) (numbers c.loop-t.ds.at) image.sound (below p)
          (omega (arith, c.told-xs, n)) l.invariant.before (all_read ∙ e) refl l.invariant.placed c.loop-t.invariant;
    }

pub returns : goal.returns
unfolding decode
returns c =
    let l = c.loop-i in
    let stored = c.args.image.now.stored in
    let w = word_at stored.bytes.now in
    let xs = figures c.args.xs.now in
    let e : l.i ≡ w INPUTS = omega (arith, stored.heads.inputs.rows) in
    let n = length-map c.args.xs.now (λ (x : Crisp). x.0) in
    let long = length_degrees w l.i 0 xs (omega (arith, c.told-xs, n)) in
    l.invariant.placed
    ∙ filled_sets input_term_limit 0 (term_degrees (tab (input_at w) l.i 0) xs) (omega (arith, long, l.invariant.before, l.invariant.small))
    ∙ ap (λ (m : ℕ). filled input_term_limit 0 (term_degrees (tab (input_at w) m 0) xs)) e
