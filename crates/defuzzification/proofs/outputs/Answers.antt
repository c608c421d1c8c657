use mathlib.Core.Path.{◌≡◌, refl, sym, ap, ◌∙◌}
use mathlib.Core.List.{List, [], ◌∷◌, ◌++◌, map}
use Prim.Native.Nat.{ℕ, ◌-◌, ◌<◌}
use native.Mathlib.Omega.{arith}
use lib.IntN.{pos}
use lib.ListN.{length, set, replicate}
use Rattle.model.specs.Basic.{tab}
use Rattle.model.specs.Bounds.{output_limit}
use Rattle.model.specs.Image.{word_at, OUTPUTS}
use Rattle.model.specs.Evaluation.{no_answer, padded, held_of}
use Rattle.model.specs.declared.Answer.{Answer}
use Rattle.model.specs.declared.Crisp.{Crisp}
use Rattle.laws.proofs.Places.{fill_front}
use Rattle.degrees.specs.Tables.{numbers}
use Rattle.layout.proofs.Sound.{outputs_few}
use Rattle.defuzzification.specs.Outputs.{height_of, answers_by}
use Rattle.defuzzification.proofs.Answers.{answer_at, answers_are, padded_is, held_is}
use Rattle.defuzzification.proofs.outputs.Goals as goal

pub loop-i-init : goal.loop-i-init
unfolding tab
loop-i-init c =
    let image = c.args.image.now in
    let e = c.no_answer-answers.ensures in record {
      few = omega (arith, outputs_few (word_at image.stored.bytes.now) image.sound, image.stored.heads.outputs.rows);
      answers = λ j. e j ∷ e j ∷ e j ∷ e j ∷ e j ∷ e j ∷ [];
      figures = refl;
    }

pub loop-i-preserved : goal.loop-i-preserved
unfolding answer_at
loop-i-preserved c =
    let l = c.loop-i in
    let image = c.args.image.now in
    let f = answer_at (word_at image.stored.bytes.now) (height_of (numbers c.args.hs.now.at) image.input_terms) c.args.held.figures in
    let r = c.answer-a.result in
    let h : l.i < output_limit = omega (arith, l.invariant.few, c.loop-i-test.true) in
    let e : r ≡ f l.i = c.answer-a.ensures _ c.sums_of.ensures in record {
      few = l.invariant.few;
      answers = ap (λ (x : List Answer). set x l.i r) l.invariant.answers ∙ fill_front f no_answer r output_limit l.i h e;
      figures = ap (λ (x : List Crisp). set x l.i r.thousandths) l.invariant.figures
          ∙ fill_front (λ j. (f j).thousandths) (record { 0 = pos 0 }) r.thousandths output_limit l.i h (ap (λ (a : Answer). a.thousandths) e);
    }

pub returns : goal.returns
returns c =
    let image = c.args.image.now in
    let w = word_at image.stored.bytes.now in
    let held = c.args.held in
    let hs = numbers c.args.hs.now.at in
    let h = height_of hs image.input_terms in
    let f = answer_at w h held.figures in
    let e : c.loop-i.i ≡ w OUTPUTS = omega (arith, image.stored.heads.outputs.rows) in
    let k : length held.figures ≡ output_limit = omega (arith, c.well_formed) in
    let g : answers_by w hs image.input_terms held ≡ tab f (w OUTPUTS) 0 = answers_are w h held.figures image.sound k in
    record {
      answers_value = c.loop-i.invariant.answers ∙ ap (λ (n : ℕ). tab f n 0 ++ replicate (output_limit - n) no_answer) e ∙ padded_is f (w OUTPUTS) ∙ ap (padded no_answer) (sym g);
      held_value = ap (λ (x : List Crisp). record { figures = x })
          (c.loop-i.invariant.figures ∙ ap (λ (n : ℕ). tab (λ j. (f j).thousandths) n 0 ++ replicate (output_limit - n) (record { 0 = pos 0 })) e ∙ held_is f (w OUTPUTS))
          ∙ ap (λ (x : List Answer). held_of (map (λ a. a.thousandths.0) x)) (sym g);
    }
