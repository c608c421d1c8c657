use mathlib.Core.Path.{sym, ap, ◌∙◌}
use mathlib.Core.Bool.{Bool, ◌&&◌, and-true, and-false}
use Prim.Native.Nat.{◌+◌}
use lib.Dec.{leb}
use Rattle.model.specs.WellFormed.{conclusion_ok}
use Rattle.model.specs.Image.{word_at, conclusion_at, decode}
use Rattle.laws.proofs.Places.{all_more, all_stop, all_end, all_start}
use Rattle.stored_conclusions.proofs.Outputs.{conclusion_spelt}
use Rattle.stored_conclusions.proofs.conclusions_ok.Goals as goal

pub loop-i-init : goal.loop-i-init
loop-i-init c = all_start _ _ _ _

pub returns-then-not-conclusion_ok : goal.returns-then-not-conclusion_ok
returns-then-not-conclusion_ok c =
    let a = c.args in
    let w = word_at a.image.now.stored.bytes.now in
    let no = sym (conclusion_spelt w a.image.now.laid c.loop-i.i) ∙ sym c.conclusion_ok.ensures ∙ c.if-not-conclusion_ok.true in
    let f = all_stop (conclusion_ok (decode w)) (conclusion_at w) (a.s + a.k) c.loop-i.i c.loop-i-test.true no in
    sym (ap (λ (b : Bool). leb 1 a.k && b) (sym c.loop-i.invariant ∙ f) ∙ and-false (leb 1 a.k))

pub loop-i-preserved : goal.loop-i-preserved
loop-i-preserved c =
    let a = c.args in
    let w = word_at a.image.now.stored.bytes.now in
    let yes = sym (conclusion_spelt w a.image.now.laid c.loop-i.i) ∙ sym c.conclusion_ok.ensures ∙ c.if-not-conclusion_ok.false in
    sym (all_more (conclusion_ok (decode w)) (conclusion_at w) (a.s + a.k) c.loop-i.i c.loop-i-test.true yes) ∙ c.loop-i.invariant

pub returns : goal.returns
returns c =
    let a = c.args in
    let w = word_at a.image.now.stored.bytes.now in
    let t = all_end (conclusion_ok (decode w)) (conclusion_at w) (a.s + a.k) c.loop-i.i c.loop-i-test.false in
    sym (ap (λ (b : Bool). leb 1 a.k && b) (sym c.loop-i.invariant ∙ t) ∙ and-true (leb 1 a.k))
