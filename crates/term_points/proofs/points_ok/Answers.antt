use mathlib.Core.Path.{sym, ap, ◌∙◌}
use Rattle.model.specs.Block.{may_follow}
use Rattle.model.specs.WellFormed.{point_ok}
use Rattle.model.specs.Image.{word_at, point_at}
use Rattle.term_points.proofs.Points.{taken, ends_first, ends_next, point_bad, place_bad, point_good, points_end, points_start}
use Rattle.term_points.proofs.points_ok.Goals as goal
use Rattle.term_points.proofs.points_ok.Goals.{then-not-point_ok-via-then-not-point_ok, then-not-point_ok-via-else-not-point_ok+then-not-may_stand}

pub loop-i-init : goal.loop-i-init
loop-i-init c =
    let a = c.args in
    let f = point_at (word_at a.image.now.bytes.now) in
    (ends_first f a.s _, points_start f a.s a.k)

pub returns-then-not-point_ok : goal.returns-then-not-point_ok
returns-then-not-point_ok c =
    let a = c.args in
    let f = point_at (word_at a.image.now.bytes.now) in
    let l = c.loop-i in
    let e = c.point_at-p.ensures in
    elim c.then-not-point_ok.branch [
      | then-not-point_ok-via-then-not-point_ok w ↦
          sym (point_bad f a.s a.k l.i c.loop-i-test.true (sym (c.point_ok.ensures ∙ ap point_ok e) ∙ w.if-not-point_ok.true)) ∙ l.invariant.1
      | then-not-point_ok-via-else-not-point_ok+then-not-may_stand w ↦
          let bad = ap (λ p. may_follow (taken f a.s l.i) p.at) (sym e) ∙ l.invariant.0.may _ ∙ sym w.may_stand.ensures ∙ w.if-not-may_stand.true in
          sym (place_bad f a.s a.k l.i c.loop-i-test.true bad) ∙ l.invariant.1
    ]

pub loop-i-preserved : goal.loop-i-preserved
loop-i-preserved c =
    let a = c.args in
    let f = point_at (word_at a.image.now.bytes.now) in
    let l = c.loop-i in
    let e = c.point_at-p.ensures in
    let point = sym (c.point_ok.ensures ∙ ap point_ok e) ∙ c.if-not-point_ok.false in
    let position = ap (λ p. may_follow (taken f a.s l.i) p.at) (sym e) ∙ l.invariant.0.may _ ∙ sym c.may_stand.ensures ∙ c.if-not-may_stand.false in (
      ends_next f a.s a.k l.i l.last _ (ap (λ p. p.at) e) l.invariant.0,
      sym (point_good f a.s a.k l.i c.loop-i-test.true point position) ∙ l.invariant.1,
    )

pub returns : goal.returns
returns c =
    let l = c.loop-i in
    let a = c.args in
    sym (points_end (point_at (word_at a.image.now.bytes.now)) a.s a.k l.i c.loop-i-test.false) ∙ l.invariant.1
