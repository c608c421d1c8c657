use borrow.Author.Rules.{rules}
use mathlib.Core.Path.{◌≡◌, sym, ap, ◌∙◌, subst}
use mathlib.Core.Bool.{true}
use Prim.Native.Nat.{ℕ, ◌+◌, ◌-◌, ◌≤◌, ◌<◌}
use native.Mathlib.Omega.{arith}
use lib.Signed.{lt_z}
use Rattle.model.specs.Degrees.{on_line}
use Rattle.model.specs.Image.{word_at, point_at}
use Rattle.model.specs.WellFormed.{point_ok}
use Rattle.laws.proofs.Comparison.{not_below}
use Rattle.laws.proofs.Lists.{all_at}
use Rattle.membership.proofs.Entries.{fine, low}
use Rattle.membership.proofs.Points.{below_next, after_next, at_last}
use Rattle.membership.proofs.degree_from.Goals as goal
use Rattle.membership.proofs.degree_from.Goals.{After-lt, Start}

point_fine : (s : Start) (i : ℕ) → s.args.first ≤ i → i < s.args.end → point_ok (point_at (word_at s.args.stored.now.bytes.now) i) ≡ true
point_fine s i h l =
    let a = s.args in
    let f = point_at (word_at a.stored.now.bytes.now) in
    let e : a.first + (i - a.first) ≡ i = omega arith in
    subst (λ (k : ℕ). point_ok (f k) ≡ true) e (all_at point_ok f (a.end - a.first) a.first (i - a.first) (omega arith) s.requires.first_bound.1)

-- what the test compares
compared : (c : After-lt) →
    let a = c.args in
    c.lt.result ≡ lt_z a.x.0 (point_at (word_at a.stored.now.bytes.now) c.loop-i.i).at
compared c = let e = c.lt.ensures in let q = c.place_at.ensures in search rules

pub on_line-requires-clause-in_crisp : goal.on_line-requires-clause-in_crisp
on_line-requires-clause-in_crisp c =
    let p = c.point_at in
    let q = c.point_at-then-lt in
    let s = (goal.at.on_line-requires-clause-in_crisp c).Start in (
      c.requires.within.2,
      fine p.result (ap point_ok p.ensures ∙ point_fine s (c.loop-i.i - 1) (omega arith) (omega arith)),
      fine q.result (ap point_ok q.ensures ∙ point_fine s c.loop-i.i (omega arith) (omega arith)),
    )

pub returns-then-lt : goal.returns-then-lt
returns-then-lt c =
    let i = c.loop-i.i in
    let x = c.args.x.0 in
    let f = point_at (word_at c.args.stored.now.bytes.now) in
    let less = sym (compared (goal.at.returns-then-lt c).After-lt) ∙ c.if-lt.true in (
      c.on_line.ensures.0 ∙ (λ j. on_line x (c.point_at.ensures j) (c.point_at-then-lt.ensures j))
          ∙ sym (below_next f x (i - 1) i c.args.end (omega arith) less) ∙ c.loop-i.invariant.rest,
      c.on_line.ensures.1,
    )

pub loop-i-preserved : goal.loop-i-preserved
loop-i-preserved c =
    let i = c.loop-i.i in
    let x = c.args.x.0 in
    let f = point_at (word_at c.args.stored.now.bytes.now) in
    let e : i + 1 - 1 ≡ i = omega arith in
    let less = sym (compared (goal.at.loop-i-preserved c).After-lt) ∙ c.if-lt.false in
    rw e (record {
      reached = not_below x (f i).at less;
      rest = sym (after_next f x (i - 1) i c.args.end (omega arith) less) ∙ c.loop-i.invariant.rest;
    })

pub returns : goal.returns
returns c =
    let l = c.loop-i in
    let a = c.args in
    let f = point_at (word_at a.stored.now.bytes.now) in
    let q : a.end - 1 ≡ l.i - 1 = omega arith in
    let e = c.degree_at.ensures ∙ ap (λ (k : ℕ). (f k).degree) q in (
      e ∙ sym (at_last f a.x.0 (l.i - 1) l.i a.end (omega arith)) ∙ l.invariant.rest,
      rw e (low (f (l.i - 1)) (point_fine (goal.at.returns c).Start (l.i - 1) (omega arith) (omega arith))),
    )
