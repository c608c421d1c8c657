use mathlib.Core.Path.{◌≡◌, sym, ap, ◌∙◌, subst}
use mathlib.Core.Bool.{true}
use mathlib.Core.List.{List}
use Prim.Native.Nat.{ℕ, ◌+◌, ◌*◌, ◌-◌, ◌≤◌}
use native.Mathlib.Omega.{arith}
use borrow.Author.Rules.{rules}
use lib.Signed.{lt_z}
use Rattle.model.specs.Basic.{all, tab}
use Rattle.model.specs.Block.{Point}
use Rattle.model.specs.Degrees.{term_degree}
use Rattle.model.specs.Image.{word_at, point_at, term_at}
use Rattle.model.specs.WellFormed.{point_ok}
use Rattle.laws.proofs.Comparison.{not_below}
use Rattle.laws.proofs.Lists.{all_at}
use Rattle.layout.specs.Tables.{term_count}
use Rattle.layout.proofs.Within.{points_within}
use Rattle.layout.proofs.Inputs.{points_few, points_ok}
use Rattle.membership.proofs.Entries.{low}
use Rattle.membership.proofs.Points.{below_first, after_first}
use Rattle.membership.proofs.input_term_degree.Goals as goal
use Rattle.membership.proofs.input_term_degree.Goals.{After-lt, After-word-first}

-- the points by the words that were read, which end within the table
points_are : (c : After-word-first) →
    let w = word_at c.args.image.now.stored.bytes.now in
    let n = c.word-count.result in
    let first = c.word-first.result in
    (tab (point_at w) n first ≡ (term_at w c.args.t).points) × (1 ≤ n) × (first + n ≤ c.args.image.now.stored.header.points.rows)
unfolding term_at
points_are c =
    let image = c.args.image.now in
    let w = word_at image.stored.bytes.now in
    let t = c.args.t in
    let h = image.stored.heads in
    let e : c.row-row.result ≡ w 11 + t * 6 = omega (arith, h.terms.start, c.row-row.ensures) in
    let n : c.word-count.result ≡ term_count w t = c.word-count.ensures.0 ∙ ap (λ (o : ℕ). w (o + 5)) e in
    let f : c.word-first.result ≡ w (w 11 + t * 6 + 4) = c.word-first.ensures.0 ∙ ap (λ (o : ℕ). w (o + 4)) e in (
      (λ j. tab (point_at w) (n j) (f j)),
      omega (arith, n, (points_few w t c.requires.ok).0),
      omega (arith, n, f, points_within w image.sound.frame t (omega (arith, image.counted, c.requires.input_term)), h.points.rows),
    )

points_fine : (c : After-word-first) → all point_ok (tab (point_at (word_at c.args.image.now.stored.bytes.now)) c.word-count.result c.word-first.result) ≡ true
points_fine c = ap (all point_ok) (points_are c).0 ∙ points_ok (word_at c.args.image.now.stored.bytes.now) c.args.t c.requires.ok

-- what the test compares
compared : (c : After-lt) → c.lt.result ≡ lt_z c.args.x.0 (point_at (word_at c.args.image.now.stored.bytes.now) c.word-first.result).at
compared c = let e = c.lt.ensures in let q = c.place_at.ensures in search rules

pub place_at-requires : goal.place_at-requires
place_at-requires c = omega (arith, points_are (goal.at.place_at-requires c).After-word-first)

pub degree_at-requires : goal.degree_at-requires
degree_at-requires c = omega (arith, points_are (goal.at.degree_at-requires c).After-word-first)

pub returns-then-lt : goal.returns-then-lt
returns-then-lt c =
    let x = c.args.x.0 in
    let f = point_at (word_at c.args.image.now.stored.bytes.now) in
    let n = c.word-count.result in
    let first = c.word-first.result in
    let p = points_are (goal.at.returns-then-lt c).After-word-first in
    let e = c.degree_at.ensures in
    let z : first + 0 ≡ first = omega arith in
    let ok = subst (λ (k : ℕ). point_ok (f k) ≡ true) z (all_at point_ok f n first 0 p.1 (points_fine (goal.at.returns-then-lt c).After-word-first)) in (
      e ∙ sym (below_first f x n first p.1 (sym (compared (goal.at.returns-then-lt c).After-lt) ∙ c.if-lt.true)) ∙ ap (λ (ps : List Point). term_degree ps x) p.0,
      rw e (low (f first) ok),
    )

pub degree_from-requires : goal.degree_from-requires
degree_from-requires c =
    let f = point_at (word_at c.args.image.now.stored.bytes.now) in
    let n = c.word-count.result in
    let first = c.word-first.result in
    let p = points_are (goal.at.degree_from-requires c).After-word-first in
    let e : n ≡ first + n - first = omega arith in
    record {
      within = (omega (arith, p), p.2, c.requires.input_term.1);
      first_bound = (
        not_below c.args.x.0 (f first).at (sym (compared (goal.at.degree_from-requires c).After-lt) ∙ c.if-lt.false),
        subst (λ (k : ℕ). all point_ok (tab f k first) ≡ true) e (points_fine (goal.at.degree_from-requires c).After-word-first),
      );
    }

pub returns : goal.returns
returns c =
    let x = c.args.x.0 in
    let f = point_at (word_at c.args.image.now.stored.bytes.now) in
    let p = points_are (goal.at.returns c).After-word-first in (
      c.degree_from.ensures.0
          ∙ sym (after_first f x c.word-count.result c.word-first.result p.1 (sym (compared (goal.at.returns c).After-lt) ∙ c.if-lt.false))
          ∙ ap (λ (ps : List Point). term_degree ps x) p.0,
      c.degree_from.ensures.1,
    )
