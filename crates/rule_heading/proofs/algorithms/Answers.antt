use borrow.Author.Rules.{rules}
use Rattle.rule_heading.proofs.Laws as laws
use Rattle.rule_heading.proofs.algorithms.Goals.{in-130, in-157}
use Rattle.rule_heading.proofs.algorithms.Goals as goal

pub returns-in_default : goal.returns-in_default
returns-in_default c = laws.stays _ c.requires.0 c.requires.1 (λ b n. laws.absent c.args.s.now c.args.p b n (search rules) (search rules))

pub returns-then-p-other : goal.returns-then-p-other
returns-then-p-other c =
    let s = c.args.s.now in
    let p = c.args.p in
    elim c.match-p.branch [
      | in-130 w ↦ let x = rw w.first-is at c.algorithm_line-p.ensures in
          let y = rw w.first-is at c.algorithm_line.ensures in
          let z = rw w.first-is at c.if-p-other.true in
          laws.opens_as (λ b n. laws.and_or s p b n _ w.in-130.is x z) (laws.opens_then x y)
      | in-157 w ↦ let x = rw w.first-is at c.algorithm_line-p.ensures in
          let y = rw w.first-is at c.algorithm_line.ensures in
          let z = rw w.first-is at c.if-p-other.true in
          laws.opens_as (λ b n. laws.or_and s p b n _ w.in-157.is x z) (laws.opens_then x y)
    ]

pub returns-else-p-other : goal.returns-else-p-other
returns-else-p-other c =
    let s = c.args.s.now in
    let p = c.args.p in
    elim c.match-p.branch [
      | in-130 w ↦ let x = rw w.first-is at c.algorithm_line-p.ensures in
          let z = rw w.first-is at c.if-p-other.false in
          laws.opens_as (λ b n. laws.and_alone s p b n _ w.in-130.is x z) x
      | in-157 w ↦ let x = rw w.first-is at c.algorithm_line-p.ensures in
          let z = rw w.first-is at c.if-p-other.false in
          laws.opens_as (λ b n. laws.or_alone s p b n _ w.in-157.is x z) x
    ]
