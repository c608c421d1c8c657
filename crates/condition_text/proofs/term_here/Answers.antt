use mathlib.Core.Path.{sym}
use native.Mathlib.Omega.{arith}
use borrow.Author.Tests.{eq-eqb, ne_eqb}
use Rattle.model.specs.Rules.{term_or_not}
use Rattle.cursor.proofs.Laws.{kind_seen}
use Rattle.condition_text.proofs.Laws as laws
use Rattle.condition_text.proofs.term_here.Goals as goal

pub returns-then-p-ne-NOT : goal.returns-then-p-ne-NOT
unfolding term_or_not
returns-then-p-ne-NOT c =
    record {
      reads_condition = (λ b d. simp (kind_seen, ne_eqb _ _ c.if-p-ne-NOT.true) (c.term_named.ensures.reads_condition b d));
      within = c.term_named.ensures.within;
    }

pub term_named-r-requires : goal.term_named-r-requires
term_named-r-requires c =
    let n = c.count-q.ensures.counts in
    let g = c.requires in
    (n.room, g.1, λ h. omega (arith, n.words h, n.put, g.0.put))

pub put-requires : goal.put-requires
put-requires c =
    let n = c.count-q.ensures.counts in
    let g = c.requires in
    let w = c.term_named-r.ensures.within in
    let z = g.0.fits.halted (λ k. omega (arith, c.if-p-ne-NOT.false)) in
    (w.room.put, w.room.words, λ h. omega (arith, n.words (w.sticky h), n.put, w.even h, g.2 z))

pub returns : goal.returns
unfolding term_or_not
returns c =
    let n = c.count-q.ensures.counts in
    let g = c.requires in
    let w = c.term_named-r.ensures.within in
    let z = g.0.fits.halted (λ k. omega (arith, c.if-p-ne-NOT.false)) in
    record {
      reads_condition = (λ b d. simp (kind_seen, eq-eqb _ _ c.if-p-ne-NOT.false, sym (c.count-q.ensures.words_value b))
          (laws.from n.put (laws.negates (c.term_named-r.ensures.reads_condition b d) c.put.ensures)));
      within = laws.turned z n w c.put.ensures;
    }
