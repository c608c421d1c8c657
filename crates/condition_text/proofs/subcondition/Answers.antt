use mathlib.Core.Path.{sym}
use native.Mathlib.Omega.{arith}
use borrow.Author.Rules.{rules}
use Rattle.cursor.proofs.Laws.{never_zero}
use Rattle.condition_text.proofs.Laws as laws
use Rattle.condition_text.proofs.subcondition.Goals as goal

pub returns-in-Err : goal.returns-in-Err
returns-in-Err c =
    let p = c.args.p in
    let g = c.requires in
    let s = c.args.d.now.text.now in
    let a = c.refused.ensures.by_index s g.fits in
    let z = c.refused.ensures.stops in
    record {
      reads_condition = (λ b d. laws.refuses _ z a
          (laws.input_fault s _ _ b d p.cursor p.words _ (c.in-Err.ensures.by_index s g.fits b p.words)
          (never_zero c.in-Err.fault) _ a z.why));
      within = laws.stopped 0 _ g a z;
    }

pub returns-in_default-input_of-clause-reads_condition : goal.returns-in_default-input_of-clause-reads_condition
returns-in_default-input_of-clause-reads_condition c =
    let p = c.args.p in
    let g = c.requires in
    let s = c.args.d.now.text.now in
    let a = c.refused-in_default-input_of.ensures.by_index s g.fits in
    let z = c.refused-in_default-input_of.ensures.stops in
    λ b d. laws.refuses _ z a
    (laws.input_unknown s _ _ b d p.cursor p.words (c.in_default.ensures.by_index s g.fits b p.words) _
    c.in_default-input_of.ensures _ (omega arith) a z.why)

pub count-q-requires : goal.count-q-requires
count-q-requires c =
    (c.requires, λ z. let k = c.in_default.ensures.kind in omega arith)

pub term_here-requires : goal.term_here-requires
term_here-requires c =
    let n = c.count-q.ensures.counts in
    let g = c.requires in
    let a = c.expect-q.ensures.step in
    (record { fits = a.fits; put = n.room.put; words = n.room.words }, search rules, λ h. omega (arith, n.words (a.sticky h), n.put, g.put))

pub returns : goal.returns
returns c =
    let p = c.args.p in
    let g = c.requires in
    let s = c.args.d.now.text.now in
    let n = c.count-q.ensures.counts in
    let a = c.expect-q.ensures.step in
    let z = g.fits.halted (λ z. let k = c.in_default.ensures.kind in omega arith) in
    record {
      reads_condition = (λ b d. simp (
        sym (laws.input_known s _ _ b d p.cursor p.words (c.in_default.ensures.by_index s g.fits b p.words) _
            c.in-Some.ensures.0 c.in-Some.ensures.1),
        sym (c.count-q.ensures.words_value b),
        sym (a.reads b c.count-q.result.words),
      ) (laws.from n.put (c.term_here.ensures.reads_condition b d)));
      within = laws.counted_then 0 z n (laws.within_then (laws.stepped c.count-q.result _ n.room a) c.term_here.ensures.within);
    }
