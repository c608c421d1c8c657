use mathlib.Core.Path.{refl}
use native.Mathlib.Omega.{arith}
use Rattle.cursor.proofs.Laws.{never_zero}
use Rattle.condition_text.proofs.Laws as laws
use Rattle.condition_text.proofs.term_named.Goals as goal

pub returns-in-Err : goal.returns-in-Err
returns-in-Err c =
    let p = c.args.p in
    let g = c.requires in
    let s = c.args.d.now.text.now in
    let a = c.refused.ensures.by_index s g.0.fits in
    record {
      reads_condition = (λ b d. laws.refuses _ c.refused.ensures.stops a
          (laws.term_fault s _ _ b d p.cursor p.words _ (c.in-Err.ensures.by_index s g.0.fits b p.words)
          (never_zero c.in-Err.fault) _));
      within = laws.stopped 1 _ g.0 a c.refused.ensures.stops;
    }

pub returns-in_default-term_of-clause-reads_condition : goal.returns-in_default-term_of-clause-reads_condition
returns-in_default-term_of-clause-reads_condition c =
    let p = c.args.p in
    let g = c.requires in
    let s = c.args.d.now.text.now in
    let a = c.refused-in_default-term_of.ensures.by_index s g.0.fits in
    λ b d. laws.refuses _ c.refused-in_default-term_of.ensures.stops a
    (laws.term_unknown s _ _ b d p.cursor p.words (c.in_default.ensures.by_index s g.0.fits b p.words) _ g.1
    _ c.in_default-term_of.ensures (omega arith))

pub advance-requires : goal.advance-requires
advance-requires c =
    (c.requires.0.fits, λ z. let k = c.in_default.ensures.kind in omega arith)

pub overflow_add-d : goal.overflow_add-d
overflow_add-d c =
    let g = c.args.d.now.sound in
    omega (arith, g.small c.args.i (omega (arith, g.inputs)), g.rises c.args.i (omega (arith, g.inputs)), c.in-Some.ensures.1)

pub overflow_add-d-2 : goal.overflow_add-d-2
overflow_add-d-2 c =
    let g = c.args.d.now.sound in
    omega (arith, g.small c.args.i (omega (arith, g.inputs)), g.rises c.args.i (omega (arith, g.inputs)), c.in-Some.ensures.1)

pub overflow_cast-d : goal.overflow_cast-d
overflow_cast-d c =
    let g = c.args.d.now.sound in
    omega (arith, g.small c.args.i (omega (arith, g.inputs)), g.rises c.args.i (omega (arith, g.inputs)), c.in-Some.ensures.1)

pub put-requires : goal.put-requires
put-requires c =
    let g = c.requires in
    (g.0.put, g.0.words, λ h. g.2 (c.advance.ensures.step.sticky h))

pub returns : goal.returns
returns c =
    let p = c.args.p in
    let g = c.requires in
    let s = c.args.d.now.text.now in
    let a = c.advance.ensures.step in
    let w = laws.stepped p _ g.0 a in
    record {
      reads_condition = (λ b d.
          let e = c.in_default.ensures.by_index s g.0.fits b p.words in
          laws.names_term a c.put.ensures
          (laws.term_known s _ _ b d p.cursor p.words e _ g.1 _ c.in-Some.ensures.0 c.in-Some.ensures.1)
          (laws.term_words s _ _ b d p.cursor p.words e _ g.1 _ c.in-Some.ensures.0 _ refl));
      within = laws.within_then w (laws.put_within w.room c.put.ensures);
    }
