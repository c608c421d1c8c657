use mathlib.Core.Path.{refl, sym, ap, ◌∙◌}
use Rattle.lookup.proofs.Names.{taken, free}
use Rattle.fuzzify_text.specs.Terms.{term_from}
use Rattle.cursor.proofs.Laws.{never_zero}
use Rattle.fuzzify_text.proofs.Laws as laws
use Rattle.fuzzify_text.proofs.term_name.Goals as goal

pub returns-then-n-ge-TERMS-clause-reached : goal.returns-then-n-ge-TERMS-clause-reached
returns-then-n-ge-TERMS-clause-reached c =
    let a = c.args in
    let g = c.requires in
    λ b t. record {
      named = λ z. absurd (c.refuse_for.ensures.halted z);
      lost = λ z. laws.term_full a.s.now a.names.now a.i a.n b t a.c c.refuse_for.result g.1 c.if-n-ge-TERMS.true (c.refuse_for.ensures.by_index _ g.0);
    }

pub returns-in-Err-clause-reached : goal.returns-in-Err-clause-reached
returns-in-Err-clause-reached c =
    let a = c.args in
    let g = c.requires in
    let d = c.advance-d in
    let f = d.ensures.step.fits in
    let e = c.refuse_for-in-Err in
    λ b t. record {
      named = λ z. absurd (e.ensures.halted z);
      lost = λ z. laws.term_lost a.s.now a.i b a.c d.result e.result
          (laws.term_then a.s.now a.names.now a.i a.n b t a.c d.result g.1 c.if-n-ge-TERMS.false d.ensures.step)
          (laws.name_bad a.s.now a.names.now a.i a.n b t d.result e.result _
          (c.in-Err.ensures.by_index _ f b 0) (never_zero c.in-Err.fault) (e.ensures.by_index _ f))
          (e.ensures.by_index _ f).fits e.ensures.halted;
    }

pub returns-then-is_some-clause-reached : goal.returns-then-is_some-clause-reached
returns-then-is_some-clause-reached c =
    let a = c.args in
    let g = c.requires in
    let d = c.advance-d in
    let f = d.ensures.step.fits in
    let e = c.refuse_for-then-is_some in
    λ b t. record {
      named = λ z. absurd (e.ensures.halted z);
      lost = λ z. laws.term_lost a.s.now a.i b a.c d.result e.result
          (laws.term_then a.s.now a.names.now a.i a.n b t a.c d.result g.1 c.if-n-ge-TERMS.false d.ensures.step)
          (laws.name_taken a.s.now a.names.now a.i a.n b t d.result e.result
          (c.in_default.ensures.by_index _ f b 0) _ refl (taken _ _ _ _ _ _ c.find.ensures (sym c.is_some.ensures ∙ c.if-is_some.true))
          (e.ensures.by_index _ f))
          (e.ensures.by_index _ f).fits e.ensures.halted;
    }

pub returns-clause-reached : goal.returns-clause-reached
returns-clause-reached c =
    let a = c.args in
    let g = c.requires in
    let d = c.advance-d in
    let f = d.ensures.step.fits in
    let e = c.advance in
    λ b t. record {
      named = λ z. laws.term_then a.s.now a.names.now a.i a.n b t a.c d.result g.1 c.if-n-ge-TERMS.false d.ensures.step
          ∙ ap (term_from a.i) (sym (laws.name_good a.s.now a.names.now a.i a.n b t d.result e.result
          (c.in_default.ensures.by_index _ f b 0) _ refl (free _ _ _ _ _ _ c.find.ensures (sym c.is_some.ensures ∙ c.if-is_some.false))
          d.ensures.moves.1 e.ensures.step));
      lost = λ z. absurd (z e.ensures.moves.1);
    }
