use mathlib.Core.Path.{refl, sym, ◌∙◌}
use mathlib.Core.Bool.{true, false}
use borrow.Author.Tests.{lt-ltb, le-ltb}
use Rattle.lookup.proofs.Names.{taken, free}
use Rattle.std.proofs.lemmas.Result.{err_from_is_err_and}
use borrow.Author.Rules.{rules}
use Rattle.cursor.proofs.Laws.{never_zero}
use Rattle.defuzzify_text.proofs.Laws as laws
use Rattle.defuzzify_text.proofs.term_fault.Goals as goal

pub returns-in_err-name_fault : goal.returns-in_err-name_fault
returns-in_err-name_fault c =
    let p = err_from_is_err_and c.from_residual.result c.from_residual.ensures.1 in
    rw (p.1, p.2) record {
      value = λ b n h. laws.term_none _ _ _ _ _ b n h _ (c.in_err-name_fault.ensures.by_index _ c.requires.0 b n) (never_zero _);
      kind = search rules;
    }

pub returns-then-is_some-clause-value : goal.returns-then-is_some-clause-value
returns-then-is_some-clause-value c = λ b n h.
    sym (laws.term_judged c.args.s.now _ c.args.c _ _ b n h _ true (c.in_ok-name_fault.ensures.by_index _ c.requires.0 b n)
    (laws.found_at _ _ _ _ _ _ b h refl) (lt-ltb _ _ (taken _ _ _ _ _ _ c.find.ensures (sym c.is_some.ensures ∙ c.if-is_some.true))))

pub returns-clause-value : goal.returns-clause-value
returns-clause-value c = λ b n h.
    sym (laws.term_judged c.args.s.now _ c.args.c _ _ b n h _ false (c.in_ok-name_fault.ensures.by_index _ c.requires.0 b n)
    (laws.found_at _ _ _ _ _ _ b h refl) (le-ltb _ _ (free _ _ _ _ _ _ c.find.ensures (sym c.is_some.ensures ∙ c.if-is_some.false))))
