use mathlib.Core.Path.{sym, ◌∙◌}
use Rattle.cursor.proofs.Laws.{never_zero}
use Rattle.std.proofs.lemmas.Result.{err_from_is_err_and}
use borrow.Author.Rules.{rules}
use mathlib.Core.Bool.{true, false}
use Rattle.lookup.proofs.Names.{taken, free}
use Rattle.declaration_text.proofs.Laws as laws
use Rattle.declaration_text.proofs.new_fault.Goals as goal
use Rattle.declaration_text.proofs.new_fault.Goals.{then-is_some-via-then-is_some, then-is_some-via-else-is_some+then-is_some-2}

pub returns-in_err-name_fault : goal.returns-in_err-name_fault
returns-in_err-name_fault c =
    let p = err_from_is_err_and c.from_residual.result c.from_residual.ensures.1 in
    rw (p.1, p.2) record {
      value = (λ b n d. laws.no_name _ _ _ _ _ b n d _ _ (c.in_err-name_fault.ensures.by_index _ c.requires.0 b n) (never_zero _));
      passed = search rules;
    }

pub returns-then-is_some-clause-value : goal.returns-then-is_some-clause-value
returns-then-is_some-clause-value c = λ b n d.
    let e = c.in_ok-name_fault.ensures.by_index _ c.requires.0 b n in
    elim c.then-is_some.branch [
      | then-is_some-via-then-is_some w ↦
          laws.an_input _ _ _ _ _ b n d _ e _ (sym (d.input _)) (taken _ _ _ _ _ _ c.find.ensures (sym c.is_some.ensures ∙ w.if-is_some.true))
      | then-is_some-via-else-is_some+then-is_some-2 w ↦
          laws.an_output _ _ _ _ _ b n d _ e _ (sym (d.input _)) (free _ _ _ _ _ _ c.find.ensures (sym c.is_some.ensures ∙ w.if-is_some.false))
          _ (sym (d.output _)) (taken _ _ _ _ _ _ w.find-else-is_some.ensures (sym w.is_some-else-is_some.ensures ∙ w.if-is_some-2.true))
    ]

pub returns-then-not-room-clause-value : goal.returns-then-not-room-clause-value
returns-then-not-room-clause-value c = λ b n d.
    rw c.if-not-room.true (sym (laws.a_new _ _ _ _ _ b n d false (c.in_ok-name_fault.ensures.by_index _ c.requires.0 b n) _
    (sym (d.input _)) (free _ _ _ _ _ _ c.find.ensures (sym c.is_some.ensures ∙ c.if-is_some.false)) _ (sym (d.output _))
    (free _ _ _ _ _ _ c.find-else-is_some.ensures (sym c.is_some-else-is_some.ensures ∙ c.if-is_some-2.false))))

pub returns-clause-value : goal.returns-clause-value
returns-clause-value c = λ b n d.
    rw c.if-not-room.false (sym (laws.a_new _ _ _ _ _ b n d true (c.in_ok-name_fault.ensures.by_index _ c.requires.0 b n) _
    (sym (d.input _)) (free _ _ _ _ _ _ c.find.ensures (sym c.is_some.ensures ∙ c.if-is_some.false)) _ (sym (d.output _))
    (free _ _ _ _ _ _ c.find-else-is_some.ensures (sym c.is_some-else-is_some.ensures ∙ c.if-is_some-2.false))))
