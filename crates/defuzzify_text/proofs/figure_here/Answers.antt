use Rattle.std.specs.Prelude.{Err}
use mathlib.Core.Path.{◌≡◌, sym, ◌∙◌}
use mathlib.Core.Bool.{true, false}
use borrow.Author.Rules.{rules}
use Rattle.cursor.proofs.Laws.{never_zero}
use Rattle.defuzzify_text.proofs.Laws as laws
use Rattle.defuzzify_text.proofs.figure_here.Goals as goal

pub returns-in_err-x-clause-checked : goal.returns-in_err-x-clause-checked
returns-in_err-x-clause-checked c = λ b n.
    let why = c.in_err-x.ensures in
    let e : c.from_residual.result ≡ Err c.in_err-x.field-0.0 = search rules in
    rw e (sym (laws.crisp_bad _ _ _ (why.checked b n) (never_zero _)))

pub returns-then-inside-clause-checked : goal.returns-then-inside-clause-checked
returns-then-inside-clause-checked c = λ b n.
    let x = c.in_ok-x.ensures in
    sym (laws.figure_judged c.args.s.now c.args.c b n c.args.v _ true (x.checked b n) x.value.1 (sym c.inside.ensures ∙ c.if-inside.true))

pub returns-else-inside-clause-checked : goal.returns-else-inside-clause-checked
returns-else-inside-clause-checked c = λ b n.
    let x = c.in_ok-x.ensures in
    sym (laws.figure_judged c.args.s.now c.args.c b n c.args.v _ false (x.checked b n) x.value.1 (sym c.inside.ensures ∙ c.if-inside.false))
