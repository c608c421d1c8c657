use Rattle.std.proofs.Common.{refl, sym, ap, ◌∙◌, arith, ℕ, ◌+◌}
use Rattle.stored_tables.proofs.Loops.{turn, refused, ended}
use Rattle.stored_tables.proofs.end_of.Goals as goal

pub loop-i-init : goal.loop-i-init
loop-i-init g c = record { small = omega (arith, c.requires.small); same = λ t k f h. refl }

pub returns-then-not-is_laid-clause-value : goal.returns-then-not-is_laid-clause-value
returns-then-not-is_laid-clause-value g c =
    let l = c.loop-i-test.true in
    λ t k f h. refused t k _ _ _ l (sym c.if-not-is_laid.true ∙ f _ _ _ l c.is_laid.ensures) ∙ c.loop-i.invariant.same t k f h

pub overflow_add-next : goal.overflow_add-next
overflow_add-next g c =
    let l = c.loop-i-test.true in
    omega (arith, c.loop-i.invariant.small, c.requires.small, l, c.requires.counts_small _ _ l c.count-next.ensures)

pub loop-i-preserved : goal.loop-i-preserved
loop-i-preserved g c =
    let l = c.loop-i-test.true in
    let n = c.loop-i.next in
    record {
      small = omega (arith, c.loop-i.invariant.small, c.requires.counts_small _ _ l c.count-next.ensures);
      same = λ t k f h.
          turn t k _ _ _ l (sym c.if-not-is_laid.false ∙ f _ _ _ l c.is_laid.ensures) _ (ap (λ (m : ℕ). n + m) (h _ _ l c.count-next.ensures))
          ∙ c.loop-i.invariant.same t k f h;
    }

pub returns-clause-value : goal.returns-clause-value
returns-clause-value g c = λ t k f h. ended t k _ _ _ c.loop-i-test.false ∙ c.loop-i.invariant.same t k f h

pub returns-clause-small : goal.returns-clause-small
returns-clause-small g c = omega (arith, c.loop-i.invariant.small, c.requires.small, c.loop-i.auto.i-end)
