use borrow.Author.Rules.{rules}
use Rattle.cursor.specs.View.{refused_at, Step, Moves}
use Rattle.cursor.proofs.Laws as laws
use Rattle.cursor.proofs.refuse.Goals as goal
use Rattle.std.specs.Prelude.{Option, None, Some, is_none}
use Rattle.cursor.specs.declared.Cursor.{Cursor}
use Rattle.cursor.specs.declared.refusal.Refused.{Refused}
use Rattle.model.specs.Keywords.{END}
use Rattle.model.specs.Parse.{refuse}
use mathlib.Core.Path.{◌≡◌, refl, sym, subst}
use mathlib.Core.Bool.{false}
use native.Mathlib.Omega.{arith}

not_none : (o : Option Refused) → (o ≡ None → ⊥) → is_none o ≡ false
not_none None h = absurd (h refl)
not_none (Some r) h = refl

-- what is so of the cursor that is halted by a number
held : (P : Cursor → Type 0) (c : Cursor) (r : Refused) → P (laws.halted c r.why)
    → P (record { kind = END; start = 0; end = 0; place = c.start; refused = Some r })
held P c r p =
    subst (λ (o : Option Refused). P (record { kind = END; start = 0; end = 0; place = c.start; refused = o })) (sym (laws.refused_is r)) p

pub returns-then-is_some : goal.returns-then-is_some
unfolding refused_at
returns-then-is_some c =
    let a = c.args in
    let h = laws.was_refused c.is_some.ensures c.if-is_some.true in
    record {
      by_index = (λ s g. laws.kept s a.c _ h g);
      moves = (λ s g k. absurd (h (g.halted k)));
      halted = h;
      exact = simp (not_none a.c.refused h);
    }

pub returns : goal.returns
unfolding refused_at
returns c =
    let a = c.args in
    let h = laws.stands c.is_some.ensures c.if-is_some.false in
    record {
      by_index = (λ s g. held (Step (refuse a.why) s a.c) a.c _ (laws.stopped s a.c a.why h (λ z. omega (arith, c.requires, z)) g));
      moves = (λ s g. held (Moves s a.c) a.c _ (laws.stopped_moves s a.c a.why));
      halted = search rules;
      exact = held (λ r. r ≡ refused_at a.c a.why) a.c _ (simp h);
    }
