use mathlib.Core.Path.{refl}
use borrow.Author.Rules.{rules}
use borrow.Author.Tests.{eq-eqb, ne_eqb, le-leb, lt-leb}
use Rattle.cursor.specs.View.{fault, name_fault}
use Rattle.cursor.proofs.Laws as laws
use Rattle.cursor.proofs.name_fault.Goals as goal

pub returns-then-c-ne-NAME : goal.returns-then-c-ne-NAME
unfolding fault name_fault
returns-then-c-ne-NAME c =
    record {
      by_index = (λ s g b n. simp (laws.kind_seen, ne_eqb _ _ c.if-c-ne-NAME.true) refl);
      kind = search rules;
      exact = simp (ne_eqb _ _ c.if-c-ne-NAME.true);
    }

pub returns-then-c-gt-NAME : goal.returns-then-c-gt-NAME
unfolding fault name_fault
returns-then-c-gt-NAME c =
    record {
      by_index = (λ s g b n. simp (laws.kind_seen, laws.text_seen, laws.text_length s _ g, eq-eqb _ _ c.if-c-ne-NAME.false, lt-leb _ _ c.if-c-gt-NAME.true)
          refl);
      kind = search rules;
      exact = simp (eq-eqb _ _ c.if-c-ne-NAME.false, lt-leb _ _ c.if-c-gt-NAME.true);
    }

pub returns : goal.returns
unfolding fault name_fault
returns c =
    record {
      by_index = (λ s g b n. simp (laws.kind_seen, laws.text_seen, laws.text_length s _ g, eq-eqb _ _ c.if-c-ne-NAME.false, le-leb _ _ c.if-c-gt-NAME.false)
          refl);
      kind = search rules;
      exact = simp (eq-eqb _ _ c.if-c-ne-NAME.false, le-leb _ _ c.if-c-gt-NAME.false);
    }
