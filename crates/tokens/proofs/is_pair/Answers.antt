use borrow.Author.Tests.{eq-eqb, ne_eqb, le-ltb, eqb-true, ltb-true}
use Prim.Native.Nat.{◌+◌}
use lib.Dec.{eqb}
use Rattle.characters.proofs.Laws.{starts_here, starts_end}
use Rattle.tokens.proofs.is_pair.Goals as goal

pub returns-then-i-s : goal.returns-then-i-s
returns-then-i-s c =
    record {
      value = simp (eq-eqb _ _ c.if-s-i.true, starts_here (eqb c.args.b) c.args.s.now (c.args.i + 1) c.if-i-s.true);
      within = λ q. c.if-i-s.true;
    }

pub returns-else-i-s : goal.returns-else-i-s
returns-else-i-s c =
    record {
      value = simp (
        le-ltb _ _ c.if-i-s.false,
        eq-eqb _ _ c.if-s-i.true,
        starts_end (eqb c.args.b) c.args.s.now (c.args.i + 1) c.if-i-s.false,
      );
      within = λ q. ltb-true _ _ q;
    }

pub returns-else-s-i : goal.returns-else-s-i
returns-else-s-i c =
    record {
      value = simp (ne_eqb _ _ c.if-s-i.false);
      within = λ q. absurd (c.if-s-i.false (eqb-true _ _ q));
    }
