-- Positions that are taken up one by one, and the last two of them.
use mathlib.Core.Path.{refl, sym, ap, ◌∙◌}
use mathlib.Core.List.{List, [], ◌∷◌, ◌++◌}
use Prim.Native.Nat.{ℕ, ◌+◌}
use native.Mathlib.Omega.{arith}
use borrow.Author.Tests.{ne_eqb}
use lib.IntN.{ℤ}
use lib.ListN.{length-append}
use Rattle.model.specs.Block.{may_follow}
use Rattle.laws.proofs.Positions.{follow_two}
use Rattle.term_rules.specs.declared.LastTwo.{LastTwo}
use Rattle.term_rules.specs.Positions.{may_stand, last_with, Ends}

pub ends_none : (last : LastTwo) → Ends [] 0 last
unfolding may_stand may_follow
ends_none last = record { count = refl; may = λ x. refl; more = λ y x. refl }

pub ends_more : (ps : List ℤ) (n : ℕ) (last : LastTwo) (y : ℤ) → Ends ps n last → Ends (ps ++ (y ∷ [])) (n + 1) (last_with last y)
unfolding may_stand may_follow
ends_more ps n last y e = record {
  count = length-append ps (y ∷ []) ∙ ap (λ (k : ℕ). k + 1) e.count;
  may = e.more y;
  more = λ z x.
      follow_two ps y z x
      ∙ sym (simp (ne_eqb (n + 1 + 1) 0 (λ q. omega arith), ne_eqb (n + 1 + 1) 1 (λ q. omega arith)));
}
