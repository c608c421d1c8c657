use mathlib.Core.Path.{refl, sym, ap, ◌∙◌}
use Prim.Native.Nat.{ℕ}
use lib.Dec.{leb}
use lib.ListN.{length}
use borrow.Author.Tests.{lt-leb}
use Rattle.model.specs.Basic.{all}
use Rattle.model.specs.Keywords.{keywords}
use Rattle.laws.proofs.Words.{length_capitals}
use Rattle.keywords.specs.Slots.{keyword_limit}
use Rattle.keywords.proofs.Laws.{unlike, no_length, may_not}
use Rattle.keywords.proofs.keyword_at.Goals as goal
use Rattle.keywords.proofs.keyword_at.Goals.{then-n-gt-LONGEST-via-then-n-gt-LONGEST, then-n-gt-LONGEST-via-else-n-gt-LONGEST+then-n-eq0, then-n-gt-LONGEST-via-else-n-gt-LONGEST+else-n-eq0+then-not-may_be}

pub returns-then-n-gt-LONGEST : goal.returns-then-n-gt-LONGEST
unfolding all
returns-then-n-gt-LONGEST c =
    let w = c.args.w.now in
    elim c.then-n-gt-LONGEST.branch [
      | then-n-gt-LONGEST-via-then-n-gt-LONGEST x ↦
          sym (unlike (λ k. leb (length k) keyword_limit) (λ v. ap (λ (n : ℕ). leb n keyword_limit) (length_capitals v)) w (lt-leb _ _ x.if-n-gt-LONGEST.true)
          keywords refl)
      | then-n-gt-LONGEST-via-else-n-gt-LONGEST+then-n-eq0 x ↦ sym (no_length w x.if-n-eq0.true)
      | then-n-gt-LONGEST-via-else-n-gt-LONGEST+else-n-eq0+then-not-may_be x ↦ sym (may_not w (sym x.may_be.ensures ∙ x.if-not-may_be.true))
    ]
