-- The tree of postfix words.
use mathlib.Core.Path.{◌≡◌, refl, sym, ap, ◌∙◌}
use mathlib.Core.List.{List, [], ◌∷◌, ◌++◌, append_assoc, append-nil}
use Prim.Native.Nat.{ℕ, ◌+◌, ◌-◌}
use native.Mathlib.Omega.{arith}
use borrow.Author.Tests.{le-leb}
use Rattle.model.specs.Basic.{tab}
use Rattle.model.specs.Block.{Op, and, or, Condition, term, neg, two, size}
use Rattle.model.specs.Image.{NOT_WORD, TERM_WORD, postfix, op_word, join_top, grown, trees, tree_of}
use Rattle.laws.proofs.Places.{At, tab_at}
use Rattle.laws.proofs.Conditions.{length_postfix}

grown_term : (t : ℕ) (st : List Condition) → grown (TERM_WORD + t) st ≡ term t ∷ st
unfolding grown
grown_term t st = let q : TERM_WORD + t - TERM_WORD ≡ t = omega arith in simp (le-leb TERM_WORD (TERM_WORD + t) (omega arith), q)

grown_two : (o : Op) (st : List Condition) → grown (op_word o) st ≡ join_top o st
unfolding grown
grown_two and st = refl
grown_two or st = refl

trees_postfix : (c : Condition) (rest : List ℕ) (st : List Condition) → trees (postfix c ++ rest) st ≡ trees rest (c ∷ st)
unfolding trees postfix grown
trees_postfix (term t) rest st = ap (trees rest) (grown_term t st)
trees_postfix (neg c) rest st = rw append_assoc (trees_postfix c (NOT_WORD ∷ rest) st)
trees_postfix (two o a b) rest st =
    simp append_assoc (trees_postfix a (postfix b ++ (op_word o ∷ rest)) st ∙ trees_postfix b (op_word o ∷ rest) (a ∷ st)
    ∙ ap (trees rest) (grown_two o (b ∷ a ∷ st)))

pub tree_postfix : (c : Condition) → tree_of (postfix c) ≡ c
unfolding tree_of trees
tree_postfix c = let q = rw (append-nil (postfix c)) at (trees_postfix c [] []) in rw q refl

-- words that are the postfix of a condition stand for it
pub tree_at : (w : ℕ → ℕ) (d : ℕ) (c : Condition) → At w d (postfix c) → tree_of (tab w (size c) d) ≡ c
tree_at w d c h = ap tree_of (ap (λ (n : ℕ). tab w n d) (sym (length_postfix c)) ∙ tab_at w d (postfix c) h) ∙ tree_postfix c
