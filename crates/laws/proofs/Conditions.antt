-- Conditions and conclusions: how many words they have.
use mathlib.Core.Path.{◌≡◌, refl, ◌∙◌}
use mathlib.Core.List.{List, [], ◌∷◌, ◌++◌}
use Prim.Native.Nat.{◌*◌}
use native.Mathlib.Omega.{arith}
use lib.ListN.{length, length-append}
use Rattle.model.specs.Basic.{gather}
use Rattle.model.specs.Block.{Conclusion, Condition, term, neg, two, size}
use Rattle.model.specs.Image.{conclusion_words, op_word, postfix}
use Rattle.laws.proofs.Lists.{length_rows}

pub length_postfix : (c : Condition) → length (postfix c) ≡ size c
unfolding postfix size
length_postfix (term t) = refl
length_postfix (neg c) = length-append (postfix c) (0 ∷ []) ∙ omega (arith, length_postfix c)
length_postfix (two o a b) =
    length-append (postfix a) (postfix b ++ (op_word o ∷ [])) ∙ omega (arith, length-append (postfix b) (op_word o ∷ []), length_postfix a, length_postfix b)

pub length_pairs : (ks : List Conclusion) → length (gather conclusion_words ks) ≡ length ks * 2
length_pairs = length_rows conclusion_words 2 (λ k. refl)
