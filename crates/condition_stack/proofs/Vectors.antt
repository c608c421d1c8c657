-- Words that are a condition, and words that are none.
use mathlib.Core.Path.{◌≡◌, refl}
use mathlib.Core.List.{[], ◌∷◌}
use mathlib.Core.Bool.{true, false}
use Prim.Native.Nat.{ℕ, zero, suc}
use Rattle.model.specs.Block.{Condition, term, neg, two, and, or}
use Rattle.model.specs.Parentheses.{form, depth}
use Rattle.model.specs.WellFormed.{terms_below}
use Rattle.model.specs.Image.{postfix, grown, trees, tree_of}
use Rattle.condition_stack.specs.Stored.{is_condition}

-- a OR b AND (a OR b AND ( .. )), n parentheses deep: this fills the stack
abbrev nested : ℕ → Condition
nested zero = two or (term 0) (two and (term 1) (term 2))
nested (suc n) = two or (term 0) (two and (term 1) (nested n))

-- NOT (NOT ( .. NOT a IS NOT t)), n times NOT
abbrev nots : ℕ → Condition
nots zero = term 0
nots (suc n) = neg (nots n)

eight_deep : is_condition 3 (postfix (nested 8)) ≡ true
unfolding postfix grown trees tree_of form depth terms_below
eight_deep = refl

nine_deep : is_condition 3 (postfix (nested 9)) ≡ false
unfolding postfix grown trees tree_of form depth terms_below
nine_deep = refl

ten_nots : is_condition 3 (postfix (nots 10)) ≡ true
unfolding postfix grown trees tree_of form depth terms_below
ten_nots = refl

eleven_nots : is_condition 3 (postfix (nots 11)) ≡ false
unfolding postfix grown trees tree_of form depth terms_below
eleven_nots = refl

term_past : is_condition 3 (19 ∷ []) ≡ false
unfolding postfix grown trees tree_of form depth terms_below
term_past = refl

no_word : is_condition 3 (16 ∷ 3 ∷ []) ≡ false
unfolding postfix grown trees tree_of form depth terms_below
no_word = refl

operand_too_many : is_condition 3 (16 ∷ 16 ∷ []) ≡ false
unfolding postfix grown trees tree_of form depth terms_below
operand_too_many = refl

operator_too_many : is_condition 3 (16 ∷ 1 ∷ []) ≡ false
unfolding postfix grown trees tree_of form depth terms_below
operator_too_many = refl

nothing : is_condition 3 [] ≡ false
unfolding postfix grown trees tree_of form depth terms_below
nothing = refl
