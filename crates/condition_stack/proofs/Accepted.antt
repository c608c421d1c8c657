-- The machine on forms and depths accepts exactly the words of a condition that can be written.
use mathlib.Core.Path.{◌≡◌, refl, ap, ◌∙◌}
use mathlib.Core.List.{List, [], ◌∷◌}
use mathlib.Core.Bool.{Bool, true, false, ◌&&◌}
use mathlib.Core.Option.{Option, none, some}
use Prim.Native.Nat.{ℕ, ◌≤◌, max}
use native.Mathlib.Omega.{arith}
use borrow.Author.Tests.{le-leb, leb-true}
use lib.Dec.{leb}
use Rattle.model.specs.Basic.{same}
use Rattle.model.specs.Bounds.{depth_limit}
use Rattle.model.specs.Block.{Condition, term, neg, two, Op, and, or}
use Rattle.model.specs.Parentheses.{form, rank, negated_form, bare_behind_not, bare_left, bare_right, opened, depth}
use Rattle.model.specs.WellFormed.{terms_below}
use Rattle.model.specs.Image.{postfix, tree_of}
use Rattle.laws.proofs.Tests.{both, and_i, iff}
use Rattle.laws.proofs.Places.{same_eq, same_refl}
use Rattle.condition_stack.specs.Shapes.{negated_shape, joined_shape, shapes}
use Rattle.condition_words.specs.declared.Form.{Form}
use Rattle.condition_words.specs.declared.Form.TheVariants.{Term, NotTerm, Not, And, Or}
use Rattle.condition_words.specs.Forms.{number, negated, operator}
use Rattle.condition_stack.specs.Stored.{is_condition}
use Rattle.condition_words.proofs.Trees.{tree_postfix}
use Rattle.condition_words.proofs.Room.{opened_ge}
use Rattle.condition_words.proofs.Passes.{fold, pass, Allowed, allowed_fine, pass_postfix, pass_one}

negated_is : (k : Form) → number (negated k) ≡ negated_form (number k)
negated_is Term = refl
negated_is NotTerm = refl
negated_is Not = refl
negated_is And = refl
negated_is Or = refl

operator_is : (o : Op) → number (operator o) ≡ rank o
operator_is and = refl
operator_is or = refl

module _ (m : ℕ) where
  fold_form : (c : Condition) → number (fold (shapes m) c).form ≡ form c
  unfolding fold negated_shape joined_shape form
  fold_form (term t) = refl
  fold_form (neg c) = negated_is (fold (shapes m) c).form ∙ ap negated_form (fold_form c)
  fold_form (two o a b) = operator_is o

  fold_depth : (c : Condition) → (fold (shapes m) c).depth ≡ depth c
  unfolding fold negated_shape joined_shape depth
  fold_depth (term t) = refl
  fold_depth (neg c) = λ j. opened bare_behind_not (fold_form c j) (fold_depth c j)
  fold_depth (two o a b) =
      λ j. max (opened (bare_left o) (fold_form a j) (fold_depth a j)) (opened (bare_right o) (fold_form b j) (fold_depth b j))

fine_shape : (m : ℕ) (c : Condition) → depth c ≤ depth_limit → leb (fold (shapes m) c).depth depth_limit ≡ true
fine_shape m c d = rw (fold_depth m c) (le-leb (depth c) depth_limit d)

allowed : (m : ℕ) (c : Condition) → terms_below m c ≡ true → depth c ≤ depth_limit → Allowed (shapes m) c
unfolding Allowed terms_below depth
allowed m (term t) k d = (k, refl)
allowed m (neg c) k d = (allowed m c k (omega (arith, opened_ge bare_behind_not (form c) (depth c))), fine_shape m (neg c) d)
allowed m (two o a b) k d =
    let q = both (terms_below m a) (terms_below m b) k in (
      (
        allowed m a q.0 (omega (arith, opened_ge (bare_left o) (form a) (depth a))),
        allowed m b q.1 (omega (arith, opened_ge (bare_right o) (form b) (depth b))),
      ),
      fine_shape m (two o a b) d,
    )

allowed_terms : (m : ℕ) (c : Condition) → Allowed (shapes m) c → terms_below m c ≡ true
unfolding Allowed terms_below
allowed_terms m (term t) k = k.0
allowed_terms m (neg c) k = allowed_terms m c k.0
allowed_terms m (two o a b) k = and_i _ _ (allowed_terms m a k.0.0) (allowed_terms m b k.0.1)

allowed_depth : (m : ℕ) (c : Condition) → Allowed (shapes m) c → leb (depth c) depth_limit ≡ true
allowed_depth m c k = rw (fold_depth m c) at (allowed_fine (shapes m) c k)

-- what is_condition says
pub condition_in : (m : ℕ) (ws : List ℕ) → is_condition m ws ≡ true
    → (ws ≡ postfix (tree_of ws)) × (terms_below m (tree_of ws) ≡ true) × (depth (tree_of ws) ≤ depth_limit)
condition_in m ws e =
    let p = both (same ws (postfix (tree_of ws))) _ e in
    let q = both (terms_below m (tree_of ws)) _ p.1 in
    (same_eq ws _ p.0, q.0, leb-true _ depth_limit q.1)

pub condition_postfix : (m : ℕ) (c : Condition) → is_condition m (postfix c) ≡ terms_below m c && leb (depth c) depth_limit
condition_postfix m c = rw (tree_postfix c) (simp (same_refl (postfix c)))

-- one subtree is left
abbrev pub is_one : {A : Type 0} → Option (List A) → Bool
is_one none = false
is_one (some []) = false
is_one (some (x ∷ [])) = true
is_one (some (x ∷ y ∷ st)) = false

unfoldable pub accepts : ℕ → List ℕ → Bool
accepts m ws = is_one (pass (shapes m) ws (some []))

one_in : {A : Type 0} (s : Option (List A)) → is_one s ≡ true → (x : A) × (s ≡ some (x ∷ []))
one_in none e = absurd (let z : ◌≡◌ {A = ℕ} 0 1 = cc in omega arith)
one_in (some []) e = absurd (let z : ◌≡◌ {A = ℕ} 0 1 = cc in omega arith)
one_in (some (x ∷ [])) e = (x, refl)
one_in (some (x ∷ y ∷ l)) e = absurd (let z : ◌≡◌ {A = ℕ} 0 1 = cc in omega arith)

accepts_in : (m : ℕ) (ws : List ℕ) → accepts m ws ≡ true → is_condition m ws ≡ true
unfolding accepts
accepts_in m ws e =
    let o = one_in (pass (shapes m) ws (some [])) e in
    let r = pass_one (shapes m) ws o.0 o.1 in
    ap (is_condition m) r.1 ∙ condition_postfix m r.0 ∙ and_i _ _ (allowed_terms m r.0 r.2) (allowed_depth m r.0 r.2)

accepts_out : (m : ℕ) (ws : List ℕ) → is_condition m ws ≡ true → accepts m ws ≡ true
unfolding accepts
accepts_out m ws e =
    let r = condition_in m ws e in
    let c = tree_of ws in
    ap (λ (l : List ℕ). is_one (pass (shapes m) l (some []))) r.0
    ∙ ap is_one (pass_postfix (shapes m) c (allowed m c r.1 r.2) r.2 (omega arith))

-- THE THEOREM
pub accepts_is : (m : ℕ) (ws : List ℕ) → accepts m ws ≡ is_condition m ws
accepts_is m ws = iff _ _ (accepts_in m ws) (accepts_out m ws)
