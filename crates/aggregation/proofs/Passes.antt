-- A pass over the condition words of an accepted image leaves the degree of each rule's condition, the last on top.
use mathlib.Core.Path.{◌≡◌, refl, sym, ap, ◌∙◌}
use mathlib.Core.List.{List, [], ◌∷◌, ◌++◌}
use mathlib.Core.Bool.{Bool, true, false}
use mathlib.Core.Option.{some}
use Prim.Native.Nat.{ℕ, zero, suc, ◌+◌, ◌≤◌, ◌<◌}
use native.Mathlib.Nat.{zero-add}
use native.Mathlib.Omega.{arith}
use borrow.Author.Tests.{leb-true, eqb-true, eqb-false}
use lib.Dec.{leb, eqb}
use lib.ListN.{length, get_or}
use Rattle.model.specs.Basic.{gather, tab}
use Rattle.model.specs.Bounds.{depth_limit}
use Rattle.model.specs.declared.Pair.{Pair}
use Rattle.model.specs.Block.{Condition, term, neg, two, input_terms}
use Rattle.model.specs.Degrees.{not_of, condition_degree}
use Rattle.model.specs.Image.{postfix, rule_at, decode, RULES, WORDS, WORD_TABLE}
use Rattle.model.specs.Parentheses.{depth}
use Rattle.model.specs.WellFormed.{terms_below, condition_ok}
use Rattle.laws.proofs.Tests.{both, passed}
use Rattle.laws.proofs.Places.{tab_from}
use Rattle.condition_words.specs.Machine.{Meaning, stack_of}
use Rattle.condition_words.proofs.Room.{fits}
use Rattle.condition_words.proofs.Passes.{fold, pass, Allowed, pass_on}
use Rattle.condition_words.proofs.Stacks.{length_stack}
use Rattle.layout.specs.Tables.{words_in}
use Rattle.layout.specs.Groups.{Sound, rules_ok}
use Rattle.layout.proofs.Parts.{conditions_are}
use Rattle.layout.proofs.Rules.{rules_few, rule_parts}
use Rattle.aggregation.specs.Stacks.{places, by_degrees}

-- the first n values of f, the last on top
unfoldable pub top_first : (ℕ → ℕ) → ℕ → List ℕ
top_first f zero = []
top_first f (suc n) = f n ∷ top_first f n

length_top : (f : ℕ → ℕ) (n : ℕ) → length (top_first f n) ≡ n
unfolding top_first
length_top f zero = refl
length_top f (suc n) = ap suc (length_top f n)

-- an array whose stack they are holds them
pub stack_holds : (f : ℕ → ℕ) (l : List ℕ) (k n : ℕ) → stack_of 0 l k ≡ top_first f n → (i : ℕ) → i < n → get_or l i 0 ≡ f i
unfolding stack_of top_first
stack_holds f l k zero e i h = absurd (omega arith)
stack_holds f l zero (suc n) e i h = absurd (let z : ◌≡◌ {A = ℕ} 0 1 = cc in omega arith)
stack_holds f l (suc k) (suc n) e i h = go (eqb i n) refl (stack_holds f l k n rest i)
  where
    rest : stack_of 0 l k ≡ top_first f n
    rest = cc

    same : k ≡ n
    same = sym (length_stack 0 l k) ∙ ap length rest ∙ length_top f n

    go : (b : Bool) → eqb i n ≡ b → (i < n → get_or l i 0 ≡ f i) → get_or l i 0 ≡ f i
    go true r below =
        let q : get_or l k 0 ≡ f n = cc in
        rw (eqb-true i n r) (rw same at q)
    go false r below = below (omega (arith, eqb-false i n r))

module _ (p : Pair) (ds : List ℕ) (m : ℕ) where
  allowed : (c : Condition) → terms_below m c ≡ true → Allowed (by_degrees p ds m) c
  unfolding Allowed terms_below
  allowed (term t) k = (k, refl)
  allowed (neg c) k = (allowed c k, refl)
  allowed (two o a b) k =
      let q = both (terms_below m a) (terms_below m b) k in
      ((allowed a q.0, allowed b q.1), refl)

  fold_degree : (c : Condition) → fold (by_degrees p ds m) c ≡ condition_degree p ds c
  unfolding fold condition_degree
  fold_degree (term t) = refl
  fold_degree (neg c) = ap not_of (fold_degree c)
  fold_degree (two o a b) = rw (fold_degree a, fold_degree b) refl

pub some_eq : {A : Type 0} (x y : A) → some x ≡ some y → x ≡ y
some_eq x y e = cc

-- of the words w of an image
abbrev pub machine : (ℕ → ℕ) → Pair → List ℕ → Meaning ℕ
machine w p ds = by_degrees p ds (length (input_terms (decode w)))

-- the degree of the condition of rule i
abbrev pub degree_of : (ℕ → ℕ) → Pair → List ℕ → ℕ → ℕ
degree_of w p ds i = condition_degree p ds (rule_at w i).condition

module _ (w : ℕ → ℕ) (ok : Sound w) (p : Pair) (ds : List ℕ) where
  abbrev g : Meaning ℕ
  g = machine w p ds

  abbrev f : ℕ → ℕ
  f = degree_of w p ds

  one_left : (i : ℕ) (rest : List ℕ) → i < w RULES
      → pass g (postfix (rule_at w i).condition ++ rest) (some (top_first f i)) ≡ pass g rest (some (top_first f (suc i)))
  unfolding top_first condition_ok
  one_left i rest h =
      let c = (rule_at w i).condition in
      let q = both (terms_below (length (input_terms (decode w))) c) (leb (depth c) depth_limit) (rule_parts w ok i h).0 in
      let room = fits places c (length (top_first f i)) (leb-true _ _ q.1) (omega (arith, length_top f i, rules_few w ok)) in
      pass_on g c rest (top_first f i) (allowed p ds _ c q.0) room
      ∙ ap (λ (x : ℕ). pass g rest (some (x ∷ top_first f i))) (fold_degree p ds _ c)

  rules_left : (k i : ℕ) → i + k ≤ w RULES
      → pass g (gather (λ r. postfix r.condition) (tab (rule_at w) k i)) (some (top_first f i)) ≡ some (top_first f (i + k))
  unfolding tab gather pass
  rules_left zero i h = let e : i + 0 ≡ i = omega arith in rw e refl
  rules_left (suc k) i h =
      let e : i + suc k ≡ suc i + k = omega arith in
      let rest = gather (λ r. postfix r.condition) (tab (rule_at w) k (suc i)) in
      one_left i rest (omega arith) ∙ rules_left k (suc i) (omega arith) ∙ rw e refl

  -- by the words that the code reads
  pub degrees_left : (d n : ℕ) → d ≡ w WORD_TABLE → n ≡ w WORDS → pass g (tab w n d) (some []) ≡ some (top_first f (w RULES))
  unfolding rules_ok decode top_first
  degrees_left d n ed en =
      let t = passed _ ok.rules in
      let some_words = conditions_are w t.0 t.1.0 in
      let n-is : n ≡ words_in w = en ∙ eqb-true (w WORDS) (words_in w) t.1.1.0 in
      let d-is : d ≡ w WORD_TABLE + 0 = omega (arith, ed) in
      ap (λ (ws : List ℕ). pass g ws (some [])) ((λ j. tab w (n-is j) (d-is j)) ∙ sym (tab_from w (w WORD_TABLE) (words_in w) 0) ∙ sym some_words)
      ∙ rules_left (w RULES) 0 (omega arith)
      ∙ ap (λ (k : ℕ). some (top_first f k)) (zero-add (w RULES))
