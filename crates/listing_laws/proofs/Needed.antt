-- Parentheses stand only where the tree needs them: an operand that the listing wraps, unwrapped, reads to another tree.
use Rattle.std.specs.Prelude.{if◌then◌else◌}
use mathlib.Core.Path.{◌≡◌, refl, sym, ap, ◌∙◌, subst}
use mathlib.Core.Bool.{Bool, true, false}
use mathlib.Core.List.{List, [], ◌∷◌, ◌++◌, append_assoc, append-nil}
use Prim.Native.Nat.{ℕ, zero, suc, ◌+◌, ◌<◌, ◌≤◌}
use native.Mathlib.Omega.{arith}
use borrow.Author.Tests.{ltb-true}
use lib.Dec.{ltb, eqb}
use lib.ListN.{length}
use Rattle.model.specs.Basic.{bytes}
use Rattle.model.specs.Bounds.{word_limit, depth_limit}
use Rattle.model.specs.Keywords.{AND, OR, NOT, OPEN}
use Rattle.model.specs.Tokens.{Token, tokens}
use Rattle.model.specs.Block.{Block, Op, and, or, Condition, term, neg, two, size, input_terms}
use Rattle.model.specs.Listing.{◌⊕◌, TermNames, input_term_names, input_term_name, operator, wrapped, condition_text}
use Rattle.model.specs.Parentheses.{form, depth, opened, rank, bare_behind_not, bare_left, bare_right}
use Rattle.model.specs.Parse.{Parse, is}
use Rattle.model.specs.Rules.{ConditionRead, condition_read, negated_read, word, condition_term, term_or_not, subcondition, chain_on, chain, plain, operand, condition_with, parenthesis, condition}
use Rattle.model.specs.WellFormed.{terms_below, well_formed}
use Rattle.laws.proofs.Tests.{both, and_i, clash}
use Rattle.laws.proofs.Each.{Each, each_append}
use Rattle.listing_laws.proofs.Items
use Rattle.listing_laws.proofs.Items.{Item, within, condition_items}
use Rattle.listing_laws.proofs.Pieces.{cut, cut_is, cutting}
use Rattle.listing_laws.proofs.Lexing.{Cuts, part, text, operator_cuts, operator_ends, placed_cuts, condition_cuts}
use Rattle.listing_laws.proofs.Names.{input_named}
use Rattle.listing_laws.proofs.Facts.{block_facts, inputs_apart}
use Rattle.listing_laws.proofs.Reading.{at, laid, laid_back, places_of, is_head, head_kind}
use Rattle.listing_laws.proofs.ReadConditions.{Named, bare, operand_not, whole, paren_read, all_ok, condition_reads}
use Rattle.listing_laws.proofs.ReadNames.{named_term}

-- the tree that a text reads to as a condition of block b
abbrev pub tree_read : Block → List ℕ → Condition
tree_read b s = (condition (record { rest = tokens s; why = 0; place = 0; block = b; words = 0 })).tree

-- a condition's listing without the parentheses of its left operand, of its right one, behind NOT
abbrev pub without_left : (ℕ → TermNames) → Op → Condition → Condition → List ℕ
without_left f o a e = condition_text f a ⊕ operator o ⊕ wrapped (bare_right o) (form e) (condition_text f e)

abbrev pub without_right : (ℕ → TermNames) → Op → Condition → Condition → List ℕ
without_right f o a e = wrapped (bare_left o) (form a) (condition_text f a) ⊕ operator o ⊕ condition_text f e

abbrev pub without_behind : (ℕ → TermNames) → Condition → List ℕ
without_behind f c = bytes "NOT " ⊕ condition_text f c

abbrev pub only_if : Bool → List ℕ → List (List ℕ)
only_if q s = if q then s ∷ [] else []

-- for each operand that has them
abbrev pub unwrapped : (ℕ → TermNames) → Condition → List (List ℕ)
unwrapped f (term t) = []
unwrapped f (neg c) = only_if (ltb bare_behind_not (form c)) (without_behind f c)
unwrapped f (two o a e) =
    only_if (ltb (bare_left o) (form a)) (without_left f o a e) ++ only_if (ltb (bare_right o) (form e)) (without_right f o a e)

-- OPERATORS: the trees that the unwrapped texts read to
-- a, and x behind it without parentheses, where x has the same operator
abbrev grouped : Op → Condition → Condition → Condition
grouped o a (term t) = two o a (term t)
grouped o a (neg c) = two o a (neg c)
grouped and a (two and x y) = two and (grouped and a x) y
grouped and a (two or x y) = two and a (two or x y)
grouped or a (two or x y) = two or (grouped or a x) y
grouped or a (two and x y) = two or a (two and x y)

-- a AND x, where x is of any form
abbrev bound : Condition → Condition → Condition
bound a (two or x y) = two or (bound a x) y
bound a (two and x y) = grouped and a (two and x y)
bound a (term t) = two and a (term t)
bound a (neg c) = two and a (neg c)

grouped_form : (o : Op) (a x : Condition) → form (grouped o a x) ≡ rank o
unfolding form
grouped_form o a (term t) = refl
grouped_form o a (neg c) = refl
grouped_form and a (two and x y) = refl
grouped_form and a (two or x y) = refl
grouped_form or a (two or x y) = refl
grouped_form or a (two and x y) = refl

module _ (g : ℕ → TermNames) where
  -- where forms up to l stand bare
  abbrev placed : ℕ → Condition → List Item
  placed l c = within l (form c) (condition_items g c)

  -- the looser bound makes no difference but for the operator itself
  neg_alike : (o : Op) (c : Condition) → placed (bare_right o) (neg c) ≡ placed (bare_left o) (neg c)
  unfolding form
  neg_alike o c = go o (eqb (form c) 0)
    where
      go : (o : Op) (t : Bool) → within (bare_right o) (if t then 1 else 2) (condition_items g (neg c))
          ≡ within (bare_left o) (if t then 1 else 2) (condition_items g (neg c))
      go and true = refl
      go and false = refl
      go or true = refl
      go or false = refl

  grouped_items : (o : Op) (a x : Condition) → condition_items g (grouped o a x) ≡ placed (bare_left o) a ++ (Items.operator o ∷ placed (bare_left o) x)
  unfolding condition_items form
  grouped_items and a (term t) = refl
  grouped_items or a (term t) = refl
  grouped_items o a (neg c) = ap (λ (l : List Item). placed (bare_left o) a ++ (Items.operator o ∷ l)) (neg_alike o c)
  grouped_items and a (two or x y) = refl
  grouped_items or a (two and x y) = refl
  grouped_items and a (two and x y) =
      rw (grouped_form and a x)
      (ap (λ (l : List Item). l ++ (Items.operator and ∷ placed (bare_right and) y)) (grouped_items and a x)
      ∙ append_assoc (placed (bare_left and) a) (Items.operator and ∷ placed (bare_left and) x) (Items.operator and ∷ placed (bare_right and) y))
  grouped_items or a (two or x y) =
      rw (grouped_form or a x)
      (ap (λ (l : List Item). l ++ (Items.operator or ∷ placed (bare_right or) y)) (grouped_items or a x)
      ∙ append_assoc (placed (bare_left or) a) (Items.operator or ∷ placed (bare_left or) x) (Items.operator or ∷ placed (bare_right or) y))

  bound_items : (a x : Condition) → condition_items g (bound a x) ≡ placed (bare_left and) a ++ (Items.operator and ∷ condition_items g x)
  unfolding condition_items form
  bound_items a (term t) = refl
  bound_items a (neg c) = grouped_items and a (neg c) ∙ ap (λ (l : List Item). placed (bare_left and) a ++ (Items.operator and ∷ l)) (go (eqb (form c) 0))
    where
      go : (t : Bool) → within 3 (if t then 1 else 2) (condition_items g (neg c)) ≡ condition_items g (neg c)
      go true = refl
      go false = refl
  bound_items a (two and x y) = grouped_items and a (two and x y)
  bound_items a (two or x y) =
      rw (bare (bound a x))
      (ap (λ (l : List Item). l ++ (Items.operator or ∷ placed (bare_right or) y)) (bound_items a x)
      ∙ append_assoc (placed (bare_left and) a) (Items.operator and ∷ condition_items g x) (Items.operator or ∷ placed (bare_right or) y)
      ∙ rw (bare x) refl)

-- size, terms and depth
grouped_size : (o : Op) (a x : Condition) → size (grouped o a x) ≡ size a + size x + 1
unfolding size
grouped_size o a (term t) = refl
grouped_size o a (neg c) = refl
grouped_size and a (two and x y) = omega (arith, grouped_size and a x)
grouped_size and a (two or x y) = refl
grouped_size or a (two or x y) = omega (arith, grouped_size or a x)
grouped_size or a (two and x y) = refl

bound_size : (a x : Condition) → size (bound a x) ≡ size a + size x + 1
unfolding size
bound_size a (term t) = refl
bound_size a (neg c) = refl
bound_size a (two and x y) = grouped_size and a (two and x y)
bound_size a (two or x y) = omega (arith, bound_size a x)

module _ (n : ℕ) where
  grouped_terms : (o : Op) (a x : Condition) → terms_below n a ≡ true → terms_below n x ≡ true → terms_below n (grouped o a x) ≡ true
  unfolding terms_below
  grouped_terms o a (term t) h k = and_i _ _ h k
  grouped_terms o a (neg c) h k = and_i _ _ h k
  grouped_terms and a (two and x y) h k = let q = both (terms_below n x) (terms_below n y) k in and_i _ _ (grouped_terms and a x h q.0) q.1
  grouped_terms and a (two or x y) h k = and_i _ _ h k
  grouped_terms or a (two or x y) h k = let q = both (terms_below n x) (terms_below n y) k in and_i _ _ (grouped_terms or a x h q.0) q.1
  grouped_terms or a (two and x y) h k = and_i _ _ h k

  bound_terms : (a x : Condition) → terms_below n a ≡ true → terms_below n x ≡ true → terms_below n (bound a x) ≡ true
  unfolding terms_below
  bound_terms a (term t) h k = and_i _ _ h k
  bound_terms a (neg c) h k = and_i _ _ h k
  bound_terms a (two and x y) h k = grouped_terms and a (two and x y) h k
  bound_terms a (two or x y) h k = let q = both (terms_below n x) (terms_below n y) k in and_i _ _ (bound_terms a x h q.0) q.1

-- open parentheses, where forms up to l stand bare
abbrev deep : ℕ → Condition → ℕ
deep l c = opened l (form c) (depth c)

module _ (d : ℕ) where
  neg_deep : (o : Op) (c : Condition) → deep (bare_left o) (neg c) ≡ deep (bare_right o) (neg c)
  unfolding form
  neg_deep o c = go o (eqb (form c) 0)
    where
      go : (o : Op) (t : Bool) → opened (bare_left o) (if t then 1 else 2) (depth (neg c)) ≡ opened (bare_right o) (if t then 1 else 2) (depth (neg c))
      go and true = refl
      go and false = refl
      go or true = refl
      go or false = refl

  grouped_deep : (o : Op) (a x : Condition) → deep (bare_left o) a ≤ d → deep (bare_left o) x ≤ d → depth (grouped o a x) ≤ d
  unfolding depth form
  grouped_deep and a (term t) h k = omega arith
  grouped_deep or a (term t) h k = omega arith
  grouped_deep o a (neg c) h k = omega (arith, neg_deep o c)
  grouped_deep and a (two or x y) h k = omega arith
  grouped_deep or a (two and x y) h k = omega arith
  grouped_deep and a (two and x y) h k =
      let e = grouped_deep and a x h (omega arith) in
      rw (grouped_form and a x) (omega arith)
  grouped_deep or a (two or x y) h k =
      let e = grouped_deep or a x h (omega arith) in
      rw (grouped_form or a x) (omega arith)

  bound_deep : (a x : Condition) → deep (bare_left and) a ≤ d → depth x ≤ d → depth (bound a x) ≤ d
  unfolding depth form
  bound_deep a (term t) h k = grouped_deep and a (term t) h k
  bound_deep a (neg c) h k = grouped_deep and a (neg c) h (go (eqb (form c) 0))
    where
      go : (t : Bool) → opened 3 (if t then 1 else 2) (depth (neg c)) ≤ d
      go true = k
      go false = k
  bound_deep a (two and x y) h k = grouped_deep and a (two and x y) h k
  bound_deep a (two or x y) h k =
      let q : deep 4 x ≡ depth x = rw (bare x) in
      let e = bound_deep a x h (omega arith) in
      rw (bare (bound a x)) (omega arith)

-- a tree is none of its own parts
apart : (c a : Condition) → size c < size a → c ≡ a → ⊥
apart c a l e = let q : size c ≡ size a = ap size e in absurd (omega arith)

abbrev right_in : Condition → Condition
right_in (two o a b) = b
right_in (term t) = term t
right_in (neg c) = neg c

abbrev op_in : Condition → Op
op_in (two o a b) = o
op_in (term t) = and
op_in (neg c) = and

abbrev is_two : Condition → Bool
is_two (two o a b) = false
is_two (term t) = true
is_two (neg c) = true

abbrev negated_in : Condition → Condition
negated_in (neg c) = c
negated_in (term t) = term t
negated_in (two o a b) = two o a b

or_and : or ≡ and → ⊥
or_and e = clash (ap (λ (o : Op). elim o [ and ↦ true | or ↦ false ]) e)

-- regrouped to the left is another tree
regrouped : (o : Op) (a x y : Condition) (l : Condition) → two o l y ≡ two o a (two o x y) → ⊥
unfolding size
regrouped o a x y l e = apart y (two o x y) (omega arith) (ap right_in e)

-- THE READING of a text whose tokens are known
module _ (b : Block) (h : well_formed b ≡ true) where
  abbrev g : ℕ → TermNames
  g = input_term_name b

  abbrev n : ℕ
  n = length (input_terms b)

  named : (t : ℕ) → t < n → Named b (g t) t
  unfolding input_term_name input_term_names
  named = named_term b (block_facts b h).inputs_ok (inputs_apart b (block_facts b h))

  tree_of : (s : List ℕ) (xs : List Item) → Cuts s xs []
      → tree_read b s ≡ (condition (at (places_of (tokens s)) (xs ++ cut 0 []) b 0)).tree
  unfolding at tokens
  tree_of s xs k =
      ap (λ (l : List Token). (condition (record { rest = l; why = 0; place = 0; block = b; words = 0 })).tree)
      (sym (laid_back (tokens s))
      ∙ ap (laid (places_of (tokens s))) (cut_is 0 0 s ∙ ap (cut 0) (sym (append-nil s)) ∙ k.cuts))

  -- a text of the tokens of a condition's listing
  reads_tree : (s : List ℕ) (c : Condition) → Cuts s (condition_items g c) [] → terms_below n c ≡ true → depth c ≤ depth_limit → size c ≤ word_limit
      → tree_read b s ≡ c
  unfolding cutting cut
  reads_tree s c k t l w =
      tree_of s (condition_items g c) k
      ∙ ap (λ (r : ConditionRead). r.tree) (condition_reads (places_of (tokens s)) b g n named c t l 0 (cut 0 []) refl refl (omega arith))

  -- THE LEFT OPERAND
  left_cuts : (o : Op) (a e : Condition) → terms_below n a ≡ true → terms_below n e ≡ true
      → Cuts (without_left g o a e)
      (condition_items g a ++ (Items.operator o ∷ placed g (bare_right o) e)) []
  left_cuts o a e ta te =
      let named = input_named b h in
      part (condition_text g a) (condition_items g a) (condition_cuts g n named a _ ta (operator_ends o _ []))
      (part (operator o) (Items.operator o ∷ []) (operator_cuts o _)
      (placed_cuts g n named (bare_right o) e [] te refl (λ s k. condition_cuts g n named e s te k)))

  left_needed : (o : Op) (a e : Condition) → terms_below n (two o a e) ≡ true → depth (two o a e) ≤ depth_limit → size (two o a e) ≤ word_limit
      → ltb (bare_left o) (form a) ≡ true
      → tree_read b (without_left g o a e) ≡ two o a e → ⊥
  unfolding form terms_below depth size condition_items
  left_needed and (term t) e q l w loose k = clash loose
  left_needed or (term t) e q l w loose k = clash loose
  left_needed and (neg c) e q l w loose k = clash (sym (go (eqb (form c) 0)) ∙ loose)
    where
      go : (t : Bool) → ltb 3 (if t then 1 else 2) ≡ false
      go true = refl
      go false = refl
  left_needed or (neg c) e q l w loose k = clash (sym (bare (neg c)) ∙ loose)
  left_needed and (two and x y) e q l w loose k = clash loose
  left_needed or (two o x y) e q l w loose k = clash (sym (bare (two o x y)) ∙ loose)
  left_needed and (two or x y) e q l w loose k =
      let p = both (terms_below n (two or x y)) (terms_below n e) q in
      let r = both (terms_below n x) (terms_below n y) p.0 in
      let same = append_assoc (placed g 4 x) (Items.operator or ∷ placed g 3 y) (Items.operator and ∷ placed g 2 e) in
      let s = without_left g and (two or x y) e in
      let reads = reads_tree s (two or x (two and y e))
      (subst (λ (xs : List Item). Cuts s xs []) same (left_cuts and (two or x y) e p.0 p.1))
      (and_i _ _ r.0 (and_i _ _ r.1 p.1)) (omega arith) (omega arith) in
      or_and (ap op_in (sym reads ∙ k))

  -- THE RIGHT OPERAND
  right_cuts : (o : Op) (a e : Condition) → terms_below n a ≡ true → terms_below n e ≡ true
      → Cuts (without_right g o a e)
      (placed g (bare_left o) a ++ (Items.operator o ∷ condition_items g e)) []
  right_cuts o a e ta te =
      let named = input_named b h in
      part (wrapped (bare_left o) (form a) (condition_text g a)) (placed g (bare_left o) a)
      (placed_cuts g n named (bare_left o) a _ ta (operator_ends o _ []) (λ s k. condition_cuts g n named a s ta k))
      (part (operator o) (Items.operator o ∷ []) (operator_cuts o _)
      (condition_cuts g n named e [] te refl))

  -- where the tokens are those of another condition's listing
  right_reads : (o : Op) (a e c : Condition) → terms_below n (two o a e) ≡ true
      → condition_items g c ≡ placed g (bare_left o) a ++ (Items.operator o ∷ condition_items g e)
      → terms_below n c ≡ true → depth c ≤ depth_limit → size c ≤ word_limit
      → tree_read b (without_right g o a e) ≡ c
  unfolding terms_below
  right_reads o a e c q same t l w =
      let p = both (terms_below n a) (terms_below n e) q in
      let s = without_right g o a e in
      reads_tree s c (subst (λ (xs : List Item). Cuts s xs []) (sym same) (right_cuts o a e p.0 p.1)) t l w

  right_needed : (o : Op) (a e : Condition) → terms_below n (two o a e) ≡ true → depth (two o a e) ≤ depth_limit → size (two o a e) ≤ word_limit
      → ltb (bare_right o) (form e) ≡ true
      → tree_read b (without_right g o a e) ≡ two o a e → ⊥
  unfolding form terms_below depth size
  right_needed and a (term t) q l w loose k = clash loose
  right_needed or a (term t) q l w loose k = clash loose
  right_needed and a (neg c) q l w loose k = clash (sym (go (eqb (form c) 0)) ∙ loose)
    where
      go : (t : Bool) → ltb 2 (if t then 1 else 2) ≡ false
      go true = refl
      go false = refl
  right_needed or a (neg c) q l w loose k = clash (sym (go (eqb (form c) 0)) ∙ loose)
    where
      go : (t : Bool) → ltb 3 (if t then 1 else 2) ≡ false
      go true = refl
      go false = refl
  right_needed or a (two and x y) q l w loose k = clash loose
  right_needed and a (two and x y) q l w loose k =
      let p = both (terms_below n a) (terms_below n (two and x y)) q in
      let c = grouped and a (two and x y) in
      let reads = right_reads and a (two and x y) c q (grouped_items g and a (two and x y))
      (grouped_terms n and a (two and x y) p.0 p.1) (grouped_deep depth_limit and a (two and x y) (omega arith) (omega arith))
      (omega (arith, grouped_size and a (two and x y))) in
      regrouped and a x y (grouped and a x) (sym reads ∙ k)
  right_needed or a (two or x y) q l w loose k =
      let p = both (terms_below n a) (terms_below n (two or x y)) q in
      let c = grouped or a (two or x y) in
      let reads = right_reads or a (two or x y) c q (grouped_items g or a (two or x y))
      (grouped_terms n or a (two or x y) p.0 p.1) (grouped_deep depth_limit or a (two or x y) (omega arith) (omega arith))
      (omega (arith, grouped_size or a (two or x y))) in
      regrouped or a x y (grouped or a x) (sym reads ∙ k)
  right_needed and a (two or x y) q l w loose k =
      let p = both (terms_below n a) (terms_below n (two or x y)) q in
      let c = bound a (two or x y) in
      let reads = right_reads and a (two or x y) c q (bound_items g a (two or x y))
      (bound_terms n a (two or x y) p.0 p.1) (bound_deep depth_limit a (two or x y) (omega arith) (omega arith))
      (omega (arith, bound_size a (two or x y))) in
      or_and (ap op_in (sym reads ∙ k))

  -- BEHIND NOT
  -- a chain's tree is the first part's, or an operator's
  chain_keeps : (P : Condition → Type 0) (each : Parse → ConditionRead) (k : ℕ) (o : Op) → ((x y : Condition) → P (two o x y))
      → (m : ℕ) (r : ConditionRead) → P r.tree → P (chain_on m each k o r).tree
  unfolding chain_on
  chain_keeps P each k o all zero r p = p
  chain_keeps P each k o all (suc m) r p =
      let next = each (word r.parse) in
      let more = condition_read next.parse (two o r.tree next.tree) in
      go (is k r.parse) (chain_on m each k o more) (chain_keeps P each k o all m more (all _ _))
    where
      go : (q : Bool) (on : ConditionRead) → P on.tree → P (elim q as (λ x. ConditionRead) [ true ↦ on | false ↦ r ]).tree
      go true on e = e
      go false on e = p

  -- what is no parenthesis reads to a term or its negation
  term_form : (i : ℕ) (r : Parse) → form (term_or_not i r).tree ≤ 1
  unfolding term_or_not condition_term form
  term_form i r = go (is NOT r)
    where
      go : (t : Bool) → form (if t then negated_read (condition_term i (word r)) else condition_term i r).tree ≤ 1
      go true = omega arith
      go false = omega arith

  subcondition_form : (r : Parse) → form (subcondition r).tree ≤ 1
  unfolding subcondition
  subcondition_form r = term_form _ _

  -- what the reader takes behind NOT from a condition's tokens on is not a looser tree of its size
  module _ (f : ℕ → ℕ) (d w : ℕ) where
    abbrev taken : List Item → Condition
    taken xs = (plain (parenthesis d) (at f xs b w)).tree

    not_open : (xs : List Item) → eqb (head_kind xs) OPEN ≡ false → form (taken xs) ≤ 1
    unfolding plain
    not_open xs e =
        subst (λ (q : Bool). form (if q then parenthesis d (at f xs b w) else subcondition (at f xs b w)).tree ≤ 1)
        (sym (is_head OPEN f xs b w ∙ e)) (subcondition_form (at f xs b w))

    taken_apart : (c a : Condition) (rest : List Item) → 1 < form a → size c ≤ size a → terms_below n c ≡ true → depth c ≤ d → w + size c ≤ word_limit
        → taken (condition_items g c ++ rest) ≡ a → ⊥
    unfolding condition_items size depth terms_below
    taken_apart (term t) a rest l s q e v k = let z = not_open (condition_items g (term t) ++ rest) refl in absurd (omega (arith, ap form k))
    taken_apart (neg (term t)) a rest l s q e v k = let z = not_open (condition_items g (neg (term t)) ++ rest) refl in absurd (omega (arith, ap form k))
    taken_apart (neg (neg c)) a rest l s q e v k = let z = not_open (condition_items g (neg (neg c)) ++ rest) refl in absurd (omega (arith, ap form k))
    taken_apart (neg (two o x y)) a rest l s q e v k = let z = not_open (condition_items g (neg (two o x y)) ++ rest) refl in absurd (omega (arith, ap form k))
    taken_apart (two o x y) a rest l s q e v k =
        go (λ later i u r. taken_apart x a later l i (both (terms_below n x) (terms_below n y) q).0 u (omega arith) r) (ltb (bare_left o) (form x)) refl
      where
        later : List Item
        later = (Items.operator o ∷ placed g (bare_right o) y) ++ rest

        moved : taken (placed g (bare_left o) x ++ later) ≡ a
        moved = ap taken (sym (append_assoc (placed g (bare_left o) x) (Items.operator o ∷ placed g (bare_right o) y) rest)) ∙ k

        go : ((later : List Item) → size x ≤ size a → depth x ≤ d → taken (condition_items g x ++ later) ≡ a → ⊥)
            → (t : Bool) → ltb (bare_left o) (form x) ≡ t → ⊥
        go less true loose =
            let p = both (terms_below n x) (terms_below n y) q in
            let reads = paren_read f b g (bare_left o) x loose (whole f b g x (all_ok f b g n named x p.0).o_ok) d w later (omega arith) (omega arith) in
            apart x a (omega arith) (sym (ap (λ (r : ConditionRead). r.tree) reads) ∙ moved)
        go less false tight =
            let same : placed g (bare_left o) x ≡ condition_items g x = rw tight in
            let low : deep (bare_left o) x ≡ depth x = rw tight in
            less later (omega arith) (omega arith) (ap (λ (xs : List Item). taken (xs ++ later)) (sym same) ∙ moved)

  not_cuts : (c : Condition) → terms_below n c ≡ true → Cuts (without_behind g c) (Items.word "NOT" ∷ condition_items g c) []
  unfolding cutting
  not_cuts c t = text "NOT " (Items.word "NOT" ∷ []) (λ s. refl) (condition_cuts g n (input_named b h) c [] t refl)

  not_needed : (c : Condition) → terms_below n (neg c) ≡ true → depth (neg c) ≤ depth_limit → size (neg c) ≤ word_limit
      → ltb bare_behind_not (form c) ≡ true → tree_read b (without_behind g c) ≡ neg c → ⊥
  unfolding terms_below depth size condition condition_with chain
  not_needed c t l v loose k =
      let s = without_behind g c in
      let f = places_of (tokens s) in
      let xs = condition_items g c ++ cut 0 [] in
      let P : Condition → Type 0 = λ x. x ≡ neg c → ⊥ in
      let op = operand (parenthesis depth_limit) in
      let deeper : deep 1 c ≡ suc (depth c) = rw loose in
      let first : P (op (at f (Items.word "NOT" ∷ xs) b 0)).tree =
      λ e. taken_apart f depth_limit 1 c c (cut 0 []) (ltb-true 1 (form c) loose) (omega arith) t (omega arith) (omega arith)
      (ap negated_in (sym (ap (λ (r : ConditionRead). r.tree) (operand_not f b g (parenthesis depth_limit) xs 0 (omega arith))) ∙ e)) in
      chain_keeps P (chain op AND and) OR or (λ x y e. clash (ap is_two e)) _ _
      (chain_keeps P op AND and (λ x y e. clash (ap is_two e)) _ _ first)
      (sym (tree_of s (Items.word "NOT" ∷ condition_items g c) (not_cuts c t)) ∙ k)

  -- ALL OF THEM
  only_if_lem : (P : List ℕ → Type 0) (q : Bool) (s : List ℕ) → (q ≡ true → P s) → Each P (only_if q s)
  only_if_lem P true s k = (k refl, tt)
  only_if_lem P false s k = tt

  pub only_needed : (c : Condition) → terms_below n c ≡ true → depth c ≤ depth_limit → size c ≤ word_limit
      → Each (λ s. tree_read b s ≡ c → ⊥) (unwrapped g c)
  only_needed (term t) q l w = tt
  only_needed (neg c) q l w =
      only_if_lem (λ s. tree_read b s ≡ neg c → ⊥) (ltb bare_behind_not (form c)) (without_behind g c) (not_needed c q l w)
  only_needed (two o a e) q l w =
      let P : List ℕ → Type 0 = λ s. tree_read b s ≡ two o a e → ⊥ in
      let left = ltb (bare_left o) (form a) in
      let right = ltb (bare_right o) (form e) in
      each_append P (only_if left (without_left g o a e)) (only_if right (without_right g o a e))
      (only_if_lem P left (without_left g o a e) (left_needed o a e q l w)) (only_if_lem P right (without_right g o a e) (right_needed o a e q l w))

-- `x IS a AND (x IS b OR x IS c)`, and NOT over it
abbrev spelt : ℕ → TermNames
spelt t = record { variable = bytes "x"; term = (97 + t) ∷ [] }

abbrev mixed : Condition
mixed = two and (term 0) (two or (term 1) (term 2))

unwrapped_mixed : unwrapped spelt mixed ≡ bytes "x IS a AND x IS b OR x IS c" ∷ []
unfolding condition_text form
unwrapped_mixed = refl

unwrapped_not : unwrapped spelt (neg mixed) ≡ bytes "NOT x IS a AND (x IS b OR x IS c)" ∷ []
unfolding condition_text form
unwrapped_not = refl

unwrapped_bare : unwrapped spelt (two or (two and (term 0) (term 1)) (neg (term 2))) ≡ []
unfolding condition_text form
unwrapped_bare = refl
