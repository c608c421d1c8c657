-- A condition that was read: its terms are there, it needs no more parentheses than were allowed, and each word of it was counted.
use Rattle.std.specs.Prelude.{if◌then◌else◌}
use mathlib.Core.Path.{◌≡◌, refl, sym, ap, ◌∙◌, subst}
use mathlib.Core.Bool.{Bool, true, false}
use Prim.Native.Nat.{ℕ, zero, suc, ◌+◌, ◌≤◌}
use native.Mathlib.Omega.{arith}
use borrow.Author.Tests.{ltb-true, ltb-false, lt-ltb}
use lib.Dec.{ltb, eqb}
use lib.ListN.{length}
use Rattle.model.specs.Bounds.{word_limit, depth_limit}
use Rattle.model.specs.Block.{Block, Op, and, or, Condition, term, neg, two, size, input_terms, input_first, terms_of}
use Rattle.model.specs.Parentheses.{form, depth, opened, negated_form, rank, bare_left, bare_right, bare_behind_not, NOT_TERM_FORM, NOT_FORM, OR_FORM}
use Rattle.model.specs.WellFormed.{terms_below}
use Rattle.model.specs.Keywords.{OPEN, CLOSE, NOT, AND, OR, IS}
use Rattle.model.specs.Parse.{Parse, rest_of, text, is, advance}
use Rattle.model.specs.Declarations.{term_of, is_term}
use Rattle.model.specs.Rules.{ConditionRead, word, condition_term, negated_read, term_or_not, subcondition, chain_on, chain, plain, operand, condition_with, closed, parenthesis, condition}
use Rattle.laws.proofs.Tests.{and_i}
use Rattle.laws.proofs.Repetition.{joined}
use Rattle.listing_laws.proofs.Names.{first_and_length}
use Rattle.reading_laws.proofs.Steps.{Fact, Good, Leads, ◌▹◌, good_so, good_refuse, good_advance, good_judged, good_expect, either}

-- PARENTHESES
-- with forms up to l bare, d parentheses are enough
abbrev pub Bare : ℕ → ℕ → Condition → Type 0
Bare l d c = opened l (form c) (depth c) ≤ d

-- inside one more, d are enough
abbrev Inside : ℕ → Condition → Type 0
Inside d c = suc (depth c) ≤ d

opened_any : (l k n d : ℕ) → suc n ≤ d → opened l k n ≤ d
opened_any l k n d h = go (ltb l k)
  where
    go : (b : Bool) → (if b then suc n else n) ≤ d
    go true = h
    go false = omega arith

opened_bare : (l k n d : ℕ) → k ≤ l → n ≤ d → opened l k n ≤ d
opened_bare l k n d i h = go (ltb l k) refl
  where
    go : (b : Bool) → ltb l k ≡ b → (if b then suc n else n) ≤ d
    go true e = absurd (omega (arith, ltb-true l k e))
    go false e = h

opened_inner : (l k n d : ℕ) → opened l k n ≤ d → n ≤ d
opened_inner l k n d = go (ltb l k)
  where
    go : (b : Bool) → (if b then suc n else n) ≤ d → n ≤ d
    go true h = omega arith
    go false h = h

opened_looser : (l m k n d : ℕ) → l ≤ m → opened l k n ≤ d → opened m k n ≤ d
opened_looser l m k n d i h = go (ltb l k) refl h
  where
    go : (b : Bool) → ltb l k ≡ b → (if b then suc n else n) ≤ d → opened m k n ≤ d
    go true e g = opened_any m k n d g
    go false e g = let j = ltb-false l k e in opened_bare m k n d (omega arith) g

negated_most : (k : ℕ) → negated_form k ≤ NOT_FORM
negated_most k = go (eqb k 0)
  where
    go : (b : Bool) → (if b then NOT_TERM_FORM else NOT_FORM) ≤ NOT_FORM
    go true = omega arith
    go false = omega arith

bare_term : (l d t : ℕ) → Bare l d (term t)
unfolding form depth
bare_term l d t = opened_bare l 0 0 d (omega arith) (omega arith)

bare_not_term : (d t : ℕ) → Bare NOT_TERM_FORM d (neg (term t))
unfolding form depth
bare_not_term d t = omega arith

bare_not : (d : ℕ) (c : Condition) → Bare bare_behind_not d c → Bare NOT_FORM d (neg c)
unfolding form depth
bare_not d c h = opened_bare NOT_FORM (negated_form (form c)) _ d (negated_most (form c)) h

rank_bare : (o : Op) → rank o ≤ bare_left o
rank_bare and = omega arith
rank_bare or = omega arith

right_left : (o : Op) → bare_right o ≤ bare_left o
right_left and = omega arith
right_left or = omega arith

bare_two : (o : Op) (d : ℕ) (a c : Condition) → Bare (bare_left o) d a → Bare (bare_right o) d c → Bare (bare_left o) d (two o a c)
unfolding form depth
bare_two o d a c h g = opened_bare (bare_left o) (rank o) _ d (rank_bare o) (omega arith)

-- THE TERM
term_below : (i t : ℕ) (b : Block) → ltb t (length (terms_of i b)) ≡ true → terms_below (length (input_terms b)) (term (input_first i b + t)) ≡ true
unfolding terms_of input_first terms_below
term_below i t b h =
    let l = ltb-true t (length (terms_of i b)) h in
    lt-ltb (input_first i b + t) (length (input_terms b)) (omega (arith, first_and_length (λ v. v.terms) i b.inputs))

-- WHAT IS KEPT
-- w words are counted, the block is b, and X holds
pub record Still (w : ℕ) (b : Block) (X : Type 0) (w' : ℕ) (b' : Block) : Type 0 where
  pub words : w' ≡ w
  pub block : b' ≡ b
  pub room : w' ≤ word_limit
  pub kept : X

-- after w words, and those of the tree c, which has D
abbrev pub After : ℕ → Block → Type 0 → (Condition → Type 0) → Condition → Fact
After w b X D c = Still (w + size c) b (X × (terms_below (length (input_terms b)) c ≡ true) × D c)

pub record GoodRead (w : ℕ) (b : Block) (X : Type 0) (D : Condition → Type 0) (g : ConditionRead) : Type 0 where
  pub read : Good (After w b X D g.tree) g.parse

-- a part of a condition
abbrev pub Gives : (Condition → Type 0) → (Parse → ConditionRead) → Type 1
Gives D part = (w : ℕ) (b : Block) (X : Type 0) (r : Parse) → Good (Still w b X) r → GoodRead w b X D (part r)

-- what holds of the tree, said otherwise
still_so : {w v : ℕ} {b : Block} {X Y : Type 0} {r : Parse} → w ≡ v → (X → Y) → Good (Still w b X) r → Good (Still v b Y) r
still_so e f = good_so (λ g. let s = g.fact in record { words = s.words ∙ e; block = s.block; room = s.room; kept = f s.kept })

read_so : {w : ℕ} {b : Block} {X : Type 0} {D E : Condition → Type 0} {g : ConditionRead} → ((c : Condition) → D c → E c)
    → GoodRead w b X D g → GoodRead w b X E g
read_so {g = g} f k = record { read = still_so refl (λ x. (x.0, x.1, f g.tree x.2)) k.read }

either_tree : {w : ℕ} {b : Block} {X : Type 0} {D : Condition → Type 0} {g h : ConditionRead} (t : Bool)
    → GoodRead w b X D g → GoodRead w b X D h → GoodRead w b X D (if t then g else h)
either_tree true k l = k
either_tree false k l = l

-- a word more
good_word : {w : ℕ} {b : Block} {X : Type 0} → Leads (Still w b X) (Still (w + 1) b X) word
unfolding word advance
good_word {w} {b} {X} r k = either (ltb r.words word_limit) fits (good_refuse 6 r refl)
  where
    fits : ltb r.words word_limit ≡ true
        → Good (Still (w + 1) b X) (record { rest = rest_of r.rest; why = r.why; place = r.place; block = r.block; words = r.words + 1 })
    fits e = record {
      good = λ h.
          let g = k.good h in
          let s = g.fact in
          let n = (good_advance r k).good h in
          let l = ltb-true r.words word_limit e in
          record { named = n.named; fact = record { words = ap (λ (m : ℕ). m + 1) s.words; block = s.block; room = omega arith; kept = s.kept } };
    }

read_neg : {w : ℕ} {b : Block} {X : Type 0} {D E : Condition → Type 0} {g : ConditionRead} → ((c : Condition) → D c → E (neg c))
    → GoodRead (w + 1) b X D g → GoodRead w b X E (negated_read g)
unfolding size terms_below
read_neg {g = g} f k = record { read = still_so (omega arith) (λ x. (x.0, x.1, f g.tree x.2)) k.read }

-- A SUBCONDITION, where the word of the input is counted
abbrev IsTerm : Condition → Type 0
IsTerm c = (t : ℕ) × (c ≡ term t)

good_term : (i w : ℕ) (b : Block) (X : Type 0) (r : Parse) → Good (Still (w + 1) b X) r → GoodRead w b X IsTerm (condition_term i r)
unfolding condition_term size
good_term i w b X r k = record {
  read =
      good_judged _ r refl (λ c.
      good_advance r (good_so (λ g.
      let s = g.fact in
      record {
        words = s.words;
        block = s.block;
        room = s.room;
        kept = (s.kept, there s.block c.1.1.0, (_, refl));
      }) k));
}
  where
    there : r.block ≡ b → is_term i (text r) r.block ≡ true
        → terms_below (length (input_terms b)) (term (input_first i r.block + term_of i (text r) r.block)) ≡ true
    there e h =
        subst (λ (x : Block). terms_below (length (input_terms x)) (term (input_first i r.block + term_of i (text r) r.block)) ≡ true) e
        (term_below i (term_of i (text r) r.block) r.block h)

module _ (d : ℕ) where
  good_term_or_not : (i w : ℕ) (b : Block) (X : Type 0) (r : Parse) → Good (Still (w + 1) b X) r → GoodRead w b X (Bare NOT_TERM_FORM d) (term_or_not i r)
  unfolding term_or_not
  good_term_or_not i w b X r k =
      either_tree (is NOT r)
      (read_neg (λ c e. subst (λ (x : Condition). Bare NOT_TERM_FORM d (neg x)) (sym e.1) (bare_not_term d e.0))
      (good_term i (w + 1) b X (word r) (good_word r k)))
      (read_so (λ c e. subst (λ (x : Condition). Bare NOT_TERM_FORM d x) (sym e.1) (bare_term NOT_TERM_FORM d e.0)) (good_term i w b X r k))

  good_subcondition : Gives (Bare NOT_TERM_FORM d) subcondition
  unfolding subcondition
  good_subcondition w b X r k = good_term_or_not _ w b X _ (good_judged _ r refl (λ c. good_word r k) ▹ good_expect IS)

-- A CHAIN
module _ (d : ℕ) (part : Parse → ConditionRead) (t : ℕ) (o : Op) (f : Gives (Bare (bare_right o) d) part) where
  good_joined : (w : ℕ) (b : Block) (X : Type 0) (g : ConditionRead) → GoodRead w b X (Bare (bare_left o) d) g
      → GoodRead w b X (Bare (bare_left o) d) (joined part o g)
  unfolding size terms_below
  good_joined w b X g k =
      let h = part (word g.parse) in
      record {
        read =
            still_so (omega arith) (λ x.
            (x.0.0, and_i _ _ x.0.1 x.1, bare_two o d g.tree h.tree x.0.2 x.2))
            (f _ b _ (word g.parse) (good_word g.parse k.read)).read;
      }

  good_chain_on : (w : ℕ) (b : Block) (X : Type 0) (n : ℕ) (g : ConditionRead) → GoodRead w b X (Bare (bare_left o) d) g
      → GoodRead w b X (Bare (bare_left o) d) (chain_on n part t o g)
  unfolding chain_on
  good_chain_on w b X zero g k = k
  good_chain_on w b X (suc n) g k = go (is t g.parse) (chain_on n part t o (joined part o g)) (good_chain_on w b X n (joined part o g) (good_joined w b X g k))
    where
      go : (y : Bool) (h : ConditionRead) → GoodRead w b X (Bare (bare_left o) d) h
          → GoodRead w b X (Bare (bare_left o) d) (elim y as (λ x. ConditionRead) [ true ↦ h | false ↦ g ])
      go true h l = l
      go false h l = k

  good_chain : Gives (Bare (bare_left o) d) (chain part t o)
  unfolding chain
  good_chain w b X r k =
      good_chain_on w b X _ (part r) (read_so (λ c. opened_looser (bare_right o) (bare_left o) (form c) (depth c) d (right_left o)) (f w b X r k))

-- A CONDITION
module _ (d : ℕ) (inner : Parse → ConditionRead) (f : Gives (Inside d) inner) where
  good_plain : Gives (Bare NOT_TERM_FORM d) (plain inner)
  unfolding plain
  good_plain w b X r k =
      either_tree (is OPEN r) (read_so (λ c. opened_any NOT_TERM_FORM (form c) (depth c) d) (f w b X r k)) (good_subcondition d w b X r k)

  good_operand : Gives (Bare NOT_FORM d) (operand inner)
  unfolding operand
  good_operand w b X r k =
      either_tree (is NOT r)
      (read_neg (bare_not d) (good_plain (w + 1) b X (word r) (good_word r k)))
      (read_so (λ c. opened_looser NOT_TERM_FORM NOT_FORM (form c) (depth c) d (omega arith)) (good_plain w b X r k))

  good_condition_with : Gives (λ c. depth c ≤ d) (condition_with inner)
  unfolding condition_with
  good_condition_with w b X r k =
      read_so (λ c. opened_inner OR_FORM (form c) (depth c) d)
      (good_chain d (chain (operand inner) AND and) OR or (good_chain d (operand inner) AND and good_operand) w b X r k)

good_closed : {w : ℕ} {b : Block} {X : Type 0} {D : Condition → Type 0} {g : ConditionRead} → GoodRead w b X D g → GoodRead w b X D (closed g)
good_closed {g = g} k = record { read = good_expect CLOSE g.parse k.read }

good_parenthesis : (d : ℕ) → Gives (Inside d) (parenthesis d)
unfolding parenthesis
good_parenthesis zero w b X r k = record { read = good_refuse 6 r refl }
good_parenthesis (suc d) w b X r k =
    good_closed (read_so (λ c h. omega arith) (good_condition_with d (parenthesis d) (good_parenthesis d) w b X (advance r) (good_advance r k)))

pub good_condition : Gives (λ c. depth c ≤ depth_limit) condition
unfolding condition
good_condition = good_condition_with depth_limit (parenthesis depth_limit) (good_parenthesis depth_limit)
