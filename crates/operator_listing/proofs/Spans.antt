-- Where conditions lie: from their words, and back from the last word to the form.
use mathlib.Core.Path.{◌≡◌, refl, sym, ap, ◌∙◌, subst}
use mathlib.Core.List.{List, [], ◌∷◌, ◌++◌}
use mathlib.Core.Bool.{Bool, true, false}
use Prim.Native.Nat.{ℕ, ◌+◌, ◌-◌, ◌≤◌, ◌<◌}
use native.Mathlib.Omega.{arith}
use borrow.Author.Tests.{eqb-true, eqb-false, ne_eqb}
use lib.Dec.{eqb}
use lib.ListN.{length, length-append}
use Rattle.model.specs.Basic.{tab}
use Rattle.model.specs.Block.{Op, and, or, Condition, term, neg, two}
use Rattle.model.specs.Image.{NOT_WORD, TERM_WORD, op_word, postfix}
use Rattle.model.specs.Parentheses.{rank, negated_form, form}
use Rattle.laws.proofs.Places.{At, at_cut, at_tab, length_tab}
use Rattle.condition_words.specs.Machine.{operator_of}
use Rattle.operator_listing.specs.Spans.{Spans, Forms}

pub operator_word : (o : Op) → (0 < op_word o) × (op_word o ≤ 2)
operator_word and = (omega arith, omega arith)
operator_word or = (omega arith, omega arith)

pub negated_low : (k : ℕ) → (0 < negated_form k) × (negated_form k ≤ 2)
negated_low k = go (eqb k 0) refl
  where
    go : (b : Bool) → eqb k 0 ≡ b → (0 < negated_form k) × (negated_form k ≤ 2)
    go true e = rw e (omega arith, omega arith)
    go false e = rw e (omega arith, omega arith)

same_rank : (o o' : Op) → op_word o ≡ op_word o' → rank o ≡ rank o'
same_rank and and e = refl
same_rank and or e = absurd (omega arith)
same_rank or and e = absurd (omega arith)
same_rank or or e = refl

module _ (f : ℕ → ℕ) where
  -- FROM THE WORDS
  spans_at : (c : Condition) (i e : ℕ) → e ≡ i + length (postfix c) → At f i (postfix c) → Spans f i e c
  unfolding Spans postfix
  spans_at (term t) i e q a = (omega arith, omega arith, ap f (omega arith) ∙ a.0)
  spans_at (neg c) i e q a =
      let l = length-append (postfix c) (0 ∷ []) in
      let s = at_cut f i (postfix c) (0 ∷ []) a in
      (omega arith, spans_at c i (e - 1) (omega arith) s.0, ap f (omega arith) ∙ s.1.0)
  spans_at (two o x y) i e q a =
      let l = length-append (postfix x) (postfix y ++ (op_word o ∷ [])) in
      let m = length-append (postfix y) (op_word o ∷ []) in
      let j = i + length (postfix x) in
      let s = at_cut f i (postfix x) (postfix y ++ (op_word o ∷ [])) a in
      let r = at_cut f j (postfix y) (op_word o ∷ []) s.1 in
      (j, omega arith, spans_at x i j refl s.0, spans_at y j (e - 1) (omega arith) r.0, ap f (omega arith) ∙ r.1.0)

  -- n words from place d on
  pub spans_words : (d n : ℕ) (c : Condition) → tab f n d ≡ postfix c → Spans f d (d + n) c
  spans_words d n c q =
      spans_at c d (d + n) (omega (arith, length_tab f n d, ap length q)) (subst (λ (ws : List ℕ). At f d ws) q (at_tab f n d))

  -- no condition ends before the first word
  pub none_ends : (e i : ℕ) (c : Condition) → e < 1 → Spans f i e c → ⊥
  unfolding Spans
  none_ends e i (term t) h (p, s, w) = omega arith
  none_ends e i (neg c) h (p, s, w) = omega arith
  none_ends e i (two o a b) h (j, p, s, s', w) = omega arith

  -- THE FORM, by the last words
  pub term_form : (e : ℕ) → TERM_WORD ≤ f (e - 1) → Forms f e 0
  unfolding Spans form
  term_form e h i (term t) sp = refl
  term_form e h i (neg c) (p, s, w) = absurd (omega arith)
  term_form e h i (two o a b) (j, p, s, s', w) = absurd (omega (arith, operator_word o))

  two_form : (o : Op) (e : ℕ) → f (e - 1) ≡ op_word o → Forms f e (rank o)
  unfolding Spans form
  two_form o e z i (term t) (p, s, w) = absurd (omega (arith, operator_word o))
  two_form o e z i (neg c) (p, s, w) = absurd (omega (arith, operator_word o))
  two_form o e z i (two o' a b) (j, p, s, s', w) = same_rank o o' (sym z ∙ w)

  or_form : (e : ℕ) → f (e - 1) < TERM_WORD → (f (e - 1) ≡ NOT_WORD → ⊥) → (f (e - 1) ≡ op_word and → ⊥) → Forms f e 4
  unfolding Spans form
  or_form e h n m i (term t) (p, s, w) = absurd (omega arith)
  or_form e h n m i (neg c) (p, s, w) = absurd (n w)
  or_form e h n m i (two and a b) (j, p, s, s', w) = absurd (m w)
  or_form e h n m i (two or a b) sp = refl

  pub operator_form : (e : ℕ) → f (e - 1) < TERM_WORD → (f (e - 1) ≡ NOT_WORD → ⊥) → Forms f e (rank (operator_of (f (e - 1))))
  operator_form e h n = go (eqb (f (e - 1)) (op_word and)) refl
    where
      go : (b : Bool) → eqb (f (e - 1)) (op_word and) ≡ b → Forms f e (rank (operator_of (f (e - 1))))
      go true q = rw q (two_form and e (eqb-true (f (e - 1)) (op_word and) q))
      go false q = rw q (or_form e h n (eqb-false (f (e - 1)) (op_word and) q))

  -- of a NOT, by the word before it
  not_form : (e k : ℕ) → f (e - 1) ≡ NOT_WORD → ((i : ℕ) (c : Condition) → Spans f i (e - 1) c → k ≡ negated_form (form c)) → Forms f e k
  unfolding Spans form
  not_form e k z g i (term t) (p, s, w) = absurd (omega arith)
  not_form e k z g i (neg c) (p, s, w) = g i c s
  not_form e k z g i (two o a b) (j, p, s, s', w) = absurd (omega (arith, operator_word o))

  pub not_term_form : (e : ℕ) → f (e - 1) ≡ NOT_WORD → TERM_WORD ≤ f (e - 2) → Forms f e 1
  not_term_form e z h =
      let q : e - 1 - 1 ≡ e - 2 = omega arith in
      let t = term_form (e - 1) (rw q h) in
      not_form e 1 z (λ i c s. ap negated_form (t i c s))

  loose : (e : ℕ) → f (e - 1) < TERM_WORD → (i : ℕ) (c : Condition) → Spans f i e c → 0 < form c
  unfolding Spans form
  loose e h i (term t) (p, s, w) = absurd (omega arith)
  loose e h i (neg c) sp = (negated_low (form c)).0
  loose e h i (two and a b) sp = omega arith
  loose e h i (two or a b) sp = omega arith

  pub not_front_form : (e : ℕ) → f (e - 1) ≡ NOT_WORD → f (e - 2) < TERM_WORD → Forms f e 2
  not_front_form e z h =
      let q : e - 1 - 1 ≡ e - 2 = omega arith in
      not_form e 2 z (λ i c s. rw (ne_eqb (form c) 0 (λ x. omega (arith, loose (e - 1) (rw q h) i c s))) refl)

  pub lone_not_form : (e k : ℕ) → e < 2 → f (e - 1) ≡ NOT_WORD → Forms f e k
  lone_not_form e k h z = not_form e k z (λ i c s. absurd (none_ends (e - 1) i c (omega arith) s))
