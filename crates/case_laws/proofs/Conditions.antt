-- Conditions know no case: where names differ by it alone, the tree is the same.
use Rattle.std.specs.Prelude.{if◌then◌else◌}
use mathlib.Core.Path.{◌≡◌, refl, sym, ap, ◌∙◌}
use mathlib.Core.Bool.{Bool, true, false}
use mathlib.Core.List.{List, [], ◌∷◌}
use Prim.Native.Nat.{ℕ, zero, suc, ◌+◌}
use lib.Dec.{ltb}
use lib.ListN.{length, length-map}
use Rattle.model.specs.Basic.{capitals}
use Rattle.model.specs.Bounds.{word_limit, depth_limit}
use Rattle.model.specs.Keywords.{OPEN, CLOSE, AND, IS, NOT, OR}
use Rattle.model.specs.Block.{Block, Op, Condition, and, or, term, two}
use Rattle.model.specs.Parse.{Parse, Part, text, is, refuse, judged, expect, a_name}
use Rattle.model.specs.Declarations.{input_of, is_input}
use Rattle.model.specs.Rules.{ConditionRead, condition_read, word, condition_term, negated_read, term_or_not, subcondition, chain_on, chain, plain, operand, condition_with, closed, parenthesis, condition}
use Rattle.laws.proofs.Walk.{counted}
use Rattle.laws.proofs.Repetition.{joined, join, no_join}
use Rattle.model.specs.Case.{in_capitals}
use Rattle.case_laws.proofs.Tokens.{caps_token}
use Rattle.case_laws.proofs.Blocks.{input_first_lem, input_of_lem, is_input_lem, term_of_lem, is_term_lem}
use Rattle.case_laws.proofs.Steps.{parse_of, caps_parse, InCaps, NoCase, ◌▹◌, rest_caps, is_same, text_case, refuse_caps, advance_caps, passed, check, judge, a_name_lem, expect_caps}

abbrev pub caps_read : ConditionRead → ConditionRead
caps_read g = condition_read (caps_parse g.parse) g.tree

-- g is h with every name in capitals; the tree has no names
pub record InCapsRead (g h : ConditionRead) : Type 0 where
  pub eq : g ≡ caps_read h

abbrev pub NoCaseRead : (Parse → ConditionRead) → Type 0
NoCaseRead part = (r : Parse) → InCapsRead (part (caps_parse r)) (part r)

both_read : {x y : Parse} {c d : Condition} → InCaps x y → c ≡ d → InCapsRead (condition_read x c) (condition_read y d)
both_read t e = record { eq = λ j. condition_read (t.eq j) (e j) }

-- a part with a tree, after what went before
infixl 10 ◌▹▹◌
pub ◌▹▹◌ : {part : Parse → ConditionRead} {x y : Parse} → InCaps x y → NoCaseRead part → InCapsRead (part x) (part y)
◌▹▹◌ {part} {x} {y} t h = record { eq = ap part t.eq ∙ (h y).eq }

instead_read : {g i h : ConditionRead} → g ≡ i → InCapsRead i h → InCapsRead g h
instead_read e t = record { eq = e ∙ t.eq }

either_read : (k : ℕ) (r : Parse) {g h p q : ConditionRead} → InCapsRead g h → InCapsRead p q
    → InCapsRead (if is k (caps_parse r) then g else p) (if is k r then h else q)
either_read k r {g} {h} {p} {q} s t = instead_read (ap (λ (b : Bool). if b then g else p) (is_same k r)) (go (is k r))
  where
    go : (b : Bool) → InCapsRead (if b then g else p) (if b then h else q)
    go true = s
    go false = t

negated : {g h : ConditionRead} → InCapsRead g h → InCapsRead (negated_read g) (negated_read h)
negated t = record { eq = ap negated_read t.eq }

word_caps : NoCase word
unfolding word
word_caps r = go (ltb r.words word_limit)
  where
    go : (b : Bool) → InCaps (if b then counted (caps_parse r) else refuse 6 (caps_parse r)) (if b then counted r else refuse 6 r)
    go true = record { eq = λ j. parse_of (rest_caps r.rest j) r.why r.place (in_capitals r.block) (r.words + 1) }
    go false = refuse_caps 6 r

-- INPUT IS [NOT] TERM
condition_term_caps : (i : ℕ) → NoCaseRead (condition_term i)
unfolding condition_term
condition_term_caps i r =
    let v = text (caps_parse r) in
    let e = text_case r in
    let b = r.block in
    both_read (judge (a_name_lem (λ n. check (is_term_lem v (text r) e i b) (λ l. passed (advance_caps r)))))
    (λ j. term (input_first_lem i b j + term_of_lem v (text r) e i b j))

term_or_not_caps : (i : ℕ) → NoCaseRead (term_or_not i)
unfolding term_or_not
term_or_not_caps i r = either_read NOT r (negated (word_caps r ▹▹ condition_term_caps i)) (condition_term_caps i r)

subcondition_caps : NoCaseRead subcondition
unfolding subcondition
subcondition_caps r =
    instead_read (ap (λ (i : ℕ). term_or_not i (expect IS (named (caps_parse r)))) (input_of_lem v (text r) e b))
    (named_caps ▹ expect_caps IS ▹▹ term_or_not_caps (input_of (text r) b))
  where
    v : List ℕ
    v = text (caps_parse r)

    b : Block
    b = r.block

    e : capitals v ≡ capitals (text r)
    e = text_case r

    named : Part
    named q = judged (a_name q ((is_input (text q) q.block, 5) ∷ [])) q (word q)

    named_caps : InCaps (named (caps_parse r)) (named r)
    named_caps = judge (a_name_lem (λ n. check (is_input_lem v (text r) e b) (λ l. passed (word_caps r))))

-- CHAINS
module _ (part : Parse → ConditionRead) (h : NoCaseRead part) (k : ℕ) (o : Op) where
  joined_caps : (g : ConditionRead) → joined part o (caps_read g) ≡ caps_read (joined part o g)
  joined_caps g =
      let t : InCapsRead (part (word (caps_parse g.parse))) (part (word g.parse)) = word_caps g.parse ▹▹ h in
      ap (λ (x : ConditionRead). condition_read x.parse (two o g.tree x.tree)) t.eq

  chain_on_caps : (n : ℕ) (g : ConditionRead) → InCapsRead (chain_on n part k o (caps_read g)) (chain_on n part k o g)
  unfolding chain_on
  chain_on_caps zero g = record { eq = refl }
  chain_on_caps (suc n) g = go (is k g.parse) refl (chain_on_caps n (joined part o g))
    where
      go : (b : Bool) → is k g.parse ≡ b → InCapsRead (chain_on n part k o (caps_read (joined part o g))) (chain_on n part k o (joined part o g))
          → InCapsRead (chain_on (suc n) part k o (caps_read g)) (chain_on (suc n) part k o g)
      go true e ih =
          record {
            eq =
                join k part o n (caps_read g) (is_same k g.parse ∙ e) ∙ ap (chain_on n part k o) (joined_caps g)
                ∙ ih.eq ∙ sym (ap caps_read (join k part o n g e));
          }
      go false e ih =
          record { eq = no_join k part o (suc n) (caps_read g) (is_same k g.parse ∙ e) ∙ sym (ap caps_read (no_join k part o (suc n) g e)) }

  chain_caps : NoCaseRead (chain part k o)
  unfolding chain
  chain_caps r =
      let n = length r.rest in
      instead_read
      (ap (λ (m : ℕ). chain_on (suc m) part k o (part (caps_parse r))) (length-map r.rest caps_token) ∙ ap (chain_on (suc n) part k o) (h r).eq)
      (chain_on_caps (suc n) (part r))

-- CONDITIONS
module _ (inner : Parse → ConditionRead) (h : NoCaseRead inner) where
  plain_caps : NoCaseRead (plain inner)
  unfolding plain
  plain_caps r = either_read OPEN r (h r) (subcondition_caps r)

  operand_caps : NoCaseRead (operand inner)
  unfolding operand
  operand_caps r = either_read NOT r (negated (word_caps r ▹▹ plain_caps)) (plain_caps r)

  condition_with_caps : NoCaseRead (condition_with inner)
  unfolding condition_with
  condition_with_caps = chain_caps (chain (operand inner) AND and) (chain_caps (operand inner) operand_caps AND and) OR or

closed_caps : {g h : ConditionRead} → InCapsRead g h → InCapsRead (closed g) (closed h)
closed_caps {g} {h} t = instead_read (ap closed t.eq) (both_read (expect_caps CLOSE h.parse) refl)

parenthesis_caps : (d : ℕ) → NoCaseRead (parenthesis d)
unfolding parenthesis
parenthesis_caps zero r = both_read (refuse_caps 6 r) refl
parenthesis_caps (suc d) r = closed_caps (advance_caps r ▹▹ condition_with_caps (parenthesis d) (parenthesis_caps d))

pub condition_caps : NoCaseRead condition
unfolding condition
condition_caps = condition_with_caps (parenthesis depth_limit) (parenthesis_caps depth_limit)
