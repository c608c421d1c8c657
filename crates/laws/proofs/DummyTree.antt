-- The tree that `parenthesis` answers where no more parentheses may be open is never used: that reading is refused, and with any other
-- tree in its place every rule is read the same.
use Rattle.std.specs.Prelude.{if◌then◌else◌}
use mathlib.Core.Path.{◌≡◌, refl, sym, ap, ◌∙◌, subst}
use mathlib.Core.Bool.{Bool, true, false}
use Prim.Native.Nat.{ℕ, zero, suc}
use native.Mathlib.Omega.{arith}
use borrow.Author.Tests.{eqb-true, eqb-false}
use lib.Dec.{eqb}
use lib.ListN.{length}
use Rattle.model.specs.Basic.{◌▸◌}
use Rattle.model.specs.Bounds.{depth_limit}
use Rattle.model.specs.Block.{Block, Op, and, or, Condition, neg, two}
use Rattle.model.specs.Keywords.{OPEN, CLOSE, COLON, SEMICOLON, AND, IF, NOT, OR, THEN}
use Rattle.model.specs.Tokens.{decimal}
use Rattle.model.specs.Parse.{Parse, Part, text, is, refuse, advance, change, expect, listed}
use Rattle.model.specs.Rules.{ConditionRead, condition_read, word, negated_read, subcondition, chain_on, chain, plain, operand, condition_with, closed, parenthesis, condition, add_rule, rule_number, conclusion, weighted, rule_given, rule_from}
use Rattle.laws.proofs.Walk.{Keeps, KeepsTree, keeps_expect, keeps_chain, keeps_operand, keeps_parenthesis}
use Rattle.laws.proofs.Refused.{Refused, refused_steps}
use Rattle.laws.proofs.Repetition.{joined, join, no_join}

-- one parenthesis too many is refused
pub dummy_refused : (r : Parse) → (parenthesis 0 r).parse.why ≡ 0 → ⊥
unfolding parenthesis refuse
dummy_refused r = go (eqb r.why 0) refl
  where
    go : (b : Bool) → eqb r.why 0 ≡ b → (parenthesis 0 r).parse.why ≡ 0 → ⊥
    go true e h = let q = rw e at h in omega arith
    go false e h = let q = rw e at h in eqb-false r.why 0 e q

-- the rules with another tree in its place
unfoldable pub parenthesis_or : Condition → ℕ → Parse → ConditionRead
parenthesis_or c zero r = condition_read (refuse 6 r) c
parenthesis_or c (suc d) r = closed (condition_with (parenthesis_or c d) (advance r))

unfoldable pub rule_from_or : Condition → Part
rule_from_or c r = rule_given (decimal (text r)) (r ▸ rule_number ▸ expect COLON ▸ expect IF ▸ condition_with (parenthesis_or c depth_limit))

-- two readings of a condition that differ at most in the tree, and only where they are refused
pub record Alike (g h : ConditionRead) : Type 0 where
  pub parse : g.parse ≡ h.parse
  pub tree : g.parse.why ≡ 0 → g.tree ≡ h.tree

abbrev Refuses : Part → Type 0
Refuses part = (n p : ℕ) (z : n ≡ 0 → ⊥) → Keeps (Refused n p) (refused_steps n p z) part

-- what is not refused after a part was not refused before it
before : (part : Part) → Refuses part → (r : Parse) → (part r).why ≡ 0 → r.why ≡ 0
before part f r h = go (eqb r.why 0) refl
  where
    go : (b : Bool) → eqb r.why 0 ≡ b → r.why ≡ 0
    go true e = eqb-true r.why 0 e
    go false e = sym (f r.why r.place (eqb-false r.why 0 e) r (record { why = refl; place = refl })).why ∙ h

alike_refl : (g : ConditionRead) → Alike g g
alike_refl g = record { parse = refl; tree = λ w. refl }

alike_neg : (g h : ConditionRead) → Alike g h → Alike (negated_read g) (negated_read h)
alike_neg g h a = record { parse = a.parse; tree = λ w. ap neg (a.tree w) }

via : {g g' h h' : ConditionRead} → g ≡ g' → h ≡ h' → Alike g' h' → Alike g h
via {g} {g'} {h} {h'} i j a = subst (λ (x : ConditionRead). Alike x h) (sym i) (subst (λ (x : ConditionRead). Alike g' x) (sym j) a)

either : (b : Bool) (g g' h h' : ConditionRead) → Alike g g' → Alike h h' → Alike (if b then g else h) (if b then g' else h')
either true g g' h h' a c = a
either false g g' h h' a c = c

module _ (k : ℕ) (o : Op) (part part' : Parse → ConditionRead) (f : Refuses (λ r. (part r).parse)) (a : (r : Parse) → Alike (part r) (part' r)) where
  joined_alike : (g h : ConditionRead) → Alike g h → Alike (joined part o g) (joined part' o h)
  joined_alike g h b =
      let q = a (word g.parse) in
      record {
        parse = q.parse ∙ ap (λ (x : Parse). (part' (word x)).parse) b.parse;
        tree = λ w.
            let v = before word (λ n p z. (refused_steps n p z).worded) g.parse (before (λ r. (part r).parse) f (word g.parse) w) in
            let t = q.tree w ∙ ap (λ (x : Parse). (part' (word x)).tree) b.parse in
            λ j. two o (b.tree v j) (t j);
      }

  chain_on_alike : (n : ℕ) (g h : ConditionRead) → Alike g h → Alike (chain_on n part k o g) (chain_on n part' k o h)
  unfolding chain_on
  chain_on_alike zero g h b = b
  chain_on_alike (suc n) g h b = go (is k g.parse) refl (chain_on_alike n (joined part o g) (joined part' o h) (joined_alike g h b))
    where
      go : (t : Bool) → is k g.parse ≡ t → Alike (chain_on n part k o (joined part o g)) (chain_on n part' k o (joined part' o h))
          → Alike (chain_on (suc n) part k o g) (chain_on (suc n) part' k o h)
      go true e c =
          let i = join k part o n g e in
          let j = join k part' o n h (sym (ap (is k) b.parse) ∙ e) in
          via i j c
      go false e c =
          let i = no_join k part o (suc n) g e in
          let j = no_join k part' o (suc n) h (sym (ap (is k) b.parse) ∙ e) in
          via i j b

  chain_alike : (r : Parse) → Alike (chain part k o r) (chain part' k o r)
  unfolding chain
  chain_alike r = chain_on_alike (suc (length r.rest)) (part r) (part' r) (a r)

module _ (inner inner' : Parse → ConditionRead) (f : Refuses (λ r. (inner r).parse)) (a : (r : Parse) → Alike (inner r) (inner' r)) where
  operand_alike : (r : Parse) → Alike (operand inner r) (operand inner' r)
  unfolding operand plain
  operand_alike r =
      let b : (q : Parse) → Alike (plain inner q) (plain inner' q) = λ q. either (is OPEN q) _ _ _ _ (a q) (alike_refl (subcondition q)) in
      either (is NOT r) _ _ _ _ (alike_neg _ _ (b (word r))) (b r)

  condition_with_alike : (r : Parse) → Alike (condition_with inner r) (condition_with inner' r)
  unfolding condition_with
  condition_with_alike =
      let g : (n p : ℕ) (z : n ≡ 0 → ⊥) → KeepsTree (Refused n p) (refused_steps n p z) (operand inner) =
      λ n p z. keeps_operand (Refused n p) (refused_steps n p z) inner (f n p z) in
      chain_alike OR or _ _ (λ n p z. keeps_chain (Refused n p) (refused_steps n p z) _ (g n p z) AND and)
      (chain_alike AND and _ _ g operand_alike)

parenthesis_refuses : (d : ℕ) → Refuses (λ r. (parenthesis d r).parse)
parenthesis_refuses d n p z = keeps_parenthesis (Refused n p) (refused_steps n p z) d

parenthesis_alike : (c : Condition) (d : ℕ) (r : Parse) → Alike (parenthesis d r) (parenthesis_or c d r)
unfolding parenthesis parenthesis_or
parenthesis_alike c zero r = record { parse = refl; tree = λ w. absurd (dummy_refused r w) }
parenthesis_alike c (suc d) r =
    let a = condition_with_alike (parenthesis d) (parenthesis_or c d) (parenthesis_refuses d) (parenthesis_alike c d) (advance r) in
    record {
      parse = ap (expect CLOSE) a.parse;
      tree = λ w. a.tree (before (expect CLOSE) (λ n p z. keeps_expect (Refused n p) (refused_steps n p z) CLOSE) _ w);
    }

condition_alike : (c : Condition) (r : Parse) → Alike (condition r) (condition_with (parenthesis_or c depth_limit) r)
unfolding condition
condition_alike c =
    condition_with_alike (parenthesis depth_limit) (parenthesis_or c depth_limit) (parenthesis_refuses depth_limit) (parenthesis_alike c depth_limit)

unchanged : (f : Block → Block) (r : Parse) → eqb r.why 0 ≡ false → change f r ≡ r
unfolding change
unchanged f r e = rw e refl

given_alike : (n : ℕ) (g h : ConditionRead) → Alike g h → rule_given n g ≡ rule_given n h
unfolding rule_given
given_alike n g h a = ap (λ (r : Parse). r ▸ expect THEN ▸ listed conclusion ▸ weighted ▸ expect SEMICOLON) (go (eqb g.parse.why 0) refl)
  where
    go : (b : Bool) → eqb g.parse.why 0 ≡ b → change (add_rule n g.tree) g.parse ≡ change (add_rule n h.tree) h.parse
    go true e = λ j. change (add_rule n (a.tree (eqb-true g.parse.why 0 e) j)) (a.parse j)
    go false e =
        let q = sym (ap (λ (r : Parse). eqb r.why 0) a.parse) ∙ e in
        unchanged _ g.parse e ∙ a.parse ∙ sym (unchanged _ h.parse q)

-- so no rule, and no block that is read, holds it
pub dummy_unused : (c : Condition) (r : Parse) → rule_from r ≡ rule_from_or c r
unfolding rule_from rule_from_or
dummy_unused c r = given_alike (decimal (text r)) _ _ (condition_alike c (r ▸ rule_number ▸ expect COLON ▸ expect IF))
