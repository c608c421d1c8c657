-- Heights conclusion by conclusion and rule by rule: they end at the block's, and each step changes one entry of an array.
use Rattle.std.specs.Prelude.{if◌then◌else◌}
use mathlib.Core.Path.{◌≡◌, refl, sym, ap, ◌∙◌}
use mathlib.Core.List.{List, [], ◌∷◌, ◌++◌}
use mathlib.Core.Bool.{Bool, true, false}
use Prim.Native.Nat.{ℕ, zero, suc, ◌+◌, ◌-◌, ◌≤◌, ◌<◌}
use native.Mathlib.Omega.{arith}
use borrow.Author.Tests.{eqb-true, eqb-false}
use lib.Dec.{eqb}
use lib.ListN.{length, get_or, set}
use lib.Seq.{get_or-set_same, get_or-set_other}
use Rattle.model.specs.Basic.{gather, tab}
use Rattle.model.specs.declared.Accumulation.{Accumulation}
use Rattle.model.specs.Block.{Conclusion, Rule, Block}
use Rattle.model.specs.Evaluation.{rule_degree, accumulated, accumulate_all, subconclusions, height}
use Rattle.model.specs.Image.{accu_of, decode, rule_at, RULES, ACCU_WORD}
use Rattle.accumulation.specs.Heights.{after_conclusions}

-- THE BLOCK'S HEIGHT
abbrev given : ℕ → ℕ → List Conclusion → List ℕ
given t d ks = gather (λ k. if eqb k.term t then d ∷ [] else []) ks

accumulate_append : (a : Accumulation) (h : ℕ) (xs ys : List ℕ) → accumulate_all a h (xs ++ ys) ≡ accumulate_all a (accumulate_all a h xs) ys
unfolding accumulate_all
accumulate_append a h [] ys = refl
accumulate_append a h (x ∷ xs) ys = accumulate_append a (accumulated a h x) xs ys

conclusions_give : (a : Accumulation) (d t : ℕ) (ks : List Conclusion) (h : ℕ) → accumulate_all a h (given t d ks) ≡ after_conclusions a d t ks h
unfolding accumulate_all after_conclusions gather
conclusions_give a d t [] h = refl
conclusions_give a d t (k ∷ ks) h = go (eqb k.term t) ∙ conclusions_give a d t ks (if eqb k.term t then accumulated a h d else h)
  where
    go : (b : Bool) → accumulate_all a h ((if b then d ∷ [] else []) ++ given t d ks) ≡ accumulate_all a (if b then accumulated a h d else h) (given t d ks)
    go true = refl
    go false = refl

-- after k rules of f from the i-th on, whose degrees are d
unfoldable pub after_rules : Accumulation → (ℕ → ℕ) → (ℕ → Rule) → ℕ → ℕ → ℕ → ℕ → ℕ
after_rules a d f t zero i h = h
after_rules a d f t (suc k) i h = after_rules a d f t k (suc i) (after_conclusions a (d i) t (f i).conclusions h)

module _ (b : Block) (ds : List ℕ) (t : ℕ) (f : ℕ → Rule) (d : ℕ → ℕ) where
  rules_give : (k i h : ℕ) → ((j : ℕ) → j < i + k → d j ≡ rule_degree b ds (f j))
      → accumulate_all b.accu h (gather (λ r. given t (rule_degree b ds r) r.conclusions) (tab f k i)) ≡ after_rules b.accu d f t k i h
  unfolding accumulate_all after_rules gather tab
  rules_give zero i h e = refl
  rules_give (suc k) i h e =
      let ks = (f i).conclusions in
      let rest = gather (λ r. given t (rule_degree b ds r) r.conclusions) (tab f k (suc i)) in
      let own = conclusions_give b.accu (rule_degree b ds (f i)) t ks h ∙ ap (λ (x : ℕ). after_conclusions b.accu x t ks h) (sym (e i (omega arith))) in
      accumulate_append b.accu h (given t (rule_degree b ds (f i)) ks) rest
      ∙ ap (λ (x : ℕ). accumulate_all b.accu x rest) own
      ∙ rules_give k (suc i) (after_conclusions b.accu (d i) t ks h) (λ j l. e j (omega arith))

pub height_is : (w : ℕ → ℕ) (ds : List ℕ) (t : ℕ) (a : Accumulation) (d : ℕ → ℕ) (n : ℕ) → a ≡ accu_of (w ACCU_WORD) → n ≡ w RULES
    → ((j : ℕ) → j < n → d j ≡ rule_degree (decode w) ds (rule_at w j)) → after_rules a d (rule_at w) t n 0 0 ≡ height (decode w) ds t
unfolding height subconclusions decode
height_is w ds t a d n ea en e =
    let given_so = rules_give (decode w) ds t (rule_at w) d (w RULES) 0 0 (λ j l. e j (omega (arith, en))) in
    rw (ea, en) (sym given_so)

-- WHAT IS LEFT FROM j UP TO e
module _ (a : Accumulation) (d : ℕ) (f : ℕ → Conclusion) (e j : ℕ) (t h : ℕ) where
  conclusions_turn : j < e → after_conclusions a d t (tab f (e - j) j) h
      ≡ after_conclusions a d t (tab f (e - (j + 1)) (j + 1)) (if eqb (f j).term t then accumulated a h d else h)
  unfolding after_conclusions tab
  conclusions_turn l =
      let k : j + 1 ≡ suc j = omega arith in
      let q : e - j ≡ suc (e - (j + 1)) = omega arith in
      rw (q, k) refl

  pub conclusions_end : e ≤ j → after_conclusions a d t (tab f (e - j) j) h ≡ h
  unfolding after_conclusions tab
  conclusions_end l = let q : e - j ≡ 0 = omega arith in rw q refl

pub conclusions_start : (a : Accumulation) (d : ℕ) (f : ℕ → Conclusion) (s n : ℕ) (t h : ℕ)
    → after_conclusions a d t (tab f (s + n - s) s) h ≡ after_conclusions a d t (tab f n s) h
conclusions_start a d f s n t h = let q : s + n - s ≡ n = omega arith in rw q refl

module _ (a : Accumulation) (d : ℕ → ℕ) (f : ℕ → Rule) (n i : ℕ) (t h : ℕ) where
  pub rule_turn : (x h' : ℕ) → i < n → x ≡ d i → h' ≡ after_conclusions a x t (f i).conclusions h
      → after_rules a d f t (n - (i + 1)) (i + 1) h' ≡ after_rules a d f t (n - i) i h
  unfolding after_rules
  rule_turn x h' l e q =
      let k : i + 1 ≡ suc i = omega arith in
      let g : n - i ≡ suc (n - (i + 1)) = omega arith in
      rw (q, e, g, k) refl

  pub rules_start : h ≡ 0 → after_rules a d f t (n - 0) 0 h ≡ after_rules a d f t n 0 0
  rules_start z = let e : n - 0 ≡ n = omega arith in rw (e, z) refl

  pub rules_end : n ≤ i → after_rules a d f t (n - i) i h ≡ h
  unfolding after_rules
  rules_end l = let e : n - i ≡ 0 = omega arith in rw e refl

-- a conclusion changes only its own term's height
one_changed : (a : Accumulation) (d : ℕ) (l : List ℕ) (m t p v : ℕ) → m ≤ t → t < m + length l → v ≡ accumulated a (get_or l (t - m) 0) d
    → get_or (set l (t - m) v) p 0 ≡ (if eqb t (m + p) then accumulated a (get_or l p 0) d else get_or l p 0)
one_changed a d l m t p v lo hi e = go (eqb t (m + p)) refl
  where
    go : (b : Bool) → eqb t (m + p) ≡ b → get_or (set l (t - m) v) p 0 ≡ (if b then accumulated a (get_or l p 0) d else get_or l p 0)
    go true q =
        let s : t - m ≡ p = omega (arith, eqb-true t (m + p) q) in
        let k : p < length l = omega (arith, eqb-true t (m + p) q) in
        ap (λ (x : ℕ). get_or (set l x v) p 0) s ∙ get_or-set_same l p v 0 k ∙ e ∙ ap (λ (x : ℕ). accumulated a (get_or l x 0) d) s
    go false q = get_or-set_other l (t - m) p v 0 (λ s. eqb-false t (m + p) q (omega arith))

module _ (a : Accumulation) (d : ℕ) (f : ℕ → Conclusion) (e j m : ℕ) (l l' : List ℕ) (t v : ℕ) where
  pub conclusion_turn : j < e → t ≡ (f j).term → m ≤ t → t < m + length l → v ≡ accumulated a (get_or l (t - m) 0) d → l' ≡ set l (t - m) v
      → (p : ℕ) → after_conclusions a d (m + p) (tab f (e - (j + 1)) (j + 1)) (get_or l' p 0) ≡ after_conclusions a d (m + p) (tab f (e - j) j) (get_or l p 0)
  conclusion_turn h et lo hi q el p =
      let g = get_or l p 0 in
      let after : ℕ → ℕ = λ x. if eqb x (m + p) then accumulated a g d else g in
      let o = one_changed a d l m t p v lo hi q in
      let c : get_or l' p 0 ≡ after (f j).term = ap (λ (y : List ℕ). get_or y p 0) el ∙ o ∙ ap after et in
      ap (after_conclusions a d (m + p) (tab f (e - (j + 1)) (j + 1))) c ∙ sym (conclusions_turn a d f e j (m + p) g h)
