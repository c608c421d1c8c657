-- The tables of a well-formed block, read back from the words that it is laid out as.
use Rattle.std.specs.Prelude.{if◌then◌else◌}
use mathlib.Core.Path.{◌≡◌, refl, ap, ◌∙◌, subst}
use mathlib.Core.Bool.{true}
use mathlib.Core.List.{List, [], ◌∷◌, ◌++◌, map}
use mathlib.Core.Option.{Option, none, some}
use Prim.Native.Nat.{ℕ, zero, suc, ◌+◌, ◌*◌, ◌≤◌}
use native.Mathlib.Omega.{arith}
use native.Mathlib.Nat.{suc-mul}
use lib.Dec.{eqb}
use lib.IntN.{ℤ}
use lib.ListN.{length}
use Rattle.model.specs.Basic.{gather, tab}
use Rattle.model.specs.Bounds.{M}
use Rattle.model.specs.Block.{Point, Term, Singleton, Input, Range, Output, Conclusion, Rule, Block, input_terms, output_terms, conclusions, size}
use Rattle.model.specs.declared.InputType.{InputType}
use Rattle.model.specs.declared.InputType.TheVariants.{Real, Int}
use Rattle.model.specs.Tokens.{in_crisp}
use Rattle.model.specs.Image.{crisp_of, name_words, name_at, type_word, range_words, default_words, point_words, postfix, singleton_term, terms, points, conclusion_words, point_at, term_at, singleton_at, input_at, output_at, conclusion_at, tree_of, rule_at, CONCLUSION_TABLE, INPUT_TABLE, OUTPUT_TABLE, POINT_TABLE, RULE_TABLE, TERM_TABLE, WORD_TABLE}
use Rattle.laws.proofs.Conditions.{length_postfix}
use Rattle.laws.proofs.Places.{At, at_shift, at_cut, tab_at, tab_from}
use Rattle.layout.specs.Rows.{laid}
use Rattle.layout.specs.Tables.{input_row, input_next, output_row, output_next, term_row, term_next, rule_row, rule_next, alone, onward}
use Rattle.layout.proofs.TableLaws.{input_table_lem, output_table_lem, term_table_lem, rule_table_lem, gather_laid}
use Rattle.layout.proofs.Parts.{range_long, wide_input, wide_output, wide_term}
use Rattle.condition_words.proofs.Trees.{tree_at}
use Rattle.laws.proofs.Each.{Each}
use Rattle.image_laws.proofs.Fields.{Spelt, name_back, crisp_back}
use Rattle.image_laws.proofs.Placed.{Placed}

-- rows that are read back one by one, X being what is known of the rows that are left
module _ {R S : Type 0} (enc : S → R → List ℕ) (next : S → R → S) (dec : ℕ → R) (w : ℕ → ℕ) (o s : ℕ) (wide : (σ : S) (r : R) → length (enc σ r) ≡ s)
    (X : S → List R → Type 0)
    (row : (i : ℕ) (σ : S) (r : R) (rs : List R) → At w (o + i * s) (enc σ r) → X σ (r ∷ rs) → (dec i ≡ r) × X (next σ r) rs) where
  rows_from : (i : ℕ) (σ : S) (rs : List R) → At w (o + i * s) (laid enc next σ rs) → X σ rs → At dec i rs
  unfolding laid
  rows_from i σ [] a x = tt
  rows_from i σ (r ∷ rs) a x =
      let rest = laid enc next (next σ r) rs in
      let c = at_cut w (o + i * s) (enc σ r) rest a in
      let q = row i σ r rs c.0 x in
      let e : o + i * s + length (enc σ r) ≡ o + suc i * s = omega (arith, suc-mul i s, wide σ r) in
      (q.0, rows_from (suc i) (next σ r) rs (at_shift w (o + i * s + length (enc σ r)) (o + suc i * s) rest e c.1) q.1)

  rows_back : (σ : S) (rs : List R) (l : List ℕ) → l ≡ laid enc next σ rs → At w o l → X σ rs → At dec 0 rs
  rows_back σ rs l e a x =
      let z : o ≡ o + 0 * s = omega arith in
      rows_from 0 σ rs (at_shift w o (o + 0 * s) (laid enc next σ rs) z (subst (λ (m : List ℕ). At w o m) e a)) x

-- what is needed of the entries
abbrev pub FinePoint : Point → Type 0
FinePoint q = (in_crisp q.at ≡ true) × (q.degree ≤ M)

pub record FineOutput (v : Output) : Type 0 where
  pub name : Spelt v.name
  pub range : (g : Range) → v.range ≡ some g → (in_crisp g.least ≡ true) × (in_crisp g.most ≡ true)
  pub default : (x : ℤ) → v.default ≡ some x → in_crisp x ≡ true

pub record Fine (b : Block) : Type 0 where
  pub name : Spelt b.name
  pub rule_block : Spelt b.rule_block
  pub inputs : Each (λ v. Spelt v.name) b.inputs
  pub outputs : Each FineOutput b.outputs
  pub terms' : Each (λ t. Spelt t.name) (terms b)
  pub points' : Each FinePoint (points b)

module _ (w : ℕ → ℕ) (b : Block) (f : Fine b) (p : Placed w b) where
  -- a word further on in a row
  on : (o k m : ℕ) → o + k ≡ m → w (o + k) ≡ w m
  on o k m e = ap w e

  points_back : At (point_at w) 0 (points b)
  unfolding point_at
  points_back =
      rows_back (alone point_words) onward (point_at w) w (w POINT_TABLE) 2 (λ σ q. refl) (λ σ ps. Each FinePoint ps) row
      tt (points b) _ (gather_laid point_words (points b)) p.points_at f.points'
    where
      row : (i : ℕ) (σ : Unit {0}) (q : Point) (qs : List Point) → At w (w POINT_TABLE + i * 2) (point_words q) → Each FinePoint (q ∷ qs)
          → (point_at w i ≡ q) × Each FinePoint qs
      row i σ q qs a x =
          let o = w POINT_TABLE + i * 2 in
          let ea : crisp_of (w o) ≡ q.at = ap crisp_of a.0 ∙ crisp_back q.at x.0.0 in
          let ed : w (o + 1) ≡ q.degree = on o 1 (suc o) (omega arith) ∙ a.1.0 in
          ((λ j. record { at = ea j; degree = ed j }), x.1)

  -- n entries of g from i on, where n and i are words
  entries : {A : Type 0} (g : ℕ → A) (n i i' : ℕ) (xs : List A) → n ≡ length xs → i ≡ i' → At g i' xs → tab g n i ≡ xs
  entries g n i i' xs e d a = (λ j. tab g (e j) (d j)) ∙ tab_at g i' xs a

  terms_back : At (term_at w) 0 (terms b)
  unfolding term_at name_words gather
  terms_back =
      rows_back term_row term_next (term_at w) w (w TERM_TABLE) 6 wide_term X row
      0 (terms b) _ (term_table_lem 0 (terms b)) p.terms_at (f.terms', points_back)
    where
      X : ℕ → List Term → Type 0
      X n ts = Each (λ t. Spelt t.name) ts × At (point_at w) n (gather (λ t. t.points) ts)

      row : (i n : ℕ) (t : Term) (ts : List Term) → At w (w TERM_TABLE + i * 6) (term_row n t) → X n (t ∷ ts) → (term_at w i ≡ t) × X (n + length t.points) ts
      row i n t ts a x =
          let o = w TERM_TABLE + i * 6 in
          let c = at_cut w o (name_words t.name) (n ∷ length t.points ∷ []) a in
          let y = at_cut (point_at w) n t.points (gather (λ u. u.points) ts) x.1 in
          let en = name_back w o t.name x.0.0 c.0 in
          let ep = entries (point_at w) (w (o + 5)) (w (o + 4)) n t.points (on o 5 _ (omega arith) ∙ c.1.1.0) c.1.0 y.0 in
          ((λ j. record { name = en j; points = ep j }), (x.0.1, y.1))

  type_back : (t : InputType) → (if eqb (type_word t) 0 then Real else Int) ≡ t
  type_back Real = refl
  type_back Int = refl

  pub inputs_back : At (input_at w) 0 b.inputs
  unfolding input_at name_words gather
  inputs_back =
      let t = at_cut (term_at w) 0 (input_terms b) (map singleton_term (output_terms b)) terms_back in
      rows_back input_row input_next (input_at w) w (w INPUT_TABLE) 7 wide_input X row
      0 b.inputs _ (input_table_lem 0 b.inputs) p.inputs_at (f.inputs, t.0)
    where
      X : ℕ → List Input → Type 0
      X n vs = Each (λ v. Spelt v.name) vs × At (term_at w) n (gather (λ v. v.terms) vs)

      row : (i n : ℕ) (v : Input) (vs : List Input) → At w (w INPUT_TABLE + i * 7) (input_row n v) → X n (v ∷ vs) → (input_at w i ≡ v) × X (n + length v.terms) vs
      row i n v vs a x =
          let o = w INPUT_TABLE + i * 7 in
          let c = at_cut w o (name_words v.name) (type_word v.type ∷ n ∷ length v.terms ∷ []) a in
          let y = at_cut (term_at w) n v.terms (gather (λ u. u.terms) vs) x.1 in
          let en = name_back w o v.name x.0.0 c.0 in
          let ey = ap (λ (k : ℕ). if eqb k 0 then Real else Int) c.1.0 ∙ type_back v.type in
          let e5 = on o 5 _ (omega arith) ∙ c.1.1.0 in
          let e6 = on o 6 _ (omega arith) ∙ c.1.1.1.0 in
          let et = entries (term_at w) (w (o + 6)) (w (o + 5)) n v.terms e6 e5 y.0 in
          ((λ j. record { name = en j; type = ey j; terms = et j }), (x.0.1, y.1))

  -- a term of one point is the singleton that it was laid out for
  singleton_back : (i : ℕ) (s : Singleton) → term_at w i ≡ singleton_term s → singleton_at w i ≡ s
  unfolding term_at singleton_at tab
  singleton_back i s e =
      let en : name_at w (w TERM_TABLE + i * 6) ≡ s.name = ap (λ (t : Term). t.name) e in
      let ea = one (w (w TERM_TABLE + i * 6 + 5)) (w (w TERM_TABLE + i * 6 + 4)) (ap (λ (t : Term). t.points) e) in
      λ j. record { name = en j; at = (ea j).at }
    where
      one : (n k : ℕ) {q : Point} → tab (point_at w) n k ≡ q ∷ [] → point_at w k ≡ q
      one zero k h = let z : ◌≡◌ {A = ℕ} 0 1 = cc in absurd (omega arith)
      one (suc n) k h = cc

  singletons_from : (n : ℕ) (ss : List Singleton) → At (term_at w) n (map singleton_term ss) → At (singleton_at w) n ss
  singletons_from n [] a = tt
  singletons_from n (s ∷ ss) a = (singleton_back n s a.0, singletons_from (suc n) ss a.1)

  pub outputs_back : At (output_at w) 0 b.outputs
  unfolding output_at name_words gather
  outputs_back =
      let t = at_cut (term_at w) 0 (input_terms b) (map singleton_term (output_terms b)) terms_back in
      let n = length (input_terms b) in
      rows_back output_row output_next (output_at w) w (w OUTPUT_TABLE) 11 wide_output X row
      n b.outputs _ (output_table_lem b) p.outputs_at
      (f.outputs, singletons_from n (output_terms b) (at_shift (term_at w) (0 + n) n (map singleton_term (output_terms b)) (omega arith) t.1))
    where
      X : ℕ → List Output → Type 0
      X n vs = Each FineOutput vs × At (singleton_at w) n (gather (λ v. v.terms) vs)

      ranged : (o : ℕ) (g : Option Range) → ((x : Range) → g ≡ some x → (in_crisp x.least ≡ true) × (in_crisp x.most ≡ true)) → At w (o + 6) (range_words g)
          → (if eqb (w (o + 6)) 0 then none else some (record { least = crisp_of (w (o + 7)); most = crisp_of (w (o + 8)) })) ≡ g
      ranged o none h a = rw a.0 refl
      ranged o (some x) h a =
          let q = h x refl in
          let el : crisp_of (w (o + 7)) ≡ x.least = ap crisp_of (on o 7 _ (omega arith) ∙ a.1.0) ∙ crisp_back x.least q.0 in
          let em : crisp_of (w (o + 8)) ≡ x.most = ap crisp_of (on o 8 _ (omega arith) ∙ a.1.1.0) ∙ crisp_back x.most q.1 in
          rw a.0 (λ j. some (record { least = el j; most = em j }))

      absent : (o : ℕ) (d : Option ℤ) → ((x : ℤ) → d ≡ some x → in_crisp x ≡ true) → At w (o + 9) (default_words d)
          → (if eqb (w (o + 9)) 0 then none else some (crisp_of (w (o + 10)))) ≡ d
      absent o none h a = rw a.0 refl
      absent o (some x) h a =
          let ex : crisp_of (w (o + 10)) ≡ x = ap crisp_of (on o 10 _ (omega arith) ∙ a.1.0) ∙ crisp_back x (h x refl) in
          rw a.0 (λ j. some (ex j))

      row : (i n : ℕ) (v : Output) (vs : List Output) → At w (w OUTPUT_TABLE + i * 11) (output_row n v) → X n (v ∷ vs) → (output_at w i ≡ v) × X (n + length v.terms) vs
      row i n v vs a x =
          let o = w OUTPUT_TABLE + i * 11 in
          let c = at_cut w o (name_words v.name) (n ∷ length v.terms ∷ (range_words v.range ++ default_words v.default)) a in
          let d = at_cut w (suc (suc (o + 4))) (range_words v.range) (default_words v.default) c.1.1.1 in
          let z : suc (suc (o + 4)) + length (range_words v.range) ≡ o + 9 = omega (arith, range_long v.range) in
          let y = at_cut (singleton_at w) n v.terms (gather (λ u. u.terms) vs) x.1 in
          let en = name_back w o v.name x.0.0.name c.0 in
          let et = entries (singleton_at w) (w (o + 5)) (w (o + 4)) n v.terms (on o 5 _ (omega arith) ∙ c.1.1.0) c.1.0 y.0 in
          let eg = ranged o v.range x.0.0.range (at_shift w (suc (suc (o + 4))) (o + 6) (range_words v.range) (omega arith) d.0) in
          let ed = absent o v.default x.0.0.default (at_shift w _ (o + 9) (default_words v.default) z d.1) in
          ((λ j. record { name = en j; terms = et j; range = eg j; default = ed j }), (x.0.1, y.1))

  conclusions_back : At (conclusion_at w) 0 (conclusions b)
  unfolding conclusion_at
  conclusions_back =
      rows_back (alone conclusion_words) onward (conclusion_at w) w (w CONCLUSION_TABLE) 2 (λ σ k. refl) (λ σ ks. Unit {0}) row
      tt (conclusions b) _ (gather_laid conclusion_words (conclusions b)) p.conclusions_at tt
    where
      row : (i : ℕ) (σ : Unit {0}) (k : Conclusion) (ks : List Conclusion) → At w (w CONCLUSION_TABLE + i * 2) (conclusion_words k) → Unit {0}
          → (conclusion_at w i ≡ k) × Unit {0}
      row i σ k ks a x =
          let o = w CONCLUSION_TABLE + i * 2 in
          let et : w (o + 1) ≡ k.term = on o 1 (suc o) (omega arith) ∙ a.1.0 in
          ((λ j. record { output = a.0 j; term = et j }), tt)

  pub rules_back : At (rule_at w) 0 b.rules
  unfolding rule_at gather
  rules_back =
      rows_back rule_row rule_next (rule_at w) w (w RULE_TABLE) 6 (λ σ r. refl) X row
      (0, 0) b.rules _ (rule_table_lem 0 0 b.rules) p.rules_at
      (at_shift w (w WORD_TABLE) (w WORD_TABLE + 0) (gather (λ r. postfix r.condition) b.rules) (omega arith) p.words_at, conclusions_back)
    where
      X : ℕ × ℕ → List Rule → Type 0
      X σ rs = At w (w WORD_TABLE + σ.0) (gather (λ r. postfix r.condition) rs) × At (conclusion_at w) σ.1 (gather (λ r. r.conclusions) rs)

      row : (i : ℕ) (σ : ℕ × ℕ) (r : Rule) (rs : List Rule) → At w (w RULE_TABLE + i * 6) (rule_row σ r) → X σ (r ∷ rs) → (rule_at w i ≡ r) × X (rule_next σ r) rs
      row i σ r rs a x =
          let o = w RULE_TABLE + i * 6 in
          let c = r.condition in
          let rest = gather (λ q. postfix q.condition) rs in
          let u = at_cut w (w WORD_TABLE + σ.0) (postfix c) rest x.0 in
          let y = at_cut (conclusion_at w) σ.1 r.conclusions (gather (λ q. q.conclusions) rs) x.1 in
          let e1 : w (o + 1) ≡ σ.0 = on o 1 _ (omega arith) ∙ a.1.0 in
          let e2 : w (o + 2) ≡ size c = on o 2 _ (omega arith) ∙ a.1.1.0 in
          let ec : tree_of (tab (λ k. w (w WORD_TABLE + k)) (w (o + 2)) (w (o + 1))) ≡ c =
          (λ j. tree_of (tab (λ k. w (w WORD_TABLE + k)) (e2 j) (e1 j))) ∙ ap tree_of (tab_from w (w WORD_TABLE) (size c) σ.0) ∙ tree_at w (w WORD_TABLE + σ.0) c u.0 in
          let e3 = on o 3 _ (omega arith) ∙ a.1.1.1.0 in
          let e4 = on o 4 _ (omega arith) ∙ a.1.1.1.1.0 in
          let ek = entries (conclusion_at w) (w (o + 4)) (w (o + 3)) σ.1 r.conclusions e4 e3 y.0 in
          let ew : w (o + 5) ≡ r.weight = on o 5 _ (omega arith) ∙ a.1.1.1.1.1.0 in
          let z : w WORD_TABLE + σ.0 + length (postfix c) ≡ w WORD_TABLE + (σ.0 + size c) = omega (arith, length_postfix c) in (
            (λ j. record { number = a.0 j; condition = ec j; conclusions = ek j; weight = ew j }),
            (at_shift w (w WORD_TABLE + σ.0 + length (postfix c)) (w WORD_TABLE + (σ.0 + size c)) rest z u.1, y.1),
          )
