-- The walk over the rules passes exactly where their tables are right and the rules good.
use mathlib.Core.Path.{◌≡◌, refl, sym, ap, ◌∙◌}
use mathlib.Core.List.{map}
use mathlib.Core.Bool.{Bool, true}
use Prim.Native.Nat.{ℕ, zero, suc, ◌+◌, ◌*◌}
use native.Mathlib.Omega.{arith}
use borrow.Author.Tests.{eq-eqb, eqb-true, le-leb}
use lib.Dec.{leb, eqb}
use lib.ListN.{length}
use Rattle.model.specs.Basic.{all, same, between, distinct, tab}
use Rattle.model.specs.Bounds.{rule_limit, word_limit, conclusion_limit}
use Rattle.model.specs.Block.{Rule, size}
use Rattle.model.specs.WellFormed.{rule_ok}
use Rattle.model.specs.Image.{postfix, conclusion_at, rule_at, decode, CONCLUSIONS, RULE_TABLE, RULES, WORD_TABLE, WORDS}
use Rattle.laws.proofs.Conditions.{length_postfix}
use Rattle.laws.proofs.Lists.{map_tab}
use Rattle.laws.proofs.Tests.{both, and_i, passed, pass, iff}
use Rattle.laws.proofs.Places.{length_tab, same_eq}
use Rattle.layout.specs.Rows.{rows_ok}
use Rattle.layout.specs.Tables.{rule_row, rule_next, sums, word_count, conclusion_count, words_in, conclusions_in, rule_rows, condition_exact, condition_rows}
use Rattle.layout.specs.Groups.{rules_ok}
use Rattle.layout.proofs.RowLaws.{stood}
use Rattle.layout.proofs.Parts.{word_first, conclusion_first, rule_words_row, rule_conclusions_row}
use Rattle.layout.proofs.Whole.{rules_count, words_count, conclusions_count}
use Rattle.rule_numbers.specs.Numbers.{rule_number}
use Rattle.rule_rows.specs.Rows.{rule_stored, row_stored}
use Rattle.stored_rules.specs.Walk.{rules_walk, rules_stored}

module _ (w : ℕ → ℕ) where
  -- A ROW
  exact_size : (i : ℕ) → condition_exact w i ≡ true → size (rule_at w i).condition ≡ word_count w i
  unfolding condition_exact
  exact_size i h =
      let c = (rule_at w i).condition in
      let f : ℕ → ℕ = λ k. w (w WORD_TABLE + k) in
      sym (length_postfix c) ∙ ap length (sym (same_eq (tab f (word_count w i) (word_first w i)) (postfix c) h)) ∙ length_tab f (word_count w i) (word_first w i)

  conclusions_size : (i : ℕ) → length (rule_at w i).conclusions ≡ conclusion_count w i
  unfolding rule_at
  conclusions_size i = length_tab (conclusion_at w) (conclusion_count w i) (conclusion_first w i)

  row_stands : (i n k : ℕ) → condition_exact w i ≡ true → word_first w i ≡ n → conclusion_first w i ≡ k
      → same (tab w 6 (w RULE_TABLE + i * 6)) (rule_row (n, k) (rule_at w i)) ≡ true
  unfolding rule_at
  row_stands i n k x e f =
      let o = w RULE_TABLE + i * 6 in
      stood w o 6 (rule_row (n, k) (rule_at w i)) refl (
        refl,
        (
          ap w (omega arith) ∙ e,
          (
            ap w (omega arith) ∙ sym (exact_size i x),
            (ap w (omega arith) ∙ f, (ap w (omega arith) ∙ sym (conclusions_size i), (ap w (omega arith), tt))),
          ),
        ),
      )

  next_are : (i n k : ℕ) → condition_exact w i ≡ true → rule_next (n, k) (rule_at w i) ≡ (n + word_count w i, k + conclusion_count w i)
  next_are i n k x = λ j. (n + exact_size i x j, k + conclusions_size i j)

  abbrev rows : ℕ → ℕ → ℕ × ℕ → Bool
  rows r i σ = rows_ok rule_row rule_next (rule_at w) w (w RULE_TABLE) 6 r i σ

  numbers_are : map (λ (r : Rule). r.number) (decode w).rules ≡ tab (rule_number w) (w RULES) 0
  unfolding decode rule_at
  numbers_are = map_tab (λ (r : Rule). r.number) (rule_at w) (w RULES) 0

  -- THE WALK
  -- r rules from the i-th on, after n condition words and k conclusions
  record Walked (r i n k : ℕ) : Type 0 where
    pub table : rows r i (n, k) ≡ true
    pub exact : all (condition_exact w) (tab (λ j. j) r i) ≡ true
    pub good : all (rule_ok (decode w)) (tab (rule_at w) r i) ≡ true
    pub words : n + sums (word_count w) r i ≡ w WORDS
    pub conclusions' : k + sums (conclusion_count w) r i ≡ w CONCLUSIONS

  walk_in : (r i n k : ℕ) → rules_walk w r i n k ≡ true → Walked r i n k
  unfolding rules_walk row_stored rule_stored rows_ok all tab sums
  walk_in zero i n k h =
      let b = both (eqb n (w WORDS)) (eqb k (w CONCLUSIONS)) h in
      let en = eqb-true n (w WORDS) b.0 in
      let ek = eqb-true k (w CONCLUSIONS) b.1 in
      record { table = refl; exact = refl; good = refl; words = omega arith; conclusions' = omega arith }
  walk_in (suc r) i n k h =
      let b = both (row_stored w i n k) (rules_walk w r (suc i) (n + word_count w i) (k + conclusion_count w i)) h in
      let s = passed _ b.0 in
      let c = both (condition_exact w i) (rule_ok (decode w) (rule_at w i)) s.1.1.1.1.0 in
      let z = walk_in r (suc i) (n + word_count w i) (k + conclusion_count w i) b.1 in
      record {
        table = and_i _ _ (row_stands i n k c.0 (eqb-true _ _ s.0) (eqb-true _ _ s.1.0)) (ap (rows r (suc i)) (next_are i n k c.0) ∙ z.table);
        exact = and_i _ _ c.0 z.exact;
        good = and_i _ _ c.1 z.good;
        words = omega (arith, z.words);
        conclusions' = omega (arith, z.conclusions');
      }

  walk_out : (r i n k : ℕ) → Walked r i n k → rules_walk w r i n k ≡ true
  unfolding rules_walk row_stored rule_stored rows_ok all tab sums
  walk_out zero i n k z = and_i _ _ (eq-eqb n (w WORDS) (omega (arith, z.words))) (eq-eqb k (w CONCLUSIONS) (omega (arith, z.conclusions')))
  walk_out (suc r) i n k z =
      let t = both (same (tab w 6 (w RULE_TABLE + i * 6)) (rule_row (n, k) (rule_at w i))) (rows r (suc i) (rule_next (n, k) (rule_at w i))) z.table in
      let x = both (condition_exact w i) (all (condition_exact w) (tab (λ j. j) r (suc i))) z.exact in
      let g = both (rule_ok (decode w) (rule_at w i)) (all (rule_ok (decode w)) (tab (rule_at w) r (suc i))) z.good in
      let within = le-leb (n + word_count w i) (w WORDS) (omega (arith, z.words)) in
      let within' = le-leb (k + conclusion_count w i) (w CONCLUSIONS) (omega (arith, z.conclusions')) in
      and_i _ _
      (pass _ (
        eq-eqb _ _ (rule_words_row w i (n, k) t.0).0,
        (eq-eqb _ _ (rule_conclusions_row w i (n, k) t.0).0, (within, (within', (and_i _ _ x.0 g.0, tt)))),
      ))
      (walk_out r (suc i) (n + word_count w i) (k + conclusion_count w i) (record {
        table = ap (rows r (suc i)) (sym (next_are i n k x.0)) ∙ t.1;
        exact = x.1;
        good = g.1;
        words = omega (arith, z.words);
        conclusions' = omega (arith, z.conclusions');
      }))

  -- THE WHOLE
  to : rules_ok w ≡ true → rules_stored w ≡ true
  unfolding rules_stored rules_ok rule_rows condition_rows decode
  to h =
      let s = passed _ h in
      let q = s.1.1.1.1 in
      let n : w WORDS ≡ words_in w = eqb-true _ _ s.1.1.0 in
      let k : w CONCLUSIONS ≡ conclusions_in w = eqb-true _ _ s.1.1.1.0 in
      let z : Walked (w RULES) 0 0 0 = record { table = s.0; exact = s.1.0; good = q.1.0; words = omega (arith, n); conclusions' = omega (arith, k) } in
      let a : leb (w WORDS) word_limit ≡ true = ap (λ (x : ℕ). leb x word_limit) (n ∙ sym (words_count w s.0 s.1.0)) ∙ q.1.1.1.0 in
      let b : leb (w CONCLUSIONS) conclusion_limit ≡ true = ap (λ (x : ℕ). leb x conclusion_limit) (k ∙ sym (conclusions_count w s.0)) ∙ q.1.1.1.1.0 in
      pass _ (
        ap (between 1 rule_limit) (sym (rules_count w)) ∙ q.0,
        (a, (b, (walk_out (w RULES) 0 0 0 z, (ap (distinct eqb) (sym numbers_are) ∙ q.1.1.0, tt)))),
      )

  from : rules_stored w ≡ true → rules_ok w ≡ true
  unfolding rules_stored rules_ok rule_rows condition_rows decode
  from h =
      let s = passed _ h in
      let z = walk_in (w RULES) 0 0 0 s.1.1.1.0 in
      let n : w WORDS ≡ words_in w = omega (arith, z.words) in
      let k : w CONCLUSIONS ≡ conclusions_in w = omega (arith, z.conclusions') in
      pass _ (
        z.table,
        (
          z.exact,
          (
            eq-eqb _ _ n,
            (
              eq-eqb _ _ k,
              (
                ap (between 1 rule_limit) (rules_count w) ∙ s.0,
                (
                  z.good,
                  (
                    ap (distinct eqb) numbers_are ∙ s.1.1.1.1.0,
                    (
                      ap (λ (x : ℕ). leb x word_limit) (words_count w z.table z.exact ∙ sym n) ∙ s.1.0,
                      (ap (λ (x : ℕ). leb x conclusion_limit) (conclusions_count w z.table ∙ sym k) ∙ s.1.1.0, tt),
                    ),
                  ),
                ),
              ),
            ),
          ),
        ),
      )

  pub rules_spelt : rules_stored w ≡ rules_ok w
  rules_spelt = iff (rules_stored w) (rules_ok w) from to
