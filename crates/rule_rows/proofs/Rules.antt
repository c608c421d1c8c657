-- A rule and its row, by the tests of the code.
use mathlib.Core.Path.{◌≡◌, refl, sym, ◌∙◌}
use mathlib.Core.Bool.{true, ◌&&◌, not}
use Prim.Native.Nat.{ℕ, zero, suc, ◌+◌, ◌≤◌}
use native.Mathlib.Omega.{arith}
use borrow.Author.Tests.{le-leb, leb-true}
use lib.Dec.{leb}
use Rattle.model.specs.Basic.{all, is_empty, tab}
use Rattle.model.specs.WellFormed.{condition_ok, conclusion_ok, rule_ok}
use Rattle.model.specs.Image.{word_at, conclusion_at, rule_at, decode, CONCLUSIONS, WORD_TABLE, WORDS}
use Rattle.laws.proofs.Tests.{both, and_i, passed, pass, iff}
use Rattle.laws.proofs.Places.{tab_from}
use Rattle.condition_stack.specs.Stored.{is_condition, condition_stored}
use Rattle.layout.specs.Tables.{word_count, conclusion_count, input_terms_in, condition_exact}
use Rattle.layout.specs.Groups.{tables_ok}
use Rattle.layout.proofs.Parts.{word_first, conclusion_first}
use Rattle.layout.proofs.Within.{inputs_first}
use Rattle.layout.specs.declared.Laid.{Laid}
use Rattle.layout.proofs.Sound.{input_terms_lem}
use Rattle.rule_rows.specs.Rows.{rule_stored, rule_tests, row_stored}

some_are : {A : Type 0} (f : ℕ → A) (n i : ℕ) → not (is_empty (tab f n i)) ≡ leb 1 n
unfolding tab
some_are f zero i = refl
some_are f (suc n) i = sym (le-leb 1 (suc n) (omega arith))

module _ (w : ℕ → ℕ) where
  -- a row that passes leaves the totals within the header's
  pub row_within : (i n k : ℕ) → row_stored w i n k ≡ true → (n + word_count w i ≤ w WORDS) × (k + conclusion_count w i ≤ w CONCLUSIONS)
  unfolding row_stored
  row_within i n k h = let s = (passed _ h).1.1 in (leb-true _ _ s.0, leb-true _ _ s.1.0)

  module _ (frame : tables_ok w ≡ true) (m : ℕ) (terms : m ≡ input_terms_in w) (i : ℕ) where
    -- the condition, by the words that are read
    condition_right : condition_stored w (w WORD_TABLE + word_first w i) (word_count w i) m ≡ condition_exact w i && condition_ok (decode w) (rule_at w i).condition
    unfolding condition_stored condition_exact condition_ok rule_at
    condition_right =
        let words = sym (tab_from w (w WORD_TABLE) (word_count w i) (word_first w i)) in
        λ j. is_condition ((terms ∙ sym (input_terms_lem w frame)) j) (words j)

    some : not (is_empty (rule_at w i).conclusions) ≡ leb 1 (conclusion_count w i)
    unfolding rule_at
    some = some_are (conclusion_at w) (conclusion_count w i) (conclusion_first w i)

    rule_to : rule_stored w i ≡ true → rule_tests w m i ≡ true
    unfolding rule_stored rule_tests rule_ok rule_at
    rule_to h =
        let s = both (condition_exact w i) (rule_ok (decode w) (rule_at w i)) h in
        let r = passed _ s.1 in
        pass _ (r.0, (r.1.1.1.1.0, (and_i _ _ (sym some ∙ r.1.1.0) r.1.1.1.0, (condition_right ∙ and_i _ _ s.0 r.1.0, tt))))

    rule_from_lem : rule_tests w m i ≡ true → rule_stored w i ≡ true
    unfolding rule_stored rule_tests rule_ok rule_at
    rule_from_lem h =
        let t = passed _ h in
        let k = both (leb 1 (conclusion_count w i)) (all (conclusion_ok (decode w)) (rule_at w i).conclusions) t.1.1.0 in
        let c = both (condition_exact w i) (condition_ok (decode w) (rule_at w i).condition) (sym condition_right ∙ t.1.1.1.0) in
        and_i _ _ c.0 (pass _ (t.0, (c.1, (some ∙ k.0, (k.1, (t.1.0, tt))))))

    pub rule_spelt : rule_tests w m i ≡ rule_stored w i
    rule_spelt = iff (rule_tests w m i) (rule_stored w i) rule_from_lem rule_to

-- the terms of inputs are counted in a word
pub small : (image : Laid) → image.input_terms ≤ 4294967295
small image =
    let w = word_at image.stored.bytes.now in
    omega (arith, image.counted, inputs_first w image.laid, image.stored.heads.fits 4)
