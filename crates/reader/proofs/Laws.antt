-- The parts of a text make up document 01's reading of it.
use Rattle.std.specs.Prelude.{None, Some}
use mathlib.Core.Path.{◌≡◌, refl, sym, ap, ◌∙◌}
use mathlib.Core.Bool.{true}
use mathlib.Core.List.{List}
use mathlib.Core.Option.{some}
use Prim.Native.Nat.{ℕ, ◌*◌, ◌≤◌, ◌<◌}
use native.Mathlib.Omega.{arith}
use borrow.Author.Tests.{eq-eqb, ne_eqb, lt-ltb}
use lib.ListN.{length}
use Rattle.model.specs.Basic.{gather, total}
use Rattle.model.specs.Bounds.{text_limit, rule_limit, word_limit, conclusion_limit}
use Rattle.model.specs.Block.{Block, Rule}
use Rattle.model.specs.Keywords.{RULE}
use Rattle.model.specs.Outcome.{Outcome, accepted, refused, and_then, into}
use Rattle.model.specs.Refusals.{reader_number}
use Rattle.model.specs.Parse.{Parse, repeated}
use Rattle.model.specs.Rules.{rule, rule_block}
use Rattle.model.specs.Reader.{function_block, start, outcome_of, reads}
use Rattle.model.specs.Image.{image}
use Rattle.model.specs.Buffers.{reads_into}
use Rattle.model.proofs.Texts.{text_not_too_long}
use Rattle.cursor.specs.declared.Cursor.{Cursor}
use Rattle.cursor.specs.View.{seen, why_of}
use Rattle.block_tables.specs.declared.Tables.{Tables}
use Rattle.block_tables.specs.declared.Heading.{Heading}
use Rattle.block_tables.specs.View.{inputs_view, outputs_view, block_view, whole_view}
use Rattle.parse_state.specs.Reads.{view}
use Rattle.rule_heading.specs.Opening.{opening, headed, Bare}
use Rattle.rule_text.specs.Progress.{Kept, holding}
use Rattle.block_text.specs.Block.{inputs_text, outputs_text, front_text, back_text, Ends}
use Rattle.cursor.specs.declared.refusal.Refused.{Refused}
use Rattle.reading_laws.proofs.Refused.{reads_known}

pub bare : (s : List ℕ) (t : Tables) → Bare (block_view s t)
unfolding block_view
bare s t = record { rule_block = refl; pair = refl; act = refl; accu = refl }

-- no rules are kept in arrays of these sizes
pub kept_none : (s : List ℕ) (t : Tables) (h : Heading) (rules ws ks : List ℕ) → length rules ≡ rule_limit * 4 → length ws ≡ word_limit → length ks ≡ conclusion_limit * 2
    → Kept (headed s h (block_view s t)).rules rules ws ks (record { rules = 0; words = 0; conclusions = 0 })
unfolding block_view gather total
kept_none s t h rules ws ks a b c = record {
  stored = record { rows = refl; words = refl; conclusions = refl; few_rules = omega arith; few_words = omega arith; few_conclusions = omega arith };
  rules_size = a;
  words_size = b;
  conclusions_size = c;
  rules_count = refl;
  words_count = refl;
  conclusions_count = refl;
}

pub long : (room : ℕ) (s : List ℕ) → text_limit < length s → reads_into room s ≡ refused 1 (some 0)
unfolding reads_into reads
long room s l = simp (lt-ltb _ _ l) refl

module _ (s : List ℕ) (t : Tables) (h : Heading) where
  pub inputs_headed : (headed s h (block_view s t)).inputs ≡ inputs_view s t
  unfolding block_view
  inputs_headed = refl

  pub outputs_headed : (headed s h (block_view s t)).outputs ≡ outputs_view s t
  unfolding block_view
  outputs_headed = refl

  pub inputs_whole : (rs : List Rule) → (holding rs (headed s h (block_view s t))).inputs ≡ inputs_view s t
  unfolding block_view
  inputs_whole rs = refl

  pub outputs_whole : (rs : List Rule) → (holding rs (headed s h (block_view s t))).outputs ≡ outputs_view s t
  unfolding block_view
  outputs_whole rs = refl

  whole_is : (rs : List Rule) → holding rs (headed s h (block_view s t)) ≡ whole_view s t h rs
  unfolding block_view whole_view
  whole_is rs = refl

  module _ (c d e : Cursor) (rs : List Rule) (n : ℕ) (front : view s (record { cursor = c; tables = t }) ≡ front_text (start s))
      (head : seen s d (headed s h (block_view s t)) 0 ≡ opening (seen s c (block_view s t) 0))
      (rules : seen s e (holding rs (headed s h (block_view s t))) n ≡ repeated RULE rule (rule (seen s d (headed s h (block_view s t)) 0))) where
    parts : function_block (start s) ≡ back_text (repeated RULE rule (rule (opening (front_text (start s)))))
    unfolding function_block rule_block front_text inputs_text outputs_text opening back_text
    parts = refl

    read_so : back_text (seen s e (holding rs (headed s h (block_view s t))) n) ≡ function_block (start s)
    unfolding view
    read_so =
        ap back_text (rules ∙ ap (λ (z : Parse). repeated RULE rule (rule z)) (head ∙ ap opening front)) ∙ sym parts

    module _ (f : Cursor) (x : Ends (seen s f (holding rs (headed s h (block_view s t))) n)
        (back_text (seen s e (holding rs (headed s h (block_view s t))) n))) where
      abbrev end : Parse
      end = function_block (start s)

      why_is : why_of f.refused ≡ (function_block (start s)).why
      unfolding seen
      why_is = x.why ∙ ap (λ (z : Parse). z.why) read_so

      place_is : f.place ≡ (function_block (start s)).place
      unfolding seen
      place_is = x.place ∙ ap (λ (z : Parse). z.place) read_so

      block_is : whole_view s t h rs ≡ (function_block (start s)).block
      unfolding seen
      block_is = sym (whole_is rs) ∙ x.block ∙ ap (λ (z : Parse). z.block) read_so

      module _ (w : Refused) (q : f.refused ≡ Some w) where
        ends_by : end.why ≡ w.why
        ends_by = sym why_is ∙ ap why_of q

        never_zero : end.why ≡ 0 → ⊥
        never_zero e = omega (arith, w.above, ends_by, e)

        pub number : reader_number w.why ≡ true
        number = ap reader_number (sym ends_by) ∙ (reads_known s).number never_zero

        pub refused_so : (room : ℕ) → length s ≤ text_limit → reads_into room s ≡ refused w.why (some f.place)
        unfolding reads_into
        refused_so room l =
            let z : end.place ≡ f.place = sym place_is in
            let e : outcome_of end ≡ refused end.why (some end.place) = simp (ne_eqb _ _ never_zero) refl in
            ap (λ (o : Outcome Block). and_then o (λ b. into room (image b))) (text_not_too_long s l ∙ e)
            ∙ (λ j. refused (ends_by j) (some (z j)))

      module _ (room : ℕ) (l : length s ≤ text_limit) where
        pub accepted_so : f.refused ≡ None → reads_into room s ≡ into room (image (whole_view s t h rs))
        unfolding reads_into
        accepted_so z =
            let e : outcome_of end ≡ accepted end.block = simp (eq-eqb _ _ (sym why_is ∙ ap why_of z)) refl in
            ap (λ (o : Outcome Block). and_then o (λ b. into room (image b))) (text_not_too_long s l ∙ e)
            ∙ ap (λ (b : Block). into room (image b)) (sym block_is)
