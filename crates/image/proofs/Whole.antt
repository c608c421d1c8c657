-- What is written is the image of the block that the arrays stand for, and how long that is.
use Rattle.std.proofs.Common.{◌≡◌, ℕ, ◌+◌, ◌*◌, List, [], ◌∷◌, ◌++◌, length, take, sym, ap, ◌∙◌, append_assoc, arith, length-append}
use lib.Seq.{slice}
use Rattle.model.specs.Basic.{gather}
use Rattle.model.specs.Bounds.{rule_limit, word_limit, conclusion_limit}
use Rattle.model.specs.Block.{Block, Rule, conclusions}
use Rattle.model.specs.Image.{terms, points, pair_word, accu_word, act_word, name_words, input_table, output_table, term_table, point_words, rule_table, postfix, conclusion_words, counts, widths, offsets, end_of, header_size, header, words, image}
use Rattle.laws.proofs.Conditions.{length_pairs}
use Rattle.words.proofs.Bytes.{length_bytes}
use Rattle.layout.specs.Rows.{laid}
use Rattle.layout.specs.Tables.{output_row, output_next}
use Rattle.layout.proofs.TableLaws.{output_table_lem}
use Rattle.block_tables.specs.declared.Tables.{Tables}
use Rattle.block_tables.specs.declared.Heading.{Heading}
use Rattle.block_tables.specs.View.{outputs_view, input_view, output_view, whole_view, Headed}
use Rattle.block_tables.specs.Stored.{Stored}
use Rattle.laws.proofs.Places.{length_tab}
use Rattle.image.specs.declared.Counts.{Counts}
use Rattle.term_rows.specs.Rows.{held_in}
use Rattle.image.specs.Rows.{variable_rows, rule_rows, count_list, head_words}
use Rattle.variable_rows.proofs.Views.{inputs_laid, outputs_laid}
use Rattle.term_rows.proofs.Views.{Ordered, terms_laid, points_laid, first_output, terms_count, points_count}
use Rattle.layout.proofs.Lengths.{header_long, inputs_long, outputs_long, terms_long, points_long, rules_long}
use Rattle.layout.proofs.Whole.{length_conditions}
use Rattle.image.proofs.Kept.{words_count, conclusions_count, all_kept}

-- HOW LONG the words of a block are
module _ (b : Block) where
  pub length_words : length (words b) ≡ end_of header_size (counts b) widths
  unfolding words end_of
  length_words =
      let g = gather conclusion_words (conclusions b) in
      let f = gather (λ r. postfix r.condition) b.rules ++ g in
      let e = rule_table 0 0 b.rules ++ f in
      let d = gather point_words (points b) ++ e in
      let c = term_table 0 (terms b) ++ d in
      let o = output_table b 0 b.outputs ++ c in
      let i = input_table 0 b.inputs ++ o in
      omega (
        arith,
        length-append (header b) i,
        length-append (input_table 0 b.inputs) o,
        length-append (output_table b 0 b.outputs) c,
        length-append (term_table 0 (terms b)) d,
        length-append (gather point_words (points b)) e,
        length-append (rule_table 0 0 b.rules) f,
        length-append (gather (λ r. postfix r.condition) b.rules) g,
        header_long b,
        inputs_long b,
        outputs_long b,
        terms_long b,
        points_long b,
        rules_long b,
        length_conditions b.rules,
        length_pairs (conclusions b),
      )

-- THE WHOLE
module _ (s : List ℕ) (t : Tables) (h : Heading) (rs : List Rule) (head : Headed s h) (own others : List ℕ) (order : Ordered t own others)
    (rules ws ks : List ℕ) (m n k : ℕ) (kept : Stored rs rules ws ks m n k) (wide : length rules ≡ rule_limit * 4) (long : length ws ≡ word_limit) (full : length ks ≡ conclusion_limit * 2) where
  abbrev pub whole : Counts
  whole = record {
    inputs = t.input_count;
    outputs = t.output_count;
    terms = length own + length others;
    points = held_in t.input_terms own (length own) + length others;
    rules = m;
    words = n;
    conclusions = k;
  }

  counts_are : counts (whole_view s t h rs) ≡ count_list whole
  unfolding whole_view
  counts_are = λ j.
      length_tab (input_view s t) t.input_count 0 j
      ∷ length_tab (output_view s t) t.output_count 0 j
      ∷ terms_count s t own others order j
      ∷ points_count s t own others order j
      ∷ (all_kept rs rules ws ks m n k kept wide long full).many j
      ∷ words_count rs rules ws ks m n k kept wide long full j
      ∷ conclusions_count rs rules ws ks m n k kept wide long full j
      ∷ []

  abbrev pub named : List ℕ
  named = name_words (slice t.start t.end s) ++ name_words (slice h.start h.end s)

  header_is : header (whole_view s t h rs) ≡ head_words whole h ++ named
  unfolding header head_words offsets whole_view
  header_is =
      ap (λ (cs : List ℕ). 1 ∷ end_of header_size cs widths ∷ (cs ++ (offsets header_size cs widths
      ++ (pair_word h.pair ∷ accu_word h.accu ∷ act_word h.act ∷ 0 ∷ named)))) counts_are

  pub words_are : words (whole_view s t h rs) ≡ (head_words whole h ++ named)
      ++ (variable_rows s t own others ++ (rule_rows rules m ++ (take n ws ++ take (k * 2) ks)))
  unfolding words whole_view variable_rows rule_rows
  words_are =
      (λ j. header_is j
      ++ (inputs_laid s t j
      ++ ((output_table_lem (whole_view s t h rs)
      ∙ ap (λ (x : ℕ). laid output_row output_next x (outputs_view s t)) (first_output s t own others order) ∙ outputs_laid s t (length own)) j
      ++ (terms_laid s t own others order j
      ++ (points_laid s t own others order j
      ++ ((all_kept rs rules ws ks m n k kept wide long full).table j
      ++ (sym kept.words j ++ sym kept.conclusions j)))))))
      ∙ simp append_assoc

  pub size_is : length (image (whole_view s t h rs)) ≡ end_of header_size (count_list whole) widths * 4
  unfolding image
  size_is =
      length_bytes (words (whole_view s t h rs))
      ∙ ap (λ (x : ℕ). x * 4) (length_words (whole_view s t h rs) ∙ ap (λ (cs : List ℕ). end_of header_size cs widths) counts_are)
