-- The items of a listing read back to the block.
use mathlib.Core.Path.{◌≡◌, refl, sym, ap, ◌∙◌}
use mathlib.Core.Bool.{true, false, not}
use mathlib.Core.List.{List, [], ◌∷◌, ◌++◌, map}
use Prim.Native.Nat.{ℕ}
use lib.Dec.{eqb}
use Rattle.model.specs.Basic.{is_empty, all, gather, total}
use Rattle.model.specs.Keywords.{END, NAME, DEFUZZIFY, END_VAR, FUNCTION_BLOCK, FUZZIFY, VAR_INPUT, VAR_OUTPUT}
use Rattle.model.specs.Outcome.{accepted}
use Rattle.model.specs.Tokens.{Token}
use Rattle.model.specs.Block.{Input, Output, Block, size, empty_block, with_name}
use Rattle.model.specs.Parse.{Parse, Part, kind, advance, expect, repeated, own_name}
use Rattle.model.specs.Declarations.{input_declaration, output_declaration, fuzzify, defuzzify}
use Rattle.model.specs.Rules.{rule_block}
use Rattle.model.specs.Reader.{parts_there, end_of_block, function_block, outcome_of}
use Rattle.model.specs.WellFormed.{input_ok, output_ok, well_formed}
use Rattle.laws.proofs.Tests.{and_i}
use Rattle.laws.proofs.Finding.{all_imp, filled, some_there}
use Rattle.listing_laws.proofs.Items.{Item, item, item_of, name, word, input_items, output_items, fuzzify_items, defuzzify_items, rule_block_items, listing_items}
use Rattle.listing_laws.proofs.Facts.{BlockFacts, block_facts, input_facts, output_facts, input_at, input_new, output_at, output_new}
use Rattle.listing_laws.proofs.Reading.{laid, laid_back, places_of, at, own_name_lem, head_kind, judged_pass, expects, some_read}
use Rattle.listing_laws.proofs.Stages.{staged, bare_input, bare_output, partly, partly_at, partly_next, partly_all}
use Rattle.listing_laws.proofs.ReadDeclarations.{inputs_read, outputs_read}
use Rattle.listing_laws.proofs.ReadFuzzify.{fuzzify_read}
use Rattle.listing_laws.proofs.ReadDefuzzify.{defuzzify_read}
use Rattle.listing_laws.proofs.ReadRules.{rule_block_read}

module _ (f : ℕ → ℕ) (b : Block) (h : BlockFacts b) where
  -- FUZZIFY
  abbrev bare_outputs : List Output
  bare_outputs = map bare_output b.outputs

  fuzzify_next : (ds : List Input) (v : Input) (es : List Input) (xs : List Item) → b.inputs ≡ ds ++ (v ∷ es) → (w : ℕ)
      → fuzzify (at f (fuzzify_items v ++ xs) (staged b.name (partly bare_input b.inputs ds) bare_outputs) w)
      ≡ at f xs (staged b.name (partly bare_input b.inputs (ds ++ (v ∷ []))) bare_outputs) w
  fuzzify_next ds v es xs e w =
      ap (λ (l : List Input). fuzzify (at f (fuzzify_items v ++ xs) (staged b.name l bare_outputs) w)) (partly_at bare_input b.inputs ds (v ∷ es) e)
      ∙ fuzzify_read f b.name bare_outputs ds (map bare_input es) v
      (input_at b h ds v es e) (input_new b h ds v es e) xs w
      ∙ ap (λ (l : List Input). at f xs (staged b.name l bare_outputs) w) (sym (partly_next bare_input b.inputs ds v es e))

  fuzzifies_read : (rest : List Item) (w : ℕ) → eqb (head_kind rest) FUZZIFY ≡ false
      → repeated FUZZIFY fuzzify (fuzzify (at f (gather fuzzify_items b.inputs ++ rest) (staged b.name (map bare_input b.inputs) bare_outputs) w))
      ≡ at f rest (staged b.name b.inputs bare_outputs) w
  unfolding fuzzify_items
  fuzzifies_read rest w stops =
      let first = filled b.inputs h.inputs.0 in
      some_read FUZZIFY fuzzify fuzzify_items (λ ds. staged b.name (partly bare_input b.inputs ds) bare_outputs) (λ ds. w) f b.inputs
      (λ v. (_, _, refl)) (λ ds v es ys e. fuzzify_next ds v es ys e w) rest stops first.0 first.1 first.2
      ∙ ap (λ (l : List Input). at f rest (staged b.name l bare_outputs) w) (partly_all bare_input b.inputs)

  -- DEFUZZIFY
  defuzzify_next : (ds : List Output) (v : Output) (es : List Output) (xs : List Item) → b.outputs ≡ ds ++ (v ∷ es) → (w : ℕ)
      → defuzzify (at f (defuzzify_items v ++ xs) (staged b.name b.inputs (partly bare_output b.outputs ds)) w)
      ≡ at f xs (staged b.name b.inputs (partly bare_output b.outputs (ds ++ (v ∷ [])))) w
  defuzzify_next ds v es xs e w =
      ap (λ (l : List Output). defuzzify (at f (defuzzify_items v ++ xs) (staged b.name b.inputs l) w)) (partly_at bare_output b.outputs ds (v ∷ es) e)
      ∙ defuzzify_read f b.name b.inputs ds (map bare_output es) v
      (output_at b h ds v es e) (output_new b h ds v es e) xs w
      ∙ ap (λ (l : List Output). at f xs (staged b.name b.inputs l) w) (sym (partly_next bare_output b.outputs ds v es e))

  defuzzifies_read : (rest : List Item) (w : ℕ) → eqb (head_kind rest) DEFUZZIFY ≡ false
      → repeated DEFUZZIFY defuzzify (defuzzify (at f (gather defuzzify_items b.outputs ++ rest) (staged b.name b.inputs bare_outputs) w))
      ≡ at f rest (staged b.name b.inputs b.outputs) w
  unfolding defuzzify_items
  defuzzifies_read rest w stops =
      let first = filled b.outputs h.outputs.0 in
      some_read DEFUZZIFY defuzzify defuzzify_items (λ ds. staged b.name b.inputs (partly bare_output b.outputs ds)) (λ ds. w) f b.outputs
      (λ v. (_, _, refl)) (λ ds v es ys e. defuzzify_next ds v es ys e w) rest stops first.0 first.1 first.2
      ∙ ap (λ (l : List Output). at f rest (staged b.name b.inputs l) w) (partly_all bare_output b.outputs)

  -- THE ENDS
  defuzzify_head : (xs : List Item) → eqb (head_kind (gather defuzzify_items b.outputs ++ xs)) FUZZIFY ≡ false
  unfolding gather defuzzify_items
  defuzzify_head xs =
      ap (λ (l : List Output). eqb (head_kind (gather defuzzify_items l ++ xs)) FUZZIFY) (filled b.outputs h.outputs.0).2

  rules_head : (xs : List Item) → eqb (head_kind (rule_block_items b ++ xs)) DEFUZZIFY ≡ false
  unfolding rule_block_items
  rules_head xs = refl

  parts_there_lem : parts_there b ≡ true
  unfolding parts_there
  parts_there_lem =
      and_i (all (λ v. not (is_empty v.terms)) b.inputs) (all (λ v. not (is_empty v.terms)) b.outputs)
      (all_imp input_ok (λ v. not (is_empty v.terms)) (λ v ok. some_there v.terms (input_facts v ok).count.0) b.inputs h.inputs_ok)
      (all_imp output_ok (λ v. not (is_empty v.terms)) (λ v ok. some_there v.terms (output_facts v ok).count.0) b.outputs h.outputs_ok)

  end_read : (xs : List Item) (w : ℕ) → end_of_block (at f (word "END_FUNCTION_BLOCK" ∷ xs) b w) ≡ at f xs b w
  unfolding end_of_block at kind advance
  end_read xs w = judged_pass _ _ _ (refl, (parts_there_lem, tt))

  -- THE WHOLE
  abbrev x₅ : List Item
  x₅ = word "END_FUNCTION_BLOCK" ∷ item END [] ∷ []

  abbrev x₄ : List Item
  x₄ = gather defuzzify_items b.outputs ++ (rule_block_items b ++ x₅)

  abbrev x₃ : List Item
  x₃ = gather fuzzify_items b.inputs ++ x₄

  abbrev x₂ : List Item
  x₂ = gather output_items b.outputs ++ (word "END_VAR" ∷ x₃)

  abbrev x₁ : List Item
  x₁ = gather input_items b.inputs ++ (word "END_VAR" ∷ word "VAR_OUTPUT" ∷ x₂)

  block_read : function_block (at f (listing_items b) empty_block 0) ≡ at f [] b (total (λ r. size r.condition) b.rules)
  unfolding function_block listing_items
  block_read =
      let n = b.name in
      let is = map bare_input b.inputs in
      let All-words = total (λ r. size r.condition) b.rules in
      let p₅ : Part = λ p. expect END (end_of_block (rule_block p)) in
      let p₄ : Part = λ p. p₅ (repeated DEFUZZIFY defuzzify (defuzzify p)) in
      let p₃ : Part = λ p. p₄ (repeated FUZZIFY fuzzify (fuzzify p)) in
      let p₂ : Part = λ p. p₃ (expect END_VAR (repeated NAME output_declaration (output_declaration p))) in
      let p₁ : Part = λ p. p₂ (expect VAR_OUTPUT (expect END_VAR (repeated NAME input_declaration (input_declaration p)))) in
      ap (λ (p : Parse). p₁ (expect VAR_INPUT (own_name with_name p))) (expects FUNCTION_BLOCK f _ (name n ∷ word "VAR_INPUT" ∷ x₁) empty_block 0)
      ∙ ap (λ (p : Parse). p₁ (expect VAR_INPUT p)) (own_name_lem with_name f n (word "VAR_INPUT" ∷ x₁) empty_block 0 h.name)
      ∙ ap p₁ (expects VAR_INPUT f _ x₁ (staged n [] []) 0)
      ∙ ap (λ (p : Parse). p₂ (expect VAR_OUTPUT (expect END_VAR p))) (inputs_read f b h (word "END_VAR" ∷ word "VAR_OUTPUT" ∷ x₂) 0 refl)
      ∙ ap (λ (p : Parse). p₂ (expect VAR_OUTPUT p)) (expects END_VAR f _ (word "VAR_OUTPUT" ∷ x₂) (staged n is []) 0)
      ∙ ap p₂ (expects VAR_OUTPUT f _ x₂ (staged n is []) 0)
      ∙ ap (λ (p : Parse). p₃ (expect END_VAR p)) (outputs_read f b h (word "END_VAR" ∷ x₃) 0 refl)
      ∙ ap p₃ (expects END_VAR f _ x₃ (staged n is bare_outputs) 0)
      ∙ ap p₄ (fuzzifies_read x₄ 0 (defuzzify_head (rule_block_items b ++ x₅)))
      ∙ ap p₅ (defuzzifies_read (rule_block_items b ++ x₅) 0 (rules_head x₅))
      ∙ ap (λ (p : Parse). expect END (end_of_block p)) (rule_block_read f b h x₅)
      ∙ ap (expect END) (end_read (item END [] ∷ []) All-words)
      ∙ expects END f _ [] b All-words

  listing_read : outcome_of (function_block (at f (listing_items b) empty_block 0)) ≡ accepted b
  unfolding at
  listing_read = ap outcome_of block_read

-- tokens that show the items of a listing read to its block, wherever they stand
pub items_read : (b : Block) → well_formed b ≡ true → (ts : List Token) → map item_of ts ≡ listing_items b
    → outcome_of (function_block (record { rest = ts; why = 0; place = 0; block = empty_block; words = 0 })) ≡ accepted b
unfolding at
items_read b h ts e =
    let f = places_of ts in
    ap (λ (l : List Token). outcome_of (function_block (record { rest = l; why = 0; place = 0; block = empty_block; words = 0 })))
    (sym (laid_back ts) ∙ ap (laid f) e)
    ∙ listing_read f b (block_facts b h)
