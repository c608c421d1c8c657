-- The items of VAR_INPUT and VAR_OUTPUT read back to variables as declared.
use mathlib.Core.Path.{◌≡◌, refl, sym, ap, ◌∙◌}
use mathlib.Core.Bool.{true, false, not, ◌||◌}
use mathlib.Core.List.{List, [], ◌∷◌, ◌++◌, map, append_assoc, map-append}
use Prim.Native.Nat.{ℕ}
use native.Mathlib.Omega.{arith}
use borrow.Author.Tests.{lt-ltb}
use lib.Dec.{leb, ltb, eqb}
use lib.ListN.{length, length-append, length-map}
use lib.Seq.{take-append_seam, drop-append_seam}
use Rattle.model.specs.Basic.{all, gather, distinct}
use Rattle.model.specs.Bounds.{name_limit, input_limit, output_limit}
use Rattle.model.specs.Keywords.{NAME, COLON, SEMICOLON, REAL}
use Rattle.model.specs.Tokens.{same_name}
use Rattle.model.specs.Block.{Input, Output, Block, as_int}
use Rattle.model.specs.declared.InputType.{InputType}
use Rattle.model.specs.declared.InputType.TheVariants.{Real as real, Int as int}
use Rattle.model.specs.Parse.{Parse, kind, text, is, advance, change, expect, repeated, listed}
use Rattle.model.specs.Declarations.{input_of, output_of, is_input, is_output, add_input, add_output, int_from, variable, input_count, output_count, input_type, input_declaration, output_declaration}
use Rattle.laws.proofs.Tests.{both}
use Rattle.laws.proofs.Lists.{all_append}
use Rattle.laws.proofs.Finding.{all_map, distinct_fresh, fresh, fresh_map, named, none_of, not_found, filled}
use Rattle.listing_laws.proofs.Items.{Item, name, word, colon, semicolon, type_item, input_items, output_items}
use Rattle.listing_laws.proofs.Facts.{BlockFacts, input_at, input_new, output_at}
use Rattle.listing_laws.proofs.Reading.{at, head_kind, judged_pass, expects, listed_one, some_read}
use Rattle.listing_laws.proofs.Stages.{staged, bare_input, bare_output}

-- no variable has the name t
module _ (t n : List ℕ) (is : List Input) (os : List Output) where
  not_input : none_of (named (λ v. v.name) t) is ≡ true → is_input t (staged n (map bare_input is) os) ≡ false
  unfolding input_of
  not_input h = not_found (named (λ v. v.name) t) (map bare_input is) (all_map (λ v. not (named (λ v. v.name) t v)) bare_input is ∙ h)

  not_output : (us : List Input) → none_of (named (λ v. v.name) t) os ≡ true → is_output t (staged n us (map bare_output os)) ≡ false
  unfolding output_of
  not_output us h = not_found (named (λ v. v.name) t) (map bare_output os) (all_map (λ v. not (named (λ v. v.name) t v)) bare_output os ∙ h)

module _ (f : ℕ → ℕ) where
  variable_read : (add : List ℕ → Block → Block) (count : Block → ℕ) (limit : ℕ) (t : List ℕ) (xs : List Item) (c : Block) (w : ℕ)
      → leb (length t) name_limit ≡ true → is_input t c ≡ false → is_output t c ≡ false → ltb (count c) limit ≡ true
      → variable add count limit (at f (name t ∷ xs) c w) ≡ at f xs (add t c) w
  unfolding variable at kind text advance change
  variable_read add count limit t xs c w h p q l = judged_pass _ _ _ (refl, (h, ((λ j. not (p j || q j)), (l, tt))))

  -- the type of the last input
  type_read : (n t : List ℕ) (is : List Input) (os : List Output) (y : InputType) (xs : List Item) (w : ℕ)
      → input_type (length is) (at f (type_item y ∷ xs) (staged n (is ++ (record { name = t; type = real; terms = [] } ∷ [])) os) w)
      ≡ at f xs (staged n (is ++ (record { name = t; type = y; terms = [] } ∷ [])) os) w
  unfolding input_type int_from expect at kind advance change
  type_read n t is os real xs w = refl
  type_read n t is os int xs w =
      let v : Input = record { name = t; type = real; terms = [] } in
      λ j. at f xs (staged n (take-append_seam is (v ∷ []) j ++ map as_int (drop-append_seam is (v ∷ []) j)) os) w

  input_start : (n : List ℕ) (is : List Input) (os : List Output) (xs : List Item) (w : ℕ) → input_declaration (at f xs (staged n is os) w)
      ≡ expect SEMICOLON (input_type (length is) (expect COLON (listed (variable add_input input_count input_limit) (at f xs (staged n is os) w))))
  unfolding input_declaration at
  input_start n is os xs w = refl

  module _ (b : Block) (h : BlockFacts b) where
    module _ (ds : List Input) (v : Input) (es : List Input) (e : b.inputs ≡ ds ++ (v ∷ es)) (xs : List Item) (w : ℕ) where
      abbrev before : Block
      before = staged b.name (map bare_input ds) []

      input_name : variable add_input input_count input_limit (at f (name v.name ∷ xs) before w)
          ≡ at f xs (staged b.name (map bare_input ds ++ (record { name = v.name; type = real; terms = [] } ∷ [])) []) w
      unfolding add_input all
      input_name =
          variable_read add_input input_count input_limit v.name xs before w
          (input_at b h ds v es e).name
          (not_input v.name b.name ds [] (input_new b h ds v es e)) (not_output v.name b.name [] [] (map bare_input ds) refl)
          (lt-ltb (length (map bare_input ds)) input_limit (omega (arith, length-map ds bare_input, ap length e, length-append ds (v ∷ es), h.inputs.1)))

    input_read : (ds : List Input) (v : Input) (es : List Input) (xs : List Item) → b.inputs ≡ ds ++ (v ∷ es) → (w : ℕ)
        → input_declaration (at f (input_items v ++ xs) (staged b.name (map bare_input ds) []) w)
        ≡ at f xs (staged b.name (map bare_input (ds ++ (v ∷ []))) []) w
    input_read ds v es xs e w =
        let is = map bare_input ds in
        let x₁ = type_item v.type ∷ semicolon ∷ xs in
        let c = staged b.name (is ++ (record { name = v.name; type = real; terms = [] } ∷ [])) [] in
        let d = staged b.name (is ++ (bare_input v ∷ [])) [] in
        input_start b.name is [] (name v.name ∷ colon ∷ x₁) w
        ∙ ap (λ (p : Parse). expect SEMICOLON (input_type (length is) (expect COLON p)))
        (listed_one (variable add_input input_count input_limit) (at f (name v.name ∷ colon ∷ x₁) (staged b.name is []) w) f (colon ∷ x₁) c w
        (input_name ds v es e (colon ∷ x₁) w) refl)
        ∙ ap (λ (p : Parse). expect SEMICOLON (input_type (length is) p)) (expects COLON f _ x₁ c w)
        ∙ ap (expect SEMICOLON) (type_read b.name v.name is [] v.type (semicolon ∷ xs) w)
        ∙ expects SEMICOLON f _ xs d w
        ∙ ap (λ (l : List Input). at f xs (staged b.name l []) w) (sym (map-append bare_input ds (v ∷ [])))

    pub inputs_read : (rest : List Item) (w : ℕ) → eqb (head_kind rest) NAME ≡ false
        → repeated NAME input_declaration (input_declaration (at f (gather input_items b.inputs ++ rest) (staged b.name [] []) w))
        ≡ at f rest (staged b.name (map bare_input b.inputs) []) w
    inputs_read rest w stops =
        let first = filled b.inputs h.inputs.0 in
        some_read NAME input_declaration input_items (λ ds. staged b.name (map bare_input ds) []) (λ ds. w) f b.inputs (λ v. (_, _, refl))
        (λ ds v es ys e. input_read ds v es ys e w) rest stops first.0 first.1 first.2

    abbrev ins : List Input
    ins = map bare_input b.inputs

    module _ (ds : List Output) (v : Output) (es : List Output) (e : b.outputs ≡ ds ++ (v ∷ es)) where
      abbrev names : List (List ℕ)
      names = map (λ u. u.name) b.inputs

      new_name : fresh v.name (names ++ map (λ u. u.name) ds) ≡ true
      new_name =
          distinct_fresh (names ++ map (λ u. u.name) ds) v.name (map (λ u. u.name) es)
          (ap (distinct same_name) (append_assoc names (map (λ u. u.name) ds) (v.name ∷ map (λ u. u.name) es)
          ∙ ap (λ (l : List (List ℕ)). names ++ l) (sym (ap (map (λ u. u.name)) e ∙ map-append (λ u. u.name) ds (v ∷ es))))
          ∙ h.apart)

      new_parts : (fresh v.name names ≡ true) × (fresh v.name (map (λ u. u.name) ds) ≡ true)
      new_parts =
          both (fresh v.name names) (fresh v.name (map (λ u. u.name) ds))
          (sym (all_append (λ m. not (same_name v.name m)) names (map (λ u. u.name) ds)) ∙ new_name)

      output_name : (xs : List Item) (w : ℕ)
          → variable add_output output_count output_limit (at f (name v.name ∷ xs) (staged b.name ins (map bare_output ds)) w)
          ≡ at f xs (staged b.name ins (map bare_output ds ++ (bare_output v ∷ []))) w
      unfolding add_output
      output_name xs w =
          variable_read add_output output_count output_limit v.name xs (staged b.name ins (map bare_output ds)) w
          (output_at b h ds v es e).name
          (not_input v.name b.name b.inputs (map bare_output ds) (fresh_map (λ u. u.name) v.name b.inputs new_parts.0))
          (not_output v.name b.name [] ds ins (fresh_map (λ u. u.name) v.name ds new_parts.1))
          (lt-ltb (length (map bare_output ds)) output_limit (omega (arith, length-map ds bare_output, ap length e, length-append ds (v ∷ es), h.outputs.1)))

      output_read : (xs : List Item) (w : ℕ)
          → output_declaration (at f (output_items v ++ xs) (staged b.name ins (map bare_output ds)) w)
          ≡ at f xs (staged b.name ins (map bare_output (ds ++ (v ∷ [])))) w
      unfolding output_declaration
      output_read xs w =
          let x₁ = word "REAL" ∷ semicolon ∷ xs in
          let c = staged b.name ins (map bare_output ds) in
          let d = staged b.name ins (map bare_output ds ++ (bare_output v ∷ [])) in
          ap (λ (p : Parse). expect SEMICOLON (expect REAL (expect COLON p)))
          (listed_one (variable add_output output_count output_limit) (at f (name v.name ∷ colon ∷ x₁) c w) f (colon ∷ x₁) d w
          (output_name (colon ∷ x₁) w) refl)
          ∙ ap (λ (p : Parse). expect SEMICOLON (expect REAL p)) (expects COLON f _ x₁ d w)
          ∙ ap (expect SEMICOLON) (expects REAL f _ (semicolon ∷ xs) d w)
          ∙ expects SEMICOLON f _ xs d w
          ∙ ap (λ (l : List Output). at f xs (staged b.name ins l) w) (sym (map-append bare_output ds (v ∷ [])))

    pub outputs_read : (rest : List Item) (w : ℕ) → eqb (head_kind rest) NAME ≡ false
        → repeated NAME output_declaration
        (output_declaration (at f (gather output_items b.outputs ++ rest) (staged b.name (map bare_input b.inputs) []) w))
        ≡ at f rest (staged b.name (map bare_input b.inputs) (map bare_output b.outputs)) w
    outputs_read rest w stops =
        let first = filled b.outputs h.outputs.0 in
        some_read NAME output_declaration output_items (λ ds. staged b.name ins (map bare_output ds)) (λ ds. w) f b.outputs (λ v. (_, _, refl))
        (λ ds v es ys e. output_read ds v es e ys w) rest stops first.0 first.1 first.2
