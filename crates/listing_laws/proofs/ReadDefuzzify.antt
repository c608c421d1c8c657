-- The items of DEFUZZIFY read back to an output.
use mathlib.Core.Path.{◌≡◌, refl, ap, ◌∙◌}
use mathlib.Core.Bool.{true, false, not, ◌&&◌}
use mathlib.Core.List.{List, [], ◌∷◌, ◌++◌, append_assoc}
use mathlib.Core.Option.{Option, none, some}
use Prim.Native.Nat.{ℕ}
use native.Mathlib.Omega.{arith}
use borrow.Author.Tests.{lt-ltb}
use lib.Dec.{ltb, eqb}
use lib.IntN.{ℤ}
use lib.ListN.{length, length-append}
use lib.Signed.{lt_z}
use Rattle.model.specs.Basic.{is_empty, gather, index_of}
use Rattle.model.specs.Bounds.{term_limit}
use Rattle.model.specs.Keywords.{CLOSE, DOTS, ASSIGN, COLON, SEMICOLON, CoGS, DEFAULT, DEFUZZIFY, END_DEFUZZIFY, METHOD, RANGE, TERM}
use Rattle.model.specs.Tokens.{is_name, in_crisp, value_of}
use Rattle.model.specs.Block.{Singleton, Range, Output, Block, Input, singletons_of, range_of, in_range, with_singleton, with_range, with_default}
use Rattle.model.specs.Parse.{Parse, Part, kind, text, advance, change, expect, repeated}
use Rattle.model.specs.Declarations.{output_of, is_output, singleton_of, is_singleton, change_output, lower_end, upper_end, range_body, range_part, figure, singleton_body, output_term, default_value, defuzzify_of, defuzzify_variable, defuzzify}
use Rattle.model.specs.Listing.{crisp_text}
use Rattle.model.specs.WellFormed.{range_ok, figure_ok, default_ok, singleton_ok}
use Rattle.laws.proofs.Tests.{both}
use Rattle.laws.proofs.Finding.{get_d_cut, update_at, all_split, distinct_split, named, none_of, index_at, found, not_found, name_self, filled}
use Rattle.listing_laws.proofs.Items.{Item, name, number, word, opening, closing, colon, semicolon, assign, dots, range_items, singleton_items, default_item, defuzzify_items}
use Rattle.listing_laws.proofs.Numbers.{value_crisp, is_crisp_lem}
use Rattle.listing_laws.proofs.Facts.{name_fits, OutputFacts}
use Rattle.listing_laws.proofs.Reading.{at, head_kind, is_head, judged_pass, expects, some_read}
use Rattle.listing_laws.proofs.Stages.{staged, focus, bare_output}

module _ (f : ℕ → ℕ) (n : List ℕ) (is : List Input) (ds rest : List Output) where
  -- with output o among the others
  abbrev holding : Output → Block
  holding o = staged n is (ds ++ (o ∷ rest))

  abbrev i : ℕ
  i = length ds

  singletons_here : (o : Output) → singletons_of i (holding o) ≡ o.terms
  unfolding singletons_of
  singletons_here o = get_d_cut (focus ds o rest) (λ v. v.terms) []

  range_here : (o : Output) → range_of i (holding o) ≡ o.range
  unfolding range_of
  range_here o = get_d_cut (focus ds o rest) (λ v. v.range) none

  changed : (g : Output → Output) (o : Output) → change_output g i (holding o) ≡ holding (g o)
  unfolding change_output
  changed g o = ap (staged n is) (update_at g ds o rest)

  -- NUMBERS
  figure_read : (with : ℤ → Output → Output) (x : ℤ) (o : Output) → figure_ok o.range x ≡ true → (xs : List Item) (w : ℕ)
      → figure with i (at f (number (crisp_text x) ∷ xs) (holding o) w) ≡ at f xs (holding (with x o)) w
  unfolding figure at kind text advance change
  figure_read with x o h xs w =
      let b = both (in_crisp x) (in_range o.range x) h in
      judged_pass _ _ _ (refl, (is_crisp_lem x b.0, ((λ j. in_range (range_here o j) (value_crisp x j)) ∙ b.1, tt)))
      ∙ ap (λ (z : ℤ). at f xs (change_output (with z) i (holding o)) w) (value_crisp x)
      ∙ ap (λ (c : Block). at f xs c w) (changed (with x) o)

  -- RANGE
  lower_read : (x : ℤ) → in_crisp x ≡ true → (xs : List Item) (c : Block) (w : ℕ) → lower_end (at f (number (crisp_text x) ∷ xs) c w) ≡ at f xs c w
  unfolding lower_end at kind text advance
  lower_read x h xs c w = judged_pass _ _ _ (refl, (is_crisp_lem x h, tt))

  upper_read : (x y : ℤ) → in_crisp y ≡ true → lt_z x y ≡ true → (o : Output) (xs : List Item) (w : ℕ)
      → upper_end i x (at f (number (crisp_text y) ∷ xs) (holding o) w) ≡ at f xs (holding (with_range (record { least = x; most = y }) o)) w
  unfolding upper_end at kind text advance change
  upper_read x y h l o xs w =
      judged_pass _ _ _ (refl, (is_crisp_lem y h, (ap (lt_z x) (value_crisp y) ∙ l, tt)))
      ∙ ap (λ (z : ℤ). at f xs (change_output (with_range (record { least = x; most = z })) i (holding o)) w) (value_crisp y)
      ∙ ap (λ (c : Block). at f xs c w) (changed (with_range (record { least = x; most = y })) o)

  range_start : (xs : List Item) (c : Block) (w : ℕ) → range_part i (at f (word "RANGE" ∷ opening ∷ xs) c w) ≡ range_body i (at f xs c w)
  unfolding range_part expect at kind advance
  range_start xs c w = refl

  body_start : (t : List ℕ) (xs : List Item) (c : Block) (w : ℕ) → range_body i (at f (number t ∷ xs) c w)
      ≡ expect SEMICOLON (expect CLOSE (upper_end i (value_of t) (expect DOTS (lower_end (at f (number t ∷ xs) c w)))))
  unfolding range_body at text
  body_start t xs c w = refl

  no_range : (xs : List Item) (c : Block) (w : ℕ) → eqb (head_kind xs) RANGE ≡ false → range_part i (at f xs c w) ≡ at f xs c w
  unfolding range_part
  no_range xs c w h = rw (is_head RANGE f xs c w ∙ h)

  range_read : (g : Option Range) → range_ok g ≡ true → (v : List ℕ) (xs : List Item) → eqb (head_kind xs) RANGE ≡ false → (w : ℕ)
      → range_part i (at f (range_items g ++ xs) (holding (record { name = v; terms = []; range = none; default = none })) w)
      ≡ at f xs (holding (record { name = v; terms = []; range = g; default = none })) w
  range_read none h v xs stops w = no_range xs (holding (record { name = v; terms = []; range = none; default = none })) w stops
  range_read (some g) h v xs stops w =
      let a = both (in_crisp g.least) (in_crisp g.most && lt_z g.least g.most) h in
      let b = both (in_crisp g.most) (lt_z g.least g.most) a.1 in
      let o : Output = record { name = v; terms = []; range = none; default = none } in
      let x₁ = number (crisp_text g.most) ∷ closing ∷ semicolon ∷ xs in
      let least = value_of (crisp_text g.least) in
      let c = holding o in
      let e : Block = holding (with_range g o) in
      range_start (number (crisp_text g.least) ∷ dots ∷ x₁) c w
      ∙ body_start (crisp_text g.least) (dots ∷ x₁) c w
      ∙ ap (λ (p : Parse). expect SEMICOLON (expect CLOSE (upper_end i least (expect DOTS p)))) (lower_read g.least a.0 (dots ∷ x₁) c w)
      ∙ ap (λ (p : Parse). expect SEMICOLON (expect CLOSE (upper_end i least p))) (expects DOTS f _ x₁ c w)
      ∙ ap (λ (z : ℤ). expect SEMICOLON (expect CLOSE (upper_end i z (at f x₁ c w)))) (value_crisp g.least)
      ∙ ap (λ (p : Parse). expect SEMICOLON (expect CLOSE p)) (upper_read g.least g.most b.0 b.1 o (closing ∷ semicolon ∷ xs) w)
      ∙ ap (expect SEMICOLON) (expects CLOSE f _ (semicolon ∷ xs) e w)
      ∙ expects SEMICOLON f _ xs e w

  -- ONE OUTPUT
  module _ (v : Output) (h : OutputFacts v) (apart : none_of (named (λ u. u.name) v.name) ds ≡ true) where
    -- with the terms so far
    abbrev having : List Singleton → Output
    having ss = record { name = v.name; terms = ss; range = v.range; default = none }

    module _ (ss : List Singleton) (s : Singleton) (es : List Singleton) (e : v.terms ≡ ss ++ (s ∷ es)) (xs : List Item) (w : ℕ) where
      ok : singleton_ok v.range s ≡ true
      ok = all_split (singleton_ok v.range) ss s es e h.terms

      new : not (is_singleton i s.name (holding (having ss))) ≡ true
      unfolding singleton_of
      new =
          ap (λ (l : List Singleton). not (ltb (index_of (named (λ u. u.name) s.name) l) (length l))) (singletons_here (having ss))
          ∙ ap not (not_found (named (λ u. u.name) s.name) ss (distinct_split (λ u. u.name) ss s es e h.apart))

      body_read : singleton_body i (at f (name s.name ∷ assign ∷ number (crisp_text s.at) ∷ semicolon ∷ xs) (holding (having ss)) w)
          ≡ at f xs (holding (having (ss ++ (s ∷ [])))) w
      unfolding singleton_body singleton_ok at kind text advance
      body_read =
          let b = both (is_name s.name) (figure_ok v.range s.at) ok in
          let with : ℤ → Output → Output = λ x. with_singleton (record { name = s.name; at = x }) in
          judged_pass _ _ _ (refl, (name_fits s.name b.0, (new, tt)))
          ∙ ap (λ (p : Parse). expect SEMICOLON (figure with i p)) (expects ASSIGN f _ (number (crisp_text s.at) ∷ semicolon ∷ xs) (holding (having ss)) w)
          ∙ ap (expect SEMICOLON) (figure_read with s.at (having ss) b.1 (semicolon ∷ xs) w)
          ∙ expects SEMICOLON f _ xs (holding (having (ss ++ (s ∷ [])))) w

      term_read : output_term i (at f (singleton_items s ++ xs) (holding (having ss)) w) ≡ at f xs (holding (having (ss ++ (s ∷ [])))) w
      unfolding output_term singleton_items at kind advance
      term_read =
          judged_pass _ _ _ (
            refl,
            (
              ap (λ (l : List Singleton). ltb (length l) term_limit) (singletons_here (having ss))
                  ∙ lt-ltb (length ss) term_limit (omega (arith, ap length e, length-append ss (s ∷ es), h.count.1)),
              tt,
            ),
          )
          ∙ body_read

    terms_read : (xs : List Item) (w : ℕ) → eqb (head_kind xs) TERM ≡ false
        → repeated TERM (output_term i) (output_term i (at f (gather singleton_items v.terms ++ xs) (holding (having [])) w))
        ≡ at f xs (holding (having v.terms)) w
    unfolding singleton_items
    terms_read xs w stops =
        let first = filled v.terms h.count.0 in
        some_read TERM (output_term i) singleton_items (λ ss. holding (having ss)) (λ ss. w) f v.terms (λ s. (_, _, refl))
        (λ ss s es ys e. term_read ss s es e ys w) xs stops first.0 first.1 first.2

    default_read : (xs : List Item) (w : ℕ) → default_value i (at f (default_item v.default ∷ xs) (holding (having v.terms)) w) ≡ at f xs (holding v) w
    unfolding default_value at kind advance
    default_read xs w = go v.default h.default
      where
        go : (d : Option ℤ) → default_ok v.range d ≡ true
            → default_value i (at f (default_item d ∷ xs) (holding (having v.terms)) w)
            ≡ at f xs (holding (record { name = v.name; terms = v.terms; range = v.range; default = d })) w
        go none ok = refl
        go (some x) ok = figure_read with_default x (having v.terms) ok xs w

    -- where the name of v stands first
    output_here : output_of v.name (holding (bare_output v)) ≡ i
    unfolding output_of
    output_here = index_at (named (λ u. u.name) v.name) ds (bare_output v) rest apart (name_self v.name)

    declared : is_output v.name (holding (bare_output v)) ≡ true
    unfolding output_of
    declared = found (named (λ u. u.name) v.name) ds (bare_output v) rest apart (name_self v.name)

    variable_start : (xs : List Item) (c : Block) (w : ℕ)
        → defuzzify_variable (at f (name v.name ∷ xs) c w) ≡ defuzzify_of (output_of v.name c) (at f (name v.name ∷ xs) c w)
    unfolding defuzzify_variable at text
    variable_start xs c w = refl

    abbrev behind : List Item → List Item
    behind xs =
        word "METHOD" ∷ colon ∷ word "CoGS" ∷ semicolon ∷ word "DEFAULT" ∷ assign ∷ default_item v.default ∷ semicolon ∷ word "END_DEFUZZIFY" ∷ xs

    terms_head : (xs : List Item) → eqb (head_kind (gather singleton_items v.terms ++ behind xs)) RANGE ≡ false
    unfolding singleton_items gather
    terms_head xs =
        let first = filled v.terms h.count.0 in
        ap (λ (l : List Singleton). eqb (head_kind (gather singleton_items l ++ behind xs)) RANGE) first.2

    method_read : (xs : List Item) (c : Block) (w : ℕ)
        → expect ASSIGN (expect DEFAULT (expect SEMICOLON (expect CoGS (expect COLON (expect METHOD
        (at f (word "METHOD" ∷ colon ∷ word "CoGS" ∷ semicolon ∷ word "DEFAULT" ∷ assign ∷ xs) c w)))))) ≡ at f xs c w
    method_read xs c w = simp expects

    body : (xs : List Item) (w : ℕ)
        → defuzzify_of i (at f (name v.name ∷ (range_items v.range ++ (gather singleton_items v.terms ++ behind xs))) (holding (bare_output v)) w)
        ≡ at f xs (holding v) w
    unfolding defuzzify_of at kind text advance
    body xs w =
        let c = holding (having v.terms) in
        let x₁ = semicolon ∷ word "END_DEFUZZIFY" ∷ xs in
        let x₂ = default_item v.default ∷ x₁ in
        let method : Part = λ p. expect END_DEFUZZIFY (expect SEMICOLON (default_value i
        (expect ASSIGN (expect DEFAULT (expect SEMICOLON (expect CoGS (expect COLON (expect METHOD p)))))))) in
        judged_pass _ _ _ (refl, (h.name, (ap is_empty (singletons_here (bare_output v)), (declared, tt))))
        ∙ ap (λ (p : Parse). method (repeated TERM (output_term i) (output_term i p)))
        (range_read v.range h.range v.name (gather singleton_items v.terms ++ behind xs) (terms_head xs) w)
        ∙ ap method (terms_read (behind xs) w refl)
        ∙ ap (λ (p : Parse). expect END_DEFUZZIFY (expect SEMICOLON (default_value i p))) (method_read x₂ c w)
        ∙ ap (λ (p : Parse). expect END_DEFUZZIFY (expect SEMICOLON p)) (default_read x₁ w)
        ∙ ap (expect END_DEFUZZIFY) (expects SEMICOLON f _ (word "END_DEFUZZIFY" ∷ xs) (holding v) w)
        ∙ expects END_DEFUZZIFY f _ xs (holding v) w

    pub defuzzify_read : (xs : List Item) (w : ℕ) → defuzzify (at f (defuzzify_items v ++ xs) (holding (bare_output v)) w) ≡ at f xs (holding v) w
    unfolding defuzzify defuzzify_items
    defuzzify_read xs w =
        let c = holding (bare_output v) in
        let r = range_items v.range in
        let g = gather singleton_items v.terms in
        let more = r ++ (g ++ behind xs) in
        ap (λ (l : List Item). defuzzify (at f (word "DEFUZZIFY" ∷ name v.name ∷ l) c w))
        (append_assoc r (g ++ behind []) xs ∙ ap (λ (l : List Item). r ++ l) (append_assoc g (behind []) xs))
        ∙ ap defuzzify_variable (expects DEFUZZIFY f _ (name v.name ∷ more) c w)
        ∙ variable_start more c w
        ∙ ap (λ (o : ℕ). defuzzify_of o (at f (name v.name ∷ more) c w)) output_here
        ∙ body xs w
