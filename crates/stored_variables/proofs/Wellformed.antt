-- Where names are exact, the tests of the stored variables are those of the block's variables.
use mathlib.Core.Path.{◌≡◌, refl, sym, ap, ◌∙◌, subst}
use mathlib.Core.List.{List, ◌++◌, map}
use mathlib.Core.Bool.{Bool, true, false, ◌&&◌}
use mathlib.Core.Option.{Option}
use Prim.Native.Nat.{ℕ, zero, suc, ◌+◌, ◌-◌, ◌*◌}
use native.Mathlib.Omega.{arith}
use Rattle.model.specs.Basic.{between, every, all, distinct, tab}
use Rattle.model.specs.Bounds.{input_limit, output_limit, term_limit}
use Rattle.model.specs.Tokens.{is_name, same_name}
use Rattle.model.specs.WellFormed.{term_ok, input_ok, range_ok, default_ok, singleton_ok, output_ok}
use Rattle.model.specs.Image.{name_at, term_at, singleton_at, input_at, output_at, decode, BLOCK_NAME, INPUT_TABLE, INPUTS, OUTPUT_TABLE, OUTPUTS, RULE_BLOCK_NAME, TERM_TABLE}
use Rattle.model.specs.Block.{Range}
use Rattle.laws.proofs.Lists.{map_tab, all_at}
use Rattle.laws.proofs.Places.{length_tab, tab_ext}
use Rattle.laws.proofs.Tests.{both}
use Rattle.name_letters.proofs.Tables.{Named, Exact, name_in, distinct_names, joined_names}
use Rattle.layout.specs.Tables.{input_count, output_count, output_first_at}
use Rattle.layout.specs.Groups.{tables_ok, variables_ok}
use Rattle.layout.proofs.Parts.{input_first}
use Rattle.stored_terms.specs.Stored.{terms_apart}
use Rattle.stored_outputs.specs.Stored.{output_stored}
use Rattle.stored_variables.specs.Stored.{input_stored, variables_apart, variables_stored}
use Rattle.stored_variables.proofs.Exact.{Span, Laid, exact_names}

all_same : {A : Type 0} (g : ℕ → Bool) (h : A → Bool) (f : ℕ → A) (n i : ℕ) → Span (λ k. g k ≡ h (f k)) n i → all g (tab (λ k. k) n i) ≡ all h (tab f n i)
unfolding all tab
all_same g h f zero i e = refl
all_same g h f (suc n) i e =
    λ j. e i (omega arith) (omega arith) j && all_same g h f n (suc i) (λ k a b. e k (omega arith) (omega arith)) j

-- a test counts only where those before it pass
given : (a x y : Bool) → (a ≡ true → x ≡ y) → a && x ≡ a && y
given true x y h = h refl
given false x y h = refl

module _ (w : ℕ → ℕ) where
  -- rows whose names are exact, and names
  names_in : {A : Type 0} (ok : A → Bool) (f : ℕ → A) (o s : ℕ) → ((k : ℕ) → ok (f k) ≡ true → is_name (name_at w (o + k * s)) ≡ true)
      → (n i : ℕ) → Laid w o s n i → all ok (tab f n i) ≡ true → Exact w o s n i
  names_in ok f o s name n i x h k a b =
      let e : i + (k - i) ≡ k = omega arith in
      (x k a b, name k (subst (λ (j : ℕ). ok (f j) ≡ true) e (all_at ok f n i (k - i) (omega arith) h)))

  apart_same : (s k : ℕ) → Exact w (w TERM_TABLE) 6 k s → terms_apart w s k ≡ distinct same_name (tab (λ t. name_at w (w TERM_TABLE + t * 6)) k s)
  unfolding terms_apart
  apart_same s k x =
      let e : (j : ℕ) → w TERM_TABLE + (s + j) * 6 ≡ w TERM_TABLE + s * 6 + j * 6 = λ j. omega arith in
      let q = w TERM_TABLE + s * 6 in
      let p : Exact w q 6 k 0 = λ j a b. subst (Named w) (e j) (x (s + j) (omega arith) (omega arith)) in
      let moved : tab (name_in w q 6) k 0 ≡ tab (λ t. name_at w (w TERM_TABLE + t * 6)) k s =
      tab_ext (name_in w q 6) (λ t. name_at w (w TERM_TABLE + t * 6)) k 0 s (λ j l. ap (name_at w) (omega arith)) in
      distinct_names w q 6 k 0 p ∙ ap (λ (l : List (List ℕ)). distinct same_name l) moved

  term_named : (k : ℕ) → term_ok (term_at w k) ≡ true → is_name (name_at w (w TERM_TABLE + k * 6)) ≡ true
  unfolding term_ok term_at every
  term_named k h = (both (is_name (name_at w (w TERM_TABLE + k * 6))) _ h).0

  input_same : (i : ℕ) → Laid w (w TERM_TABLE) 6 (input_count w i) (input_first w i) → input_stored w i ≡ input_ok (input_at w i)
  unfolding input_stored input_ok input_at every
  input_same i x =
      let o = w INPUT_TABLE + i * 7 in
      let k = w (o + 6) in
      let s = w (o + 5) in
      let terms = all term_ok (tab (term_at w) k s) in
      let d : terms ≡ true → terms_apart w s k ≡ distinct same_name (map (λ t. t.name) (tab (term_at w) k s)) =
      λ h. apart_same s k (names_in term_ok (term_at w) (w TERM_TABLE) 6 term_named k s x h)
      ∙ ap (λ (l : List (List ℕ)). distinct same_name l) (sym (unfold term_at in (map_tab (λ t. t.name) (term_at w) k s))) in
      λ j.
      is_name (name_at w o)
      && (between 1 term_limit (sym (length_tab (term_at w) k s) j) && given terms _ _ (λ h. ap (λ (b : Bool). b && true) (d h)) j)

  singleton_named : (g : Option Range) (k : ℕ) → singleton_ok g (singleton_at w k) ≡ true → is_name (name_at w (w TERM_TABLE + k * 6)) ≡ true
  unfolding singleton_ok singleton_at
  singleton_named g k h = (both (is_name (name_at w (w TERM_TABLE + k * 6))) _ h).0

  output_same : (i : ℕ) → Laid w (w TERM_TABLE) 6 (output_count w i) (output_first_at w i) → output_stored w i ≡ output_ok (output_at w i)
  unfolding output_stored output_ok output_at every
  output_same i x =
      let o = w OUTPUT_TABLE + i * 11 in
      let k = w (o + 5) in
      let s = w (o + 4) in
      let g = (output_at w i).range in
      let terms = all (singleton_ok g) (tab (singleton_at w) k s) in
      let d : terms ≡ true → terms_apart w s k ≡ distinct same_name (map (λ t. t.name) (tab (singleton_at w) k s)) =
      λ h. apart_same s k (names_in (singleton_ok g) (singleton_at w) (w TERM_TABLE) 6 (singleton_named g) k s x h)
      ∙ ap (λ (l : List (List ℕ)). distinct same_name l) (sym (unfold singleton_at in (map_tab (λ t. t.name) (singleton_at w) k s))) in
      λ j.
      is_name (name_at w o)
      && (between 1 term_limit (sym (length_tab (singleton_at w) k s) j)
      && (range_ok g && given terms _ _ (λ h. ap (λ (b : Bool). b && (default_ok g (output_at w i).default && true)) (d h)) j))

  abbrev input_names : List (List ℕ)
  input_names = map (λ v. v.name) (tab (input_at w) (w INPUTS) 0)

  abbrev output_names : List (List ℕ)
  output_names = map (λ v. v.name) (tab (output_at w) (w OUTPUTS) 0)

  variables_apart_lem : Exact w (w INPUT_TABLE) 7 (w INPUTS) 0 → Exact w (w OUTPUT_TABLE) 11 (w OUTPUTS) 0 → variables_apart w ≡ distinct same_name (input_names ++ output_names)
  unfolding variables_apart input_at output_at
  variables_apart_lem p q =
      sym (joined_names w (w INPUT_TABLE) 7 (w INPUTS) (w OUTPUT_TABLE) 11 (w OUTPUTS) p q)
      ∙ (λ j. distinct same_name (sym (map_tab (λ v. v.name) (input_at w) (w INPUTS) 0) j ++ sym (map_tab (λ v. v.name) (output_at w) (w OUTPUTS) 0) j))

  input_named : (k : ℕ) → input_ok (input_at w k) ≡ true → is_name (name_at w (w INPUT_TABLE + k * 7)) ≡ true
  unfolding input_ok input_at every
  input_named k h = (both (is_name (name_at w (w INPUT_TABLE + k * 7))) _ h).0

  output_named : (k : ℕ) → output_ok (output_at w k) ≡ true → is_name (name_at w (w OUTPUT_TABLE + k * 11)) ≡ true
  unfolding output_ok output_at every
  output_named k h = (both (is_name (name_at w (w OUTPUT_TABLE + k * 11))) _ h).0

  pub variables_same : tables_ok w ≡ true → variables_stored w ≡ variables_ok w
  unfolding variables_stored variables_ok decode every
  variables_same h =
      let f = exact_names w h in
      let inputs = all input_ok (tab (input_at w) (w INPUTS) 0) in
      let outputs = all output_ok (tab (output_at w) (w OUTPUTS) 0) in
      let ins = all_same (input_stored w) input_ok (input_at w) (w INPUTS) 0 (λ i l m. input_same i (f.input_terms i (omega arith))) in
      let outs = all_same (output_stored w) output_ok (output_at w) (w OUTPUTS) 0 (λ i l m. output_same i (f.output_terms i (omega arith))) in
      let d : inputs ≡ true → outputs ≡ true → variables_apart w ≡ distinct same_name (input_names ++ output_names) =
      λ a b. variables_apart_lem (names_in input_ok (input_at w) (w INPUT_TABLE) 7 input_named (w INPUTS) 0 f.inputs a) (names_in output_ok (output_at w) (w OUTPUT_TABLE) 11 output_named (w OUTPUTS) 0 f.outputs b) in
      let last : inputs && (outputs && (variables_apart w && true)) ≡ inputs && (outputs && (distinct same_name (input_names ++ output_names) && true)) =
      given inputs _ _ (λ a. given outputs _ _ (λ b. ap (λ (t : Bool). t && true) (d a b))) in
      let rest = (λ j. ins j && (outs j && (variables_apart w && true))) ∙ last in
      λ j.
      is_name (name_at w BLOCK_NAME)
      && (is_name (name_at w RULE_BLOCK_NAME)
      && (between 1 input_limit (sym (length_tab (input_at w) (w INPUTS) 0) j) && (between 1 output_limit (sym (length_tab (output_at w) (w OUTPUTS) 0) j) && rest j)))
