-- The empty tables, the sections up to the rule block, the parts that are there, and the end.
use Rattle.std.specs.Prelude.{None}
use mathlib.Core.Path.{◌≡◌, refl, sym, ap, ◌∙◌}
use mathlib.Core.Bool.{Bool, true, false, ◌&&◌, not}
use mathlib.Core.List.{List, [], ◌∷◌, map}
use Prim.Native.Nat.{ℕ, zero, suc, ◌+◌, ◌-◌, ◌*◌, ◌≤◌, ◌<◌}
use native.Mathlib.Omega.{arith}
use native.Mathlib.Numerals.{add-one}
use Rattle.std.specs.List.{list_all, range_with_len}
use borrow.Author.Tests.{eq-eqb, ne_eqb, lt-ltb, le-ltb, ltb-true, ltb-false}
use lib.Dec.{eqb, ltb}
use lib.ListN.{length, get_or, replicate}
use Rattle.model.specs.Basic.{all, is_empty, tab}
use Rattle.model.specs.Block as block
use Rattle.model.specs.Block.{Block, terms_of, singletons_of, empty_block, with_name}
use Rattle.model.specs.Bounds.{input_limit, output_limit, point_limit, variable_limit, input_term_limit, output_term_limit, symbol_limit}
use Rattle.model.specs.Keywords.{END, DEFUZZIFY, END_FUNCTION_BLOCK, END_RULEBLOCK, FUNCTION_BLOCK, FUZZIFY}
use Rattle.model.specs.Parse.{Parse, Part, is, refuse, advance, judged, expect, repeated, own_name}
use Rattle.model.specs.Declarations.{fuzzify, defuzzify}
use Rattle.model.specs.Tokens.{tokens}
use Rattle.model.specs.Reader.{start, parts_there, end_of_block}
use Rattle.laws.proofs.Arrays.{replicate_at}
use Rattle.block_tables.specs.declared.Tables.{Tables}
use Rattle.block_tables.specs.declared.Term.{Term}
use Rattle.block_tables.specs.View.{no_input, no_output, no_term, no_singleton, block_view, Stands, Indexed, Holds}
use Rattle.cursor.specs.declared.Cursor.{Cursor}
use Rattle.cursor.specs.View.{seen, Fits, Step}
use Rattle.cursor.proofs.Laws.{kind_seen, block_seen, steps, lost_kind}
use Rattle.parse_state.specs.Reads.{view, Reads}
use Rattle.parse_state.specs.Beside.{Ready, Collects}
use Rattle.parse_state.proofs.Laws as reading
use Rattle.parse_state.proofs.Laws.{at}
use Rattle.declaration_text.specs.declared.BlockName.{BlockName}
use Rattle.declaration_text.specs.declared.DeclaredInputs.{DeclaredInputs}
use Rattle.declaration_text.specs.declared.DeclaredOutputs.{DeclaredOutputs}
use Rattle.declaration_text.specs.Declares.{unnamed, with_block_name, with_inputs, with_outputs}
use Rattle.fuzzify_text.specs.declared.Inputs.{Inputs}
use Rattle.fuzzify_text.specs.Terms.{inputs_in}
use Rattle.defuzzify_text.specs.declared.Outputs.{Outputs}
use Rattle.defuzzify_text.specs.Output.{with_outputs as outputsIn}
use Rattle.symbol_table.specs.Symbols.{Describes, first, input_count, output_count}
use Rattle.block_text.specs.Block.{blank_term, no_inputs, no_outputs, no_terms, no_singletons, inputs_text, outputs_text, front_text}
use Rattle.block_text.specs.Block.{back_text, block_end, text_end, back_to, have_terms, all_have_terms, Ends}

-- THE EMPTY TABLES
abbrev pub empty : Tables
empty = record {
  start = 0;
  end = 0;
  input_count = 0;
  output_count = 0;
  inputs = replicate input_limit no_input;
  outputs = replicate output_limit no_output;
  input_terms = replicate input_term_limit blank_term;
  output_terms = replicate output_term_limit no_singleton;
  names = replicate (symbol_limit * 2) 0;
}

empty_view : (s : List ℕ) → block_view s empty ≡ empty_block
unfolding block_view tab
empty_view s = refl

-- what holds of an array's one value, and past its end
alike : {A : Type 0} (P : A → Type 0) (n k : ℕ) (a d : A) → P a → P d → P (get_or (replicate n a) k d)
alike P zero k a d p q = q
alike P (suc n) zero a d p q = p
alike P (suc n) (suc k) a d p q = alike P n k a d p q

alike_within : {A : Type 0} (P : A → Type 0) (n k : ℕ) (a d : A) → k < n → P a → P (get_or (replicate n a) k d)
alike_within P zero k a d h p = absurd (omega arith)
alike_within P (suc n) zero a d h p = p
alike_within P (suc n) (suc k) a d h p = alike_within P n k a d (omega arith) p

no_place : (k : ℕ) → get_or empty.names k 0 ≡ 0
no_place k = replicate_at {A = ℕ} (symbol_limit * 2) k 0

-- rows of one value stand at 0
module _ {A : Type 0} (start end : A → ℕ) (n : ℕ) (a d : A) (s₁ : start a ≡ 0) (s₂ : start d ≡ 0) (e₁ : end a ≡ 0) (e₂ : end d ≡ 0) where
  stand : (p k : ℕ) → Stands empty.names p (start (get_or (replicate n a) k d)) (end (get_or (replicate n a) k d))
  stand p k = (
    no_place p ∙ sym (alike (λ (v : A). start v ≡ 0) n k a d s₁ s₂),
    no_place (symbol_limit + p) ∙ sym (alike (λ (v : A). end v ≡ 0) n k a d e₁ e₂),
  )

empty_indexed : Indexed empty.names empty
empty_indexed = record {
  input = λ i h. stand (λ v. v.start) (λ v. v.end) input_limit no_input no_input refl refl refl refl i i;
  output = λ o h. stand (λ v. v.start) (λ v. v.end) output_limit no_output no_output refl refl refl refl (input_limit + o) o;
  term = λ k h. stand (λ v. v.start) (λ v. v.end) input_term_limit blank_term no_term refl refl refl refl (variable_limit + k) k;
  singleton = λ k h. stand (λ v. v.start) (λ v. v.end) output_term_limit no_singleton no_singleton refl refl refl refl
      (variable_limit + input_term_limit + k) k;
}

pub empty_holds : (s : List ℕ) → Holds s empty
empty_holds s = record {
  order = omega arith;
  inside = omega arith;
  placed = record { order = λ k h. rw (no_place k, no_place (symbol_limit + k)) (omega arith); inside = λ k. rw (no_place k) (omega arith) };
  indexed = empty_indexed;
  input_count = omega arith;
  output_count = omega arith;
  input_terms = λ i. rw (replicate_at input_limit i no_input) (omega arith);
  output_terms = λ o. rw (replicate_at output_limit o no_output) (omega arith);
  point_counts = λ k. alike (λ (v : Term). v.count ≤ point_limit) input_term_limit k blank_term no_term (omega arith) (omega arith);
  names_size = refl;
  inputs_size = refl;
  outputs_size = refl;
  terms_size = refl;
  points_size = λ k h. alike_within (λ (v : Term). length v.points ≡ point_limit) input_term_limit k blank_term no_term h refl;
  singletons_size = refl;
}

pub begun : (s : List ℕ) (c : Cursor) → ((b : Block) (n : ℕ) → seen s c b n ≡ record { rest = tokens s; why = 0; place = 0; block = b; words = n })
    → view s (record { cursor = c; tables = empty }) ≡ start s
unfolding view
begun s c e = e (block_view s empty) 0 ∙ ap (λ (b : Block). record { rest = tokens s; why = 0; place = 0; block = b; words = 0 }) (empty_view s)

-- ONE SECTION AFTER THE OTHER, each beside the tables that those before it left
module _ (s : List ℕ) (a b : Cursor) (n : BlockName) (x : Step (expect FUNCTION_BLOCK) s a b)
    (y : Collects (own_name with_name) s (with_block_name (unnamed b)) (with_block_name n)) where
  called : Reads (λ r. own_name with_name (expect FUNCTION_BLOCK r)) s (at a empty) (with_block_name n empty)
  called = reading.next (reading.step empty (empty_holds s) x) (y empty (record { fits = x.fits; holds = empty_holds s }))

  pub ready_inputs : Ready s (with_inputs 0 empty.names (no_inputs n.cursor))
  ready_inputs = record { tables = (with_block_name n empty).tables; good = called.good }

  module _ (names₁ : List ℕ) (i : DeclaredInputs)
      (z : Collects inputs_text s (with_inputs 0 empty.names (no_inputs n.cursor)) (with_inputs 0 names₁ i)) where
    abbrev taking : Tables
    taking = (with_inputs 0 names₁ i (with_block_name n empty).tables).tables

    takes : Reads (λ r. inputs_text (own_name with_name (expect FUNCTION_BLOCK r))) s (at a empty) (at i.cursor taking)
    takes = reading.next called (z (with_block_name n empty).tables called.good)

    pub ready_outputs : Ready s (with_outputs i.count names₁ (no_outputs i.cursor))
    ready_outputs = record { tables = taking; good = takes.good }

    module _ (names₂ : List ℕ) (o : DeclaredOutputs)
        (u : Collects outputs_text s (with_outputs i.count names₁ (no_outputs i.cursor)) (with_outputs i.count names₂ o)) where
      abbrev giving : Tables
      giving = (with_outputs i.count names₂ o taking).tables

      gives : Reads (λ r. outputs_text (inputs_text (own_name with_name (expect FUNCTION_BLOCK r)))) s (at a empty) (at o.cursor giving)
      gives = reading.next takes (u taking takes.good)

      pub ready_terms : Ready s (inputs_in names₂ (no_terms o.cursor i))
      ready_terms = record { tables = giving; good = gives.good }

      module _ (names₃ : List ℕ) (p : Inputs)
          (v : Collects (λ q. repeated FUZZIFY fuzzify (fuzzify q)) s (inputs_in names₂ (no_terms o.cursor i)) (inputs_in names₃ p)) where
        abbrev fuzzifying : Tables
        fuzzifying = (inputs_in names₃ p giving).tables

        fuzzifies : Reads (λ r. repeated FUZZIFY fuzzify (fuzzify (outputs_text (inputs_text (own_name with_name (expect FUNCTION_BLOCK r)))))) s (at a empty)
            (at p.cursor fuzzifying)
        fuzzifies = reading.next gives (v giving gives.good)

        pub ready_singletons : Ready s (outputsIn names₃ (no_singletons p.cursor o))
        ready_singletons = record { tables = fuzzifying; good = fuzzifies.good }

        pub whole : {names₄ : List ℕ} {q : Outputs}
            → Collects (λ r. repeated DEFUZZIFY defuzzify (defuzzify r)) s (outputsIn names₃ (no_singletons p.cursor o)) (outputsIn names₄ q)
            → Reads front_text s (at a empty) (outputsIn names₄ q fuzzifying)
        unfolding front_text
        whole w = reading.next fuzzifies (w fuzzifying fuzzifies.good)

-- EVERY VARIABLE HAS ITS PART
filled : {A : Type 0} (l : List A) → not (is_empty l) ≡ ltb 0 (length l)
filled [] = sym (le-ltb 0 0 (omega arith))
filled (x ∷ l) = sym (lt-ltb 0 (suc (length l)) (omega arith))

parts_by : {A B : Type 0} (f : A → List B) (h : ℕ → Bool) (l : List A) (p : ℕ) → ((i : ℕ) → i < length l → h (p + i) ≡ ltb 0 (length (get_or (map f l) i [])))
    → all (λ v. not (is_empty (f v))) l ≡ all h (tab (λ k. k) (length l) p)
unfolding all tab
parts_by f h [] p e = refl
parts_by f h (x ∷ l) p e =
    let z : p + 0 ≡ p = omega arith in
    let q = filled (f x) ∙ sym (e 0 (omega arith)) ∙ ap h z in
    let r = parts_by f h l (suc p) (λ i b. ap h (omega arith) ∙ e (suc i) (omega arith)) in
    λ j. q j && r j

above : (x y : ℕ) → ltb x y ≡ ltb 0 (y - x)
above x y = by (ltb x y) refl
  where
    by : (t : Bool) → ltb x y ≡ t → ltb x y ≡ ltb 0 (y - x)
    by true q = let w = ltb-true x y q in q ∙ sym (lt-ltb 0 (y - x) (omega arith))
    by false q = let w = ltb-false x y q in q ∙ sym (le-ltb 0 (y - x) (omega arith))

-- the test along a range is the one of the definition
along : (f : ℕ → Bool) (n v : ℕ) → list_all f (range_with_len v n) ≡ all f (tab (λ k. k) n v)
unfolding all tab
along f zero v = refl
along f (suc n) v = rw (sym (along f n (suc v))) (rw add-one refl)

pub along_range : (symbols : List ℕ) (v n : ℕ) → list_all (λ k. ltb (first symbols k) (first symbols (k + 1))) (range_with_len v (v + n - v)) ≡ have_terms symbols v n
unfolding have_terms
along_range symbols v n =
    let z : v + n - v ≡ n = omega arith in
    rw z (along (λ k. ltb (first symbols k) (first symbols (k + 1))) n v)

module _ (s names symbols : List ℕ) (b : Block) (d : Describes s names symbols b) where
  inputs_there : all (λ v. not (is_empty v.terms)) b.inputs ≡ have_terms symbols 0 (input_count symbols)
  unfolding have_terms terms_of
  inputs_there =
      parts_by (λ (v : block.Input). v.terms) (λ k. ltb (first symbols k) (first symbols (k + 1))) b.inputs 0
      (λ i h. let z : 0 + i ≡ i = omega arith in ap (λ (k : ℕ). ltb (first symbols k) (first symbols (k + 1))) z
      ∙ above (first symbols i) (first symbols (i + 1)) ∙ ap (ltb 0) (sym (d.terms i (omega (arith, d.inputs)))))
      ∙ ap (λ (n : ℕ). all (λ k. ltb (first symbols k) (first symbols (k + 1))) (tab (λ k. k) n 0)) d.inputs

  outputs_there : all (λ v. not (is_empty v.terms)) b.outputs ≡ have_terms symbols input_limit (output_count symbols)
  unfolding have_terms singletons_of
  outputs_there =
      parts_by (λ (v : block.Output). v.terms) (λ k. ltb (first symbols k) (first symbols (k + 1))) b.outputs input_limit
      (λ o h. above (first symbols (input_limit + o)) (first symbols (input_limit + o + 1)) ∙ ap (ltb 0) (sym (d.singletons o (omega (arith, d.outputs)))))
      ∙ ap (λ (n : ℕ). all (λ k. ltb (first symbols k) (first symbols (k + 1))) (tab (λ k. k) n input_limit)) d.outputs

  pub parts_there_lem : parts_there b ≡ all_have_terms symbols
  unfolding parts_there all_have_terms
  parts_there_lem = λ j. inputs_there j && outputs_there j

-- THE END
-- a step by another part that reads the same there
as_step : {f g : Part} {s : List ℕ} {c r : Cursor} → ((b : Block) (n : ℕ) → f (seen s c b n) ≡ g (seen s c b n)) → Step g s c r → Step f s c r
as_step e x = record { reads = λ b n. x.reads b n ∙ sym (e b n); fewer = x.fewer; fits = x.fits; sticky = x.sticky }

-- the end of the text stays
module _ (s : List ℕ) (r : Cursor) where
  ended : r.kind ≡ END → Fits s r → Step text_end s r r
  unfolding text_end
  ended h f = record { reads = λ b n. sym (simp (kind_seen s r b n, eq-eqb _ _ h) refl); fewer = omega arith; fits = f; sticky = λ q. q }

  more : (q : Cursor) → (r.kind ≡ END → ⊥) → Step (refuse 2) s r q → Step text_end s r q
  unfolding text_end
  more q h = as_step {f = text_end} {g = refuse 2} {s = s} {c = r} {r = q} (λ b n. simp (kind_seen s r b n, ne_eqb _ _ h) refl)

module _ (complete : Bool) (s : List ℕ) (c d : Cursor) (x : Step (expect END_RULEBLOCK) s c d) where
  to_end : (e r : Cursor) → Step (block_end complete) s d e → Step text_end s e r → Step (back_to complete) s c r
  unfolding back_to
  to_end e r y z = steps (steps x y) z

  -- refused at the end of the block
  lost : (w : ℕ) (r : Cursor) → (r.refused ≡ None → ⊥) → ((b : Block) (n : ℕ) → block_end complete (seen s d b n) ≡ refuse w (seen s d b n))
      → Step (refuse w) s d r → Step (back_to complete) s c r
  lost w r h e y = to_end r r (as_step e y) (ended s r (lost_kind s r y.fits h) y.fits)

  pub no_end : (r : Cursor) → (r.refused ≡ None → ⊥) → (d.kind ≡ END_FUNCTION_BLOCK → ⊥) → Step (refuse 2) s d r → Step (back_to complete) s c r
  unfolding block_end judged
  no_end r h k = lost 2 r h (λ b n. simp (kind_seen s d b n, ne_eqb _ _ k) refl)

  module _ (k : d.kind ≡ END_FUNCTION_BLOCK) where
    pub part_missing : (r : Cursor) → (r.refused ≡ None → ⊥) → complete ≡ false → Step (refuse 9) s d r → Step (back_to complete) s c r
    unfolding block_end judged
    part_missing r h f = lost 9 r h (λ b n. simp (kind_seen s d b n, eq-eqb _ _ k, f) refl)

    module _ (e : Cursor) (t : complete ≡ true) (y : Step advance s d e) where
      block_ended : Step (block_end complete) s d e
      unfolding block_end judged
      block_ended = as_step {f = block_end complete} {g = advance} {s = s} {c = d} {r = e} (λ b n. simp (kind_seen s d b n, eq-eqb _ _ k, t) refl) y

      pub at_end : e.kind ≡ END → Step (back_to complete) s c e
      at_end h = to_end e e block_ended (ended s e h y.fits)

      pub not_at_end : (r : Cursor) → (e.kind ≡ END → ⊥) → Step (refuse 2) s e r → Step (back_to complete) s c r
      not_at_end r h z = to_end e r block_ended (more s e r h z)

-- `back_to` has the outcome of `back_text`
expect_block : (k : ℕ) (q : Parse) → (expect k q).block ≡ q.block
unfolding expect advance refuse
expect_block k q = by (is k q) (eqb q.why 0) refl refl
  where
    by : (t u : Bool) → is k q ≡ t → eqb q.why 0 ≡ u → (expect k q).block ≡ q.block
    by true u e f = simp e
    by false true e f = simp (e, f)
    by false false e f = simp (e, f)

text_ends : (q : Parse) → Ends (text_end q) (expect END q)
unfolding text_end expect advance
text_ends q = by (is END q) refl
  where
    by : (t : Bool) → is END q ≡ t → Ends (text_end q) (expect END q)
    by true e = simp e (record { why = refl; place = refl; block = refl })
    by false e = simp e (record { why = refl; place = refl; block = refl })

pub back_ends : (complete : Bool) (s : List ℕ) (c r : Cursor) → Step (back_to complete) s c r → (b : Block) (n : ℕ) → parts_there b ≡ complete
    → Ends (seen s r b n) (back_text (seen s c b n))
unfolding back_to back_text end_of_block block_end
back_ends complete s c r x b n p =
    let q = expect END_RULEBLOCK (seen s c b n) in
    let e : parts_there q.block ≡ complete = ap parts_there (expect_block END_RULEBLOCK (seen s c b n) ∙ block_seen s c b n) ∙ p in
    rw (x.reads b n, e) (text_ends (block_end complete q))
