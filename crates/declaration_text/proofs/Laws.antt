-- What a new variable is judged by, and what it changes.
use Rattle.std.specs.Prelude.{if◌then◌else◌}
use mathlib.Core.Path.{◌≡◌, refl, sym, ap, ◌∙◌}
use mathlib.Core.Bool.{Bool, ◌||◌, not}
use mathlib.Core.List.{List, [], ◌∷◌}
use Prim.Native.Nat.{ℕ, ◌≤◌, ◌<◌}
use native.Mathlib.Omega.{arith}
use borrow.Author.Tests.{eq-eqb, ne_eqb, lt-ltb, le-ltb}
use lib.Dec.{ltb}
use Rattle.model.specs.Block.{Block, with_name}
use Rattle.model.specs.Bounds.{input_limit}
use Rattle.model.specs.Keywords.{COLON, SEMICOLON, REAL, END, INT}
use Rattle.model.specs.Parse.{Checks, text, refuse, advance, change, expect, listed, a_name, own_name}
use Rattle.model.specs.Declarations.{input_of, output_of, is_input, is_output, add_input, int_from, variable, input_type, input_count, input_declaration}
use Rattle.cursor.specs.declared.Cursor.{Cursor}
use Rattle.cursor.specs.View.{seen, text_of, Fits, Step, fault}
use Rattle.cursor.proofs.Laws.{text_seen, block_seen, fault_bad, fault_good, numbered}
use Rattle.block_tables.specs.declared.Tables.{Tables}
use Rattle.block_tables.specs.View.{block_view, Holds}
use Rattle.block_tables.specs.Changes.{Changes}
use Rattle.block_tables.proofs.Lookups as lookups
use Rattle.parse_state.specs.declared.ParseState.{ParseState}
use Rattle.parse_state.specs.Reads.{view, Reads}
use Rattle.parse_state.proofs.Laws as reading
use Rattle.declaration_text.specs.Declares.{Declares, new_checks}

-- NAMES
module _ (s : List ℕ) (c : Cursor) (names : List ℕ) (m n : ℕ) (b : Block) (k : ℕ) (d : Declares s names m n b) where
  input_is : (i : ℕ) → i ≡ input_of (text_of s c) b → is_input (text (seen s c b k)) (seen s c b k).block ≡ ltb i m
  input_is i e = simp (text_seen s c b k, block_seen s c b k, d.inputs) (ap (λ (j : ℕ). ltb j m) (sym e))

  output_is : (i : ℕ) → i ≡ output_of (text_of s c) b → is_output (text (seen s c b k)) (seen s c b k).block ≡ ltb i n
  output_is i e = simp (text_seen s c b k, block_seen s c b k, d.outputs) (ap (λ (j : ℕ). ltb j n) (sym e))

  module _ (room : Bool) where
    pub no_name : (w : ℕ) → w ≡ fault (a_name (seen s c b k) []) → (w ≡ 0 → ⊥) → w ≡ fault (new_checks (seen s c b k) room)
    no_name w e h = sym (fault_bad w (a_name (seen s c b k) []) _ (sym e) h)

    module _ (e : 0 ≡ fault (a_name (seen s c b k) [])) (i : ℕ) (q : i ≡ input_of (text_of s c) b) where
      tail : Checks
      tail = (not (is_input (text (seen s c b k)) (seen s c b k).block || is_output (text (seen s c b k)) (seen s c b k).block), 4) ∷ (room, 6) ∷ []

      named_so : fault (new_checks (seen s c b k) room) ≡ fault tail
      unfolding tail numbered
      named_so = fault_good (a_name (seen s c b k) []) _ refl (sym e)

      pub an_input : i < m → 4 ≡ fault (new_checks (seen s c b k) room)
      unfolding tail fault
      an_input h = sym (named_so ∙ simp (input_is i q, lt-ltb i m h) refl)

      module _ (h : m ≤ i) (o : ℕ) (u : o ≡ output_of (text_of s c) b) where
        pub an_output : o < n → 4 ≡ fault (new_checks (seen s c b k) room)
        unfolding tail fault
        an_output l = sym (named_so ∙ simp (input_is i q, le-ltb i m h, output_is o u, lt-ltb o n l) refl)

        pub a_new : n ≤ o → fault (new_checks (seen s c b k) room) ≡ (if room then 0 else 6)
        unfolding tail fault
        a_new l = named_so ∙ simp (input_is i q, le-ltb i m h, output_is o u, le-ltb o n l) refl

pub declares : (s : List ℕ) (t : Tables) → Holds s t → Declares s t.names t.input_count t.output_count (block_view s t)
unfolding block_view
declares s t g = record {
  inputs = lookups.inputs_count s t (block_view s t) refl;
  outputs = lookups.outputs_count s t (block_view s t) refl;
  input = lookups.input_of_lem s t (block_view s t) refl g;
  output = lookups.output_of_lem s t (block_view s t) refl g;
}

-- A NEW VARIABLE
module _ (add : List ℕ → Block → Block) (count : Block → ℕ) (limit : ℕ) (s : List ℕ) (c : Cursor) (t : Tables) (m : ℕ) (e : count (block_view s t) ≡ m) where
  same_checks : new_checks (view s (reading.at c t)) (ltb (count (view s (reading.at c t)).block) limit) ≡ new_checks (seen s c (block_view s t) 0) (ltb m limit)
  unfolding view
  same_checks = ap (λ (k : ℕ). new_checks (seen s c (block_view s t) 0) (ltb k limit)) (ap count (block_seen s c (block_view s t) 0) ∙ e)

  module _ (d : Cursor) (w : ℕ) (f : w ≡ fault (new_checks (seen s c (block_view s t) 0) (ltb m limit))) where
    pub variable_bad : Holds s t → (w ≡ 0 → ⊥) → Step (refuse w) s c d → Reads (variable add count limit) s (reading.at c t) (reading.at d t)
    unfolding variable
    variable_bad g h q = reading.refuses (new_checks (view s (reading.at c t)) (ltb (count (view s (reading.at c t)).block) limit)) _ refl w
        (ap fault same_checks ∙ sym f) h g q

    pub variable_good : (u : Tables) → Fits s c → (c.kind ≡ END → ⊥) → w ≡ 0 → Changes s t u (add (text_of s c)) → Step advance s c d
        → Reads (variable add count limit) s (reading.at c t) (reading.at d u)
    unfolding variable numbered
    variable_good u g k h x q =
        reading.passes (new_checks (view s (reading.at c t)) (ltb (count (view s (reading.at c t)).block) limit)) _ refl refl (ap fault same_checks ∙ sym f ∙ h)
        (reading.next (reading.changes s c t u (add (text_of s c)) g k x) (reading.step u x.holds q))
        (ap (λ (v : List ℕ). advance (change (add v) (view s (reading.at c t)))) (sym (reading.text_view s (reading.at c t))))

-- THE NAME, THE TYPE
module _ (s : List ℕ) (c : Cursor) (t : Tables) (d : Cursor) where
  pub name_bad : (w : ℕ) → w ≡ fault (a_name (seen s c (block_view s t) 0) []) → Holds s t → (w ≡ 0 → ⊥) → Step (refuse w) s c d
      → Reads (own_name with_name) s (reading.at c t) (reading.at d t)
  unfolding own_name view
  name_bad w f g h q = reading.refuses (a_name (view s (reading.at c t)) []) _ refl w (sym f) h g q

  pub name_good : (u : Tables) → 0 ≡ fault (a_name (seen s c (block_view s t) 0) []) → Fits s c → (c.kind ≡ END → ⊥)
      → Changes s t u (with_name (text_of s c)) → Step advance s c d → Reads (own_name with_name) s (reading.at c t) (reading.at d u)
  unfolding own_name view numbered
  name_good u f g k x q =
      reading.passes (a_name (view s (reading.at c t)) []) _ refl refl (sym f)
      (reading.next (reading.changes s c t u (with_name (text_of s c)) g k x) (reading.step u x.holds q))
      (ap (λ (v : List ℕ). advance (change (with_name v) (view s (reading.at c t)))) (sym (reading.text_view s (reading.at c t))))

  pub type_int : (n : ℕ) (u : Tables) → Fits s c → c.kind ≡ INT → Changes s t u (int_from n) → Step advance s c d
      → Reads (input_type n) s (reading.at c t) (reading.at d u)
  unfolding input_type
  type_int n u g k x q =
      reading.also (reading.next (reading.changes s c t u (int_from n) g (λ z. omega arith) x) (reading.step u x.holds q))
      (sym (simp (reading.kind_view, eq-eqb _ _ k)))

  pub type_real : (n : ℕ) → Holds s t → (c.kind ≡ INT → ⊥) → Step (expect REAL) s c d → Reads (input_type n) s (reading.at c t) (reading.at d t)
  unfolding input_type
  type_real n g k q = reading.also (reading.step t g q) (sym (simp (reading.kind_view, ne_eqb _ _ k)))

pub declaration_is : (s : List ℕ) (p : ParseState)
    → expect SEMICOLON (input_type p.tables.input_count (expect COLON (listed (variable add_input input_count input_limit) (view s p))))
    ≡ input_declaration (view s p)
unfolding input_declaration block_view
declaration_is s p =
    ap (λ (n : ℕ). expect SEMICOLON (input_type n (expect COLON (listed (variable add_input input_count input_limit) (view s p)))))
    (sym (ap input_count (reading.block_view_lem s p) ∙ lookups.inputs_count s p.tables (block_view s p.tables) refl))
