-- What a RANGE, a singleton, a default and a whole part are judged by, and what they change.
use Rattle.std.specs.Prelude.{Option, Some, None, MatchOption, if◌then◌else◌}
use mathlib.Core.Path.{◌≡◌, refl, sym, ap, ◌∙◌}
use mathlib.Core.Bool.{Bool, true, false, not}
use mathlib.Core.List.{List, [], ◌∷◌}
use Prim.Native.Nat.{ℕ, zero, suc, ◌+◌, ◌*◌, ◌≤◌, ◌<◌}
use native.Mathlib.Omega.{arith}
use borrow.Author.Tests.{eq-eqb, ne_eqb, lt-ltb, le-ltb}
use lib.Dec.{ltb, eqb}
use lib.IntN.{ℤ}
use lib.ListN.{length}
use lib.Signed.{lt_z}
use Rattle.model.specs.Basic.{is_empty, index_of, tab}
use Rattle.model.specs.Bounds.{input_limit, term_limit, variable_limit, input_term_limit}
use Rattle.model.specs.Block.{Block, Output, in_range, singletons_of, range_of, with_range, with_singleton, with_default}
use Rattle.model.specs.Keywords.{NUMBER, ASSIGN, DOTS, OPEN, CLOSE, SEMICOLON, TERM, END, NC, RANGE}
use Rattle.model.specs.Tokens.{value_of, same_name}
use Rattle.model.specs.Parse.{Parse, Checks, text, is, refuse, advance, change, expect, a_name, a_crisp, value_here}
use Rattle.model.specs.Declarations.{singleton_of, is_singleton, is_output, output_of, lower_end, upper_end, range_body, range_part, figure, singleton_body, output_term, default_value, defuzzify_of, defuzzify_variable, change_output}
use Rattle.cursor.specs.declared.Cursor.{Cursor}
use Rattle.cursor.specs.View.{seen, text_of, Fits, Step, fault}
use Rattle.cursor.proofs.Laws.{text_seen, block_seen, fault_bad, fault_good, numbered, lost_expect, lost_judged}
use Rattle.lookup.specs.Names.{name_of}
use Rattle.block_tables.specs.declared.Tables.{Tables}
use Rattle.block_tables.specs.declared.Output.{Output as Row}
use Rattle.block_tables.specs.View.{output_row, range_view, outputs_view, block_view, Holds}
use Rattle.block_tables.specs.Changes.{Changes}
use Rattle.block_tables.proofs.Lookups as lookups
use Rattle.parse_state.specs.declared.ParseState.{ParseState}
use Rattle.parse_state.specs.Reads.{view, Good, Reads}
use Rattle.parse_state.proofs.Laws as reading
use Rattle.defuzzify_text.specs.Output.{HasSingletons, Knows, figure_checks, term_checks, method_text, part_text}

-- whether there is a term or not
pub term_then : {A P P' : Type 0} {Q Q' : A → Type 0} (o : Option A) → (P → P') → ((x : A) → Q x → Q' x) → MatchOption o P Q → MatchOption o P' Q'
term_then None f g h = f h
term_then (Some x) f g h = g x h

outputs_are : (s : List ℕ) (t : Tables) → (block_view s t).outputs ≡ outputs_view s t
unfolding block_view
outputs_are s t = refl

singletons_count : (s : List ℕ) (t : Tables) (o : ℕ) → o < t.output_count → length (singletons_of o (block_view s t)) ≡ (output_row t o).terms
singletons_count s t o b = lookups.singletons_count s t (block_view s t) (outputs_are s t) o b

pub terms_are : {names : List ℕ} {o : ℕ} {v : Row} {t : Tables} → Knows names o v t → (output_row t o).terms ≡ v.terms
terms_are k = ap (λ (x : Row). x.terms) k.row_is

pub singletons : (s names : List ℕ) (t : Tables) (o : ℕ) (v : Row) → Holds s t → Knows names o v t → HasSingletons s names o v.terms (block_view s t)
singletons s names t o v g k = record {
  count = singletons_count s t o k.known ∙ terms_are k;
  singleton = λ w. lookups.singleton_of_lem s t (block_view s t) (outputs_are s t) g w o k.known
      ∙ (λ j. index_of (same_name w) (tab (name_of s (k.names_are j)) (k.row_is j).terms (variable_limit + (input_limit + o) * term_limit)));
}

-- the checks of a number by the row
pub by_row : (s names : List ℕ) (c : Cursor) (t : Tables) (o w : ℕ) (v : Row) → Knows names o v t
    → w ≡ fault (figure_checks (range_view v) (seen s c (block_view s t) 0)) → w ≡ fault (figure_checks (range_view (output_row t o)) (seen s c (block_view s t) 0))
by_row s names c t o w v k e = e ∙ ap (λ (x : Row). fault (figure_checks (range_view x) (seen s c (block_view s t) 0))) (sym k.row_is)

-- a number, and one check more
module _ (r : Parse) (t : Bool) where
  pub crisp_bad : (w : ℕ) → w ≡ fault (a_crisp r []) → (w ≡ 0 → ⊥) → fault (a_crisp r ((t, 7) ∷ [])) ≡ w
  crisp_bad w e h = fault_bad w (a_crisp r []) ((t, 7) ∷ []) (sym e) h

  pub crisp_good : 0 ≡ fault (a_crisp r []) → fault (a_crisp r ((t, 7) ∷ [])) ≡ (if t then 0 else 7)
  unfolding numbered fault
  crisp_good e = fault_good (a_crisp r []) ((t, 7) ∷ []) refl (sym e)

-- RANGE
pub figure_judged : (s : List ℕ) (c : Cursor) (b : Block) (n : ℕ) (v : Row) (x : ℤ) (t : Bool) → 0 ≡ fault (a_crisp (seen s c b n) [])
    → x ≡ value_of (text_of s c) → in_range (range_view v) x ≡ t
    → fault (figure_checks (range_view v) (seen s c b n)) ≡ (if t then 0 else 7)
figure_judged s c b n v x t e q h =
    crisp_good (seen s c b n) (in_range (range_view v) (value_here (seen s c b n))) e
    ∙ ap (λ (z : Bool). if z then 0 else 7) (ap (λ (w : List ℕ). in_range (range_view v) (value_of w)) (text_seen s c b n)
    ∙ ap (in_range (range_view v)) (sym q) ∙ h)

module _ (s : List ℕ) (c d : Cursor) (t : Tables) (o : ℕ) where
  abbrev r : Parse
  r = view s (reading.at c t)

  module _ (x : ℤ) where
    upper_bad : (w : ℕ) → fault (a_crisp r ((lt_z x (value_here r), 7) ∷ [])) ≡ w → (w ≡ 0 → ⊥) → Holds s t → Step (refuse w) s c d
        → Reads (upper_end o x) s (reading.at c t) (reading.at d t)
    unfolding upper_end
    upper_bad w e h g q = reading.refuses (a_crisp r ((lt_z x (value_here r), 7) ∷ [])) _ refl w e h g q

    pub upper_none : (w : ℕ) → w ≡ fault (a_crisp (seen s c (block_view s t) 0) []) → (w ≡ 0 → ⊥) → Holds s t → Step (refuse w) s c d
        → Reads (upper_end o x) s (reading.at c t) (reading.at d t)
    unfolding view
    upper_none w e h g q = upper_bad w (crisp_bad r (lt_z x (value_here r)) w e h) h g q

    module _ (e : 0 ≡ fault (a_crisp (seen s c (block_view s t) 0) [])) (y : ℤ) (v : y ≡ value_of (text_of s c)) where
      above : (b : Bool) → lt_z x y ≡ b → fault (a_crisp r ((lt_z x (value_here r), 7) ∷ [])) ≡ (if b then 0 else 7)
      unfolding view
      above b q =
          crisp_good r (lt_z x (value_here r)) e
          ∙ ap (λ (z : Bool). if z then 0 else 7) (ap (λ (w : List ℕ). lt_z x (value_of w)) (text_seen s c (block_view s t) 0) ∙ ap (lt_z x) (sym v) ∙ q)

      pub upper_low : lt_z x y ≡ false → Holds s t → Step (refuse 7) s c d → Reads (upper_end o x) s (reading.at c t) (reading.at d t)
      upper_low q g p = upper_bad 7 (above false q) (λ z. omega arith) g p

      pub upper_set : (u : Tables) → lt_z x y ≡ true → Fits s c → (c.kind ≡ END → ⊥)
          → Changes s t u (change_output (with_range (record { least = x; most = y })) o) → Step advance s c d
          → Reads (upper_end o x) s (reading.at c t) (reading.at d u)
      unfolding upper_end numbered
      upper_set u q g k z p = reading.passes (a_crisp r ((lt_z x (value_here r), 7) ∷ [])) _ refl refl (above true q)
          (reading.next (reading.changes s c t u _ g k z) (reading.step u z.holds p))
          (ap (λ (m : ℤ). advance (change (change_output (with_range (record { least = x; most = m })) o) r))
          (v ∙ ap value_of (sym (reading.text_view s (reading.at c t)))))

  -- after a refusal nothing follows
  pub range_lost : (w : ℕ) → w ≡ fault (a_crisp (seen s c (block_view s t) 0) []) → (w ≡ 0 → ⊥) → Holds s t → (d.refused ≡ None → ⊥) → Step (refuse w) s c d
      → Reads (range_body o) s (reading.at c t) (reading.at d t)
  unfolding range_body lower_end upper_end view
  range_lost w e h g l q =
      let b : Block = block_view s t in
      let x = reading.refuses {part = lower_end} (a_crisp r []) (advance r) refl w (sym e) h g q in
      let ok = q.fits in
      reading.also x
      (sym (ap (λ (z : Parse). expect SEMICOLON (expect CLOSE (upper_end o (value_here r) (expect DOTS z)))) (sym x.reads)
      ∙ ap (λ (z : Parse). expect SEMICOLON (expect CLOSE (upper_end o (value_here r) z))) (lost_expect s d ok l b 0 DOTS (λ z. omega arith))
      ∙ ap (λ (z : Parse). expect SEMICOLON (expect CLOSE z)) (lost_judged s d ok l b 0 NUMBER _ _ (λ z. omega arith))
      ∙ ap (expect SEMICOLON) (lost_expect s d ok l b 0 CLOSE (λ z. omega arith))
      ∙ lost_expect s d ok l b 0 SEMICOLON (λ z. omega arith) ∙ x.reads))

  pub is_crisp_lem : 0 ≡ fault (a_crisp (seen s c (block_view s t) 0) []) → Holds s t → Step advance s c d → Reads lower_end s (reading.at c t) (reading.at d t)
  unfolding lower_end view numbered
  is_crisp_lem e g q = reading.passes (a_crisp r []) (advance r) refl refl (sym e) (reading.step t g q) refl

  -- NUMBERS FOR AN OUTPUT
  module _ (with : ℤ → Output → Output) (b : o < t.output_count) where
    checks : a_crisp r ((in_range (range_of o r.block) (value_here r), 7) ∷ []) ≡ figure_checks (range_view (output_row t o)) (seen s c (block_view s t) 0)
    unfolding view
    checks = ap (λ g. figure_checks g (seen s c (block_view s t) 0))
        (ap (range_of o) (block_seen s c (block_view s t) 0) ∙ lookups.range_is s t (block_view s t) (outputs_are s t) o b)

    pub figure_none : (w : ℕ) → w ≡ fault (figure_checks (range_view (output_row t o)) (seen s c (block_view s t) 0)) → (w ≡ 0 → ⊥) → Holds s t
        → Step (refuse w) s c d
        → Reads (figure with o) s (reading.at c t) (reading.at d t)
    unfolding figure
    figure_none w e h g q = reading.refuses (a_crisp r ((in_range (range_of o r.block) (value_here r), 7) ∷ [])) _ refl w
        (ap fault checks ∙ sym e) h g q

    pub figure_set : (u : Tables) (y : ℤ) → 0 ≡ fault (figure_checks (range_view (output_row t o)) (seen s c (block_view s t) 0))
        → y ≡ value_of (text_of s c) → Fits s c → (c.kind ≡ END → ⊥)
        → Changes s t u (change_output (with y) o) → Step advance s c d
        → Reads (figure with o) s (reading.at c t) (reading.at d u)
    unfolding figure numbered
    figure_set u y e v g k z p = reading.passes (a_crisp r ((in_range (range_of o r.block) (value_here r), 7) ∷ [])) _ refl refl (ap fault checks ∙ sym e)
        (reading.next (reading.changes s c t u _ g k z) (reading.step u z.holds p))
        (ap (λ (m : ℤ). advance (change (change_output (with m) o) r)) (v ∙ ap value_of (sym (reading.text_view s (reading.at c t)))))

pub range_is : (s : List ℕ) (p : ParseState) (o : ℕ) (x : ℤ) → x ≡ value_of (text_of s p.cursor)
    → expect SEMICOLON (expect CLOSE (upper_end o x (expect DOTS (lower_end (view s p))))) ≡ range_body o (view s p)
unfolding range_body
range_is s p o x e = ap (λ (z : ℤ). expect SEMICOLON (expect CLOSE (upper_end o z (expect DOTS (lower_end (view s p))))))
    (e ∙ ap value_of (sym (reading.text_view s p)))

-- TERMS
module _ (s names : List ℕ) (c : Cursor) (o n : ℕ) (b : Block) (m : ℕ) (h : HasSingletons s names o n b) where
  pub term_none : (w : ℕ) → w ≡ fault (a_name (seen s c b m) []) → (w ≡ 0 → ⊥) → w ≡ fault (term_checks o (seen s c b m))
  term_none w e k = sym (fault_bad w (a_name (seen s c b m) []) _ (sym e) k)

  pub term_judged : (j : ℕ) (t : Bool) → 0 ≡ fault (a_name (seen s c b m) []) → j ≡ singleton_of o (text_of s c) b → ltb j n ≡ t
      → fault (term_checks o (seen s c b m)) ≡ (if t then 4 else 0)
  unfolding numbered fault
  term_judged j t e q u =
      fault_good (a_name (seen s c b m) []) ((not (is_singleton o (text (seen s c b m)) (seen s c b m).block), 4) ∷ []) refl (sym e)
      ∙ ap (λ (x : Bool). if not x then 0 else 4) known ∙ turned t
    where
      known : is_singleton o (text (seen s c b m)) (seen s c b m).block ≡ t
      known = simp (text_seen s c b m, block_seen s c b m, h.count) (ap (λ (i : ℕ). ltb i n) (sym q) ∙ u)

      turned : (x : Bool) → ◌≡◌ {A = ℕ} (if not x then 0 else 4) (if x then 4 else 0)
      turned true = refl
      turned false = refl

pub found_at : (s names w : List ℕ) (o n j : ℕ) (b : Block) → HasSingletons s names o n b
    → j ≡ index_of (same_name w) (tab (name_of s names) n (variable_limit + input_term_limit + o * term_limit)) → j ≡ singleton_of o w b
found_at s names w o n j b h e =
    let z : variable_limit + input_term_limit + o * term_limit ≡ variable_limit + (input_limit + o) * term_limit = omega arith in
    e ∙ ap (λ (k : ℕ). index_of (same_name w) (tab (name_of s names) n k)) z ∙ sym (h.singleton w)

module _ (s : List ℕ) (c : Cursor) (t : Tables) (o : ℕ) where
  abbrev q : Parse
  q = view s (reading.at c t)

  pub named_none : (d : Cursor) (w : ℕ) → w ≡ fault (term_checks o (seen s c (block_view s t) 0)) → (w ≡ 0 → ⊥) → Holds s t → Step (refuse w) s c d
      → Reads (singleton_body o) s (reading.at c t) (reading.at d t)
  unfolding singleton_body view
  named_none d w e h g p = reading.refuses (term_checks o q) _ refl w (sym e) h g p

  pub named_some : (r : ParseState) → 0 ≡ fault (term_checks o (seen s c (block_view s t) 0))
      → Reads (λ z. expect SEMICOLON (figure (λ x. with_singleton (record { name = text_of s c; at = x })) o (expect ASSIGN (advance z)))) s
      (reading.at c t) r → Reads (singleton_body o) s (reading.at c t) r
  unfolding singleton_body view numbered
  named_some r e x = reading.passes (term_checks o q) _ refl refl (sym e) x
      (ap (λ (w : List ℕ). expect SEMICOLON (figure (λ z. with_singleton (record { name = w; at = z })) o (expect ASSIGN (advance q))))
      (sym (reading.text_view s (reading.at c t))))

  abbrev term_given : Checks
  term_given = (is TERM q, 2) ∷ (ltb (length (singletons_of o q.block)) term_limit, 6) ∷ []

  given_not : (c.kind ≡ TERM → ⊥) → fault term_given ≡ 2
  unfolding fault
  given_not h = simp (reading.kind_view s (reading.at c t), ne_eqb _ _ h) refl

  given_so : c.kind ≡ TERM → o < t.output_count → (x : Bool) → ltb (output_row t o).terms term_limit ≡ x → fault term_given ≡ (if x then 0 else 6)
  unfolding fault
  given_so h b x e =
      simp (reading.kind_view s (reading.at c t), eq-eqb _ _ h)
      (ap (λ (n : ℕ). if ltb n term_limit then 0 else 6) (ap (λ (z : Block). length (singletons_of o z)) (reading.block_view_lem s (reading.at c t))
      ∙ singletons_count s t o b) ∙ ap (λ (z : Bool). if z then 0 else 6) e)

  pub term_not : (d : Cursor) → (c.kind ≡ TERM → ⊥) → Holds s t → Step (refuse 2) s c d → Reads (output_term o) s (reading.at c t) (reading.at d t)
  unfolding output_term
  term_not d h g p = reading.refuses term_given _ refl 2 (given_not h) (λ z. omega arith) g p

  pub term_full : (d : Cursor) → c.kind ≡ TERM → o < t.output_count → term_limit ≤ (output_row t o).terms → Holds s t → Step (refuse 6) s c d
      → Reads (output_term o) s (reading.at c t) (reading.at d t)
  unfolding output_term
  term_full d h b l g p = reading.refuses term_given _ refl 6 (given_so h b false (le-ltb _ _ l)) (λ z. omega arith) g p

  pub term_more : (d : Cursor) (r : ParseState) → c.kind ≡ TERM → o < t.output_count → (output_row t o).terms < term_limit → Holds s t → Step advance s c d
      → Reads (singleton_body o) s (reading.at d t) r → Reads (output_term o) s (reading.at c t) r
  unfolding output_term numbered
  term_more d r h b l g p x = reading.passes term_given _ refl refl (given_so h b true (lt-ltb _ _ l)) (reading.next (reading.step t g p) x) refl

  -- DEFAULT
  pub default_nc : (d : Cursor) → c.kind ≡ NC → Holds s t → Step advance s c d → Reads (default_value o) s (reading.at c t) (reading.at d t)
  unfolding default_value
  default_nc d h g p = reading.also (reading.step t g p) (sym (simp (reading.kind_view s (reading.at c t), eq-eqb _ _ h) refl))

  pub default_given : (r : ParseState) → (c.kind ≡ NC → ⊥) → Reads (figure with_default o) s (reading.at c t) r
      → Reads (default_value o) s (reading.at c t) r
  unfolding default_value
  default_given r h x = reading.also x (sym (simp (reading.kind_view s (reading.at c t), ne_eqb _ _ h) refl))

  -- RANGE, or none
  pub range_not : (c.kind ≡ RANGE → ⊥) → Good s (reading.at c t) → Reads (range_part o) s (reading.at c t) (reading.at c t)
  unfolding range_part
  range_not h g = reading.also (reading.none s (reading.at c t) g)
      (sym (simp (reading.kind_view s (reading.at c t), ne_eqb _ _ h) refl))

  pub range_given : (d : Cursor) (r : ParseState) → c.kind ≡ RANGE → Holds s t → Step (λ z. expect OPEN (advance z)) s c d
      → Reads (range_body o) s (reading.at d t) r → Reads (range_part o) s (reading.at c t) r
  unfolding range_part
  range_given d r h g p x = reading.also (reading.next (reading.step t g p) x) (sym (simp (reading.kind_view s (reading.at c t), eq-eqb _ _ h) refl))

-- THE PART OF AN OUTPUT
empty_at : {A : Type 0} (l : List A) → length l ≡ 0 → is_empty l ≡ true
empty_at [] h = refl
empty_at (x ∷ l) h = absurd (omega arith)

full_at : {A : Type 0} (l : List A) (n : ℕ) → length l ≡ suc n → is_empty l ≡ false
full_at [] n h = absurd (omega arith)
full_at (x ∷ l) n h = refl

module _ (s : List ℕ) (c : Cursor) (t : Tables) where
  abbrev v : Parse
  v = view s (reading.at c t)

  abbrev part_given : ℕ → Checks
  part_given o = a_name v ((is_empty (singletons_of o v.block), 4) ∷ (is_output (text v) v.block, 5) ∷ [])

  output_is : (i : ℕ) → i ≡ output_of (text_of s c) (block_view s t) → output_of (text v) v.block ≡ i
  output_is i e = simp (reading.text_view s (reading.at c t), reading.block_view_lem s (reading.at c t)) (sym e)

  pub part_none : (d : Cursor) (w : ℕ) → w ≡ fault (a_name (seen s c (block_view s t) 0) []) → (w ≡ 0 → ⊥) → Holds s t → Step (refuse w) s c d
      → Reads defuzzify_variable s (reading.at c t) (reading.at d t)
  unfolding defuzzify_variable defuzzify_of view
  part_none d w e h g p = reading.refuses (part_given (output_of (text v) v.block)) _ refl w (fault_bad w (a_name v []) _ (sym e) h) h g p

  module _ (e : 0 ≡ fault (a_name (seen s c (block_view s t) 0) [])) (i : ℕ) (f : i ≡ output_of (text_of s c) (block_view s t)) where
    tail : fault (part_given (output_of (text v) v.block)) ≡ fault ((is_empty (singletons_of i v.block), 4) ∷ (ltb i (length v.block.outputs), 5) ∷ [])
    unfolding numbered view
    tail = fault_good (a_name v []) _ refl (sym e) ∙ ap (λ (k : ℕ). fault
        ((is_empty (singletons_of k v.block), 4) ∷ (ltb k (length v.block.outputs), 5) ∷ [])) (output_is i f)

    many : length v.block.outputs ≡ t.output_count
    many = ap (λ (z : Block). length z.outputs) (reading.block_view_lem s (reading.at c t)) ∙ lookups.outputs_count s t (block_view s t) (outputs_are s t)

    none_there : t.output_count ≤ i → fault (part_given (output_of (text v) v.block)) ≡ 5
    unfolding fault
    none_there h = tail ∙ simp (reading.block_view_lem s (reading.at c t), lookups.singletons_none s t (block_view s t) (outputs_are s t) i h)
        (simp (lookups.outputs_count s t (block_view s t) (outputs_are s t), le-ltb _ _ h) refl)

    given : (n : ℕ) → i < t.output_count → (output_row t i).terms ≡ n → fault (part_given (output_of (text v) v.block)) ≡ (if eqb n 0 then 0 else 4)
    unfolding fault
    given zero h q = tail ∙ simp (empty_at (singletons_of i v.block) (there h ∙ q), many, lt-ltb _ _ h) refl
      where
        there : i < t.output_count → length (singletons_of i v.block) ≡ (output_row t i).terms
        there h = ap (λ (z : Block). length (singletons_of i z)) (reading.block_view_lem s (reading.at c t)) ∙ singletons_count s t i h
    given (suc n) h q = tail ∙ simp (full_at (singletons_of i v.block) n (there h ∙ q), ne_eqb (suc n) 0 (λ z. omega arith)) refl
      where
        there : i < t.output_count → length (singletons_of i v.block) ≡ (output_row t i).terms
        there h = ap (λ (z : Block). length (singletons_of i z)) (reading.block_view_lem s (reading.at c t)) ∙ singletons_count s t i h

    pub part_unknown : (d : Cursor) → t.output_count ≤ i → Holds s t → Step (refuse 5) s c d → Reads defuzzify_variable s (reading.at c t) (reading.at d t)
    unfolding defuzzify_variable defuzzify_of
    part_unknown d h g p = reading.refuses (part_given (output_of (text v) v.block)) _ refl 5 (none_there h) (λ z. omega arith) g p

    pub part_again : (d : Cursor) → i < t.output_count → ((output_row t i).terms ≡ 0 → ⊥) → Holds s t → Step (refuse 4) s c d
        → Reads defuzzify_variable s (reading.at c t) (reading.at d t)
    unfolding defuzzify_variable defuzzify_of
    part_again d h q g p = reading.refuses (part_given (output_of (text v) v.block)) _ refl 4
        (given (output_row t i).terms h refl ∙ simp (ne_eqb _ _ q) refl) (λ z. omega arith) g p

    pub part_read : (d : Cursor) (r : ParseState) → i < t.output_count → (output_row t i).terms ≡ 0 → Holds s t → Step advance s c d
        → Reads (part_text i) s (reading.at d t) r → Reads defuzzify_variable s (reading.at c t) r
    unfolding defuzzify_variable defuzzify_of numbered part_text method_text
    part_read d r h q g p x =
        reading.passes (part_given (output_of (text v) v.block)) _ refl refl (given 0 h q) (reading.next (reading.step t g p) x)
        (ap (λ (k : ℕ). part_text k (advance v)) (sym (output_is i f)))

pub output_found : (s w : List ℕ) (t : Tables) (j : ℕ) → Holds s t
    → j ≡ index_of (same_name w) (tab (name_of s t.names) t.output_count input_limit) → j ≡ output_of w (block_view s t)
output_found s w t j g e = e ∙ sym (lookups.output_of_lem s t (block_view s t) (outputs_are s t) g w)
