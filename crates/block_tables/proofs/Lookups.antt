-- What a block says of the names in the tables, of any block with these inputs and outputs.
use mathlib.Core.Path.{◌≡◌, refl, sym, ap, ◌∙◌}
use mathlib.Core.List.{List, [], map}
use mathlib.Core.Option.{none}
use Prim.Native.Nat.{ℕ, ◌+◌, ◌*◌, ◌≤◌, ◌<◌}
use native.Mathlib.Omega.{arith}
use lib.ListN.{length, get_or, length-map, get_or-eq_default}
use Rattle.model.specs.Basic.{index_of, tab}
use Rattle.model.specs.Bounds.{input_limit, term_limit, variable_limit}
use Rattle.model.specs.Block.{Block, terms_of, singletons_of, range_of}
use Rattle.model.specs.Tokens.{same_name}
use Rattle.model.specs.Declarations.{input_of, output_of, term_of, singleton_of}
use Rattle.laws.proofs.Lists.{map_tab}
use Rattle.laws.proofs.Places.{length_tab, tab_nth, tab_ext}
use Rattle.lookup.specs.Names.{name_of}
use Rattle.lookup.proofs.Names.{index_tab}
use Rattle.block_tables.specs.declared.Tables.{Tables}
use Rattle.block_tables.specs.View.{input_row, output_row, term_view, input_view, singleton_view, range_view, output_view, inputs_view, outputs_view, Holds}
use Rattle.block_tables.proofs.Index.{name_at}

-- n rows, f giving each: how many, a field of the row at a place, and where a name stands among those from place p on
module _ {A : Type 0} (f : ℕ → A) (n : ℕ) {vs : List A} (e : vs ≡ tab f n 0) where
  rows_count : length vs ≡ n
  rows_count = ap length e ∙ length_tab f n 0

  module _ {B : Type 0} (g : A → B) (i : ℕ) (d : B) where
    row_some : i < n → get_or (map g vs) i d ≡ g (f i)
    row_some h =
        ap (λ (us : List A). get_or (map g us) i d) e ∙ ap (λ (us : List B). get_or us i d) (map_tab g f n 0)
        ∙ tab_nth (λ k. g (f k)) n 0 i d h ∙ ap (λ (k : ℕ). g (f k)) (omega arith)

    row_none : n ≤ i → get_or (map g vs) i d ≡ d
    row_none h = get_or-eq_default (map g vs) d (let z = rows_count in simp length-map (omega arith))

  module _ (name : A → List ℕ) (s names : List ℕ) (p : ℕ) (q : (k : ℕ) → k < n → name_of s names (p + k) ≡ name (f k)) (w : List ℕ) where
    found : index_of (λ v. same_name w (name v)) vs ≡ index_of (same_name w) (tab (name_of s names) n p)
    found =
        ap (index_of (λ v. same_name w (name v))) e ∙ index_tab name f (λ k. name (f k)) w (λ k. refl) n 0
        ∙ ap (index_of (same_name w)) (sym (tab_ext (name_of s names) (λ k. name (f k)) n p 0 (λ k h. q k h ∙ ap (λ (i : ℕ). name (f i)) (omega arith))))

module _ (s : List ℕ) (t : Tables) (b : Block) (e : b.inputs ≡ inputs_view s t) where
  pub inputs_count : length b.inputs ≡ t.input_count
  inputs_count = rows_count (input_view s t) _ e

  pub terms_are : (i : ℕ) → i < t.input_count → terms_of i b ≡ tab (term_view s t i) (input_row t i).terms 0
  unfolding terms_of input_view
  terms_are i = row_some (input_view s t) _ e (λ v. v.terms) i []

  pub terms_none : (i : ℕ) → t.input_count ≤ i → terms_of i b ≡ []
  unfolding terms_of
  terms_none i = row_none (input_view s t) _ e (λ v. v.terms) i []

  pub terms_count : (i : ℕ) → i < t.input_count → length (terms_of i b) ≡ (input_row t i).terms
  terms_count i h = rows_count (term_view s t i) _ (terms_are i h)

  module _ (g : Holds s t) (w : List ℕ) where
    pub input_of_lem : input_of w b ≡ index_of (same_name w) (tab (name_of s t.names) t.input_count 0)
    unfolding input_of input_view
    input_of_lem =
        let m = g.input_count in
        found (input_view s t) _ e (λ v. v.name) s t.names 0
        (λ k h. ap (name_of s t.names) (omega arith) ∙ name_at s t.names k _ _ (g.indexed.input k (omega arith))) w

    pub term_of_lem : (i : ℕ) → i < t.input_count
        → term_of i w b ≡ index_of (same_name w) (tab (name_of s t.names) (input_row t i).terms (variable_limit + i * term_limit))
    unfolding term_of term_view
    term_of_lem i h =
        let m = g.input_count in
        let n = g.input_terms i in
        found (term_view s t i) _ (terms_are i h) (λ v. v.name) s t.names (variable_limit + i * term_limit)
        (λ k l. ap (name_of s t.names) (omega arith) ∙ name_at s t.names (variable_limit + (i * term_limit + k)) _ _
        (g.indexed.term (i * term_limit + k) (omega arith))) w

module _ (s : List ℕ) (t : Tables) (b : Block) (e : b.outputs ≡ outputs_view s t) where
  pub outputs_count : length b.outputs ≡ t.output_count
  outputs_count = rows_count (output_view s t) _ e

  pub singletons_are : (o : ℕ) → o < t.output_count → singletons_of o b ≡ tab (singleton_view s t o) (output_row t o).terms 0
  unfolding singletons_of output_view
  singletons_are o = row_some (output_view s t) _ e (λ v. v.terms) o []

  pub singletons_none : (o : ℕ) → t.output_count ≤ o → singletons_of o b ≡ []
  unfolding singletons_of
  singletons_none o = row_none (output_view s t) _ e (λ v. v.terms) o []

  pub singletons_count : (o : ℕ) → o < t.output_count → length (singletons_of o b) ≡ (output_row t o).terms
  singletons_count o h = rows_count (singleton_view s t o) _ (singletons_are o h)

  pub range_is : (o : ℕ) → o < t.output_count → range_of o b ≡ range_view (output_row t o)
  unfolding range_of output_view
  range_is o = row_some (output_view s t) _ e (λ v. v.range) o none

  module _ (g : Holds s t) (w : List ℕ) where
    pub output_of_lem : output_of w b ≡ index_of (same_name w) (tab (name_of s t.names) t.output_count input_limit)
    unfolding output_of output_view
    output_of_lem =
        let m = g.output_count in
        found (output_view s t) _ e (λ v. v.name) s t.names input_limit
        (λ k h. name_at s t.names (input_limit + k) _ _ (g.indexed.output k (omega arith))) w

    pub singleton_of_lem : (o : ℕ) → o < t.output_count
        → singleton_of o w b ≡ index_of (same_name w) (tab (name_of s t.names) (output_row t o).terms (variable_limit + (input_limit + o) * term_limit))
    unfolding singleton_of singleton_view
    singleton_of_lem o h =
        let m = g.output_count in
        let n = g.output_terms o in
        found (singleton_view s t o) _ (singletons_are o h) (λ v. v.name) s t.names (variable_limit + (input_limit + o) * term_limit)
        (λ k l. ap (name_of s t.names) (omega arith) ∙ name_at s t.names (variable_limit + input_limit * term_limit + (o * term_limit + k)) _ _
        (g.indexed.singleton (o * term_limit + k) (omega arith))) w
