-- A singleton more for an output.
use mathlib.Core.Path.{◌≡◌, refl, sym, ap, ◌∙◌}
use mathlib.Core.List.{List}
use Prim.Native.Nat.{ℕ, ◌+◌, ◌*◌, ◌≤◌, ◌<◌}
use native.Mathlib.Nat.{zero-add}
use native.Mathlib.Omega.{arith}
use lib.ListN.{length, set, length-set}
use lib.Seq.{slice, get_or-set_same, get_or-set_other}
use Rattle.model.specs.Basic.{tab}
use Rattle.model.specs.Block.{with_singleton}
use Rattle.model.specs.Bounds.{input_limit, output_limit, term_limit, input_term_limit, output_term_limit, variable_limit}
use Rattle.model.specs.Declarations.{change_output}
use Rattle.lookup.proofs.Names.{placed_set}
use Rattle.block_tables.specs.declared.Output.{Output}
use Rattle.block_tables.specs.declared.Singleton.{Singleton}
use Rattle.block_tables.specs.declared.Tables.{Tables}
use Rattle.block_tables.specs.View.{no_input, no_output, no_term, no_singleton, output_row, singleton_row, a_singleton, input_view, singleton_view, range_view, default_view, output_view, declared, block_view, Indexed, Holds}
use Rattle.block_tables.proofs.Fields.{tables_of, holds_of}
use Rattle.block_tables.specs.Changes.{Changes}
use Rattle.block_tables.proofs.Tabs.{tab_more, tab_same, tab_update, kept, field_stays}
use Rattle.block_tables.proofs.Views.{term_same, input_same, singleton_same, output_same}
use Rattle.block_tables.proofs.Index.{put, rows_put, rows_apart, rows_kept}

-- one term more
abbrev pub longer : Output → Output
longer v = record {
  start = v.start;
  end = v.end;
  terms = v.terms + 1;
  ranged = v.ranged;
  least = v.least;
  most = v.most;
  numbered = v.numbered;
  default = v.default;
}

-- the singleton v for output o, in place k
abbrev pub with_singleton_at : Tables → ℕ → ℕ → Singleton → Tables
with_singleton_at t o k v =
    tables_of t.start t.end t.input_count t.output_count t.inputs (set t.outputs o (longer (output_row t o)))
    t.input_terms (set t.output_terms k v) (put t.names (variable_limit + input_term_limit + k) v.start v.end)

module _ (s : List ℕ) (t : Tables) (o k : ℕ) (v : Singleton) (c : k ≡ o * term_limit + (output_row t o).terms) (b : o < t.output_count)
    (h : (output_row t o).terms < term_limit) (g : Holds s t) (ae : v.start ≤ v.end) (l : v.end ≤ length s) where
  abbrev u : Tables
  u = with_singleton_at t o k v

  low : o < output_limit
  low = let q = g.output_count in omega arith

  small : k < output_term_limit
  small = let z = low in omega arith

  row_same : output_row u o ≡ longer (output_row t o)
  row_same = let z = low in get_or-set_same t.outputs o (longer (output_row t o)) no_output (omega (arith, g.outputs_size))

  singleton_stays : (m j : ℕ) → (m * term_limit + j ≡ k → ⊥) → singleton_view s u m j ≡ singleton_view s t m j
  singleton_stays m j d = singleton_same s t u m j (get_or-set_other t.output_terms k (m * term_limit + j) v no_singleton d)

  output_stays : (m : ℕ) → m < t.output_count → (m ≡ o → ⊥) → output_view s u m ≡ output_view s t m
  output_stays m p d =
      let w = g.output_terms m in
      output_same s t u m (get_or-set_other t.outputs o m (longer (output_row t o)) no_output d) (λ j f. singleton_stays m j (λ r. omega arith))

  singleton_new : singleton_view s u o (output_row t o).terms ≡ a_singleton s v
  unfolding singleton_view
  singleton_new =
      let z = small in
      ap (λ (m : ℕ). a_singleton s (singleton_row u m)) (sym c)
      ∙ ap (a_singleton s) (get_or-set_same t.output_terms k v no_singleton (omega (arith, g.singletons_size)))

  output_longer : output_view s u o ≡ with_singleton (a_singleton s v) (output_view s t o)
  unfolding output_view
  output_longer =
      let q = tab_more (singleton_view s t o) (singleton_view s u o) (output_row t o).terms (a_singleton s v)
      (λ j f. singleton_stays o j (λ r. omega arith)) singleton_new in
      let w = row_same in
      let r = ap (λ (x : Output). tab (singleton_view s u o) x.terms 0) w ∙ q in
      λ x. record { name = slice (w x).start (w x).end s; terms = r x; range = range_view (w x); default = default_view (w x) }

  input_stays : (m : ℕ) → m < t.input_count → input_view s u m ≡ input_view s t m
  input_stays m p = input_same s t u m refl (λ j d. term_same s t u m j refl)

  stays : (f : Output → ℕ) → f (longer (output_row t o)) ≡ f (output_row t o) → (m : ℕ) → f (output_row u m) ≡ f (output_row t m)
  stays f q = let z = low in field_stays f t.outputs o (longer (output_row t o)) no_output (omega (arith, g.outputs_size)) q

  indexed : Indexed u.names u
  indexed =
      let x = g.indexed in
      let z = t.names in
      let p = variable_limit + input_term_limit + k in
      let y = small in
      record {
        input = rows_apart (λ w. w.start) (λ w. w.end) no_input (λ j. j) input_limit (λ j m. omega arith) z t.inputs p v.start v.end
            (omega arith) (λ j m q. omega arith) x.input;
        output = rows_kept (λ w. w.start) (λ w. w.end) no_output (λ j. input_limit + j) output_limit u.names t.outputs u.outputs
            (stays (λ w. w.start) refl) (stays (λ w. w.end) refl)
            (rows_apart (λ w. w.start) (λ w. w.end) no_output (λ j. input_limit + j) output_limit (λ j m. omega arith) z t.outputs p v.start v.end
            (omega arith) (λ j m q. omega arith) x.output);
        term = rows_apart (λ w. w.start) (λ w. w.end) no_term (λ j. variable_limit + j) input_term_limit (λ j m. omega arith) z t.input_terms p
            v.start v.end (omega arith) (λ j m q. omega arith) x.term;
        singleton = rows_put (λ w. w.start) (λ w. w.end) no_singleton (λ j. variable_limit + input_term_limit + j) output_term_limit (λ j m. omega arith) z
            t.output_terms k v y (omega (arith, g.singletons_size)) (λ j q. omega arith) g.names_size x.singleton;
      }

  pub singleton_added : Changes s t (with_singleton_at t o k v) (change_output (with_singleton (a_singleton s v)) o)
  unfolding block_view change_output
  singleton_added =
      let z = small in
      let w = g.output_terms o in
      let p = tab_same (input_view s t) (input_view s u) t.input_count input_stays in
      let q = tab_update (with_singleton (a_singleton s v)) (output_view s t) (output_view s u) t.output_count 0 o (simp zero-add output_longer)
      (λ m f d. simp zero-add (output_stays m f d)) b in
      record {
        view = λ x. declared (slice t.start t.end s) (p x) (q x);
        holds = holds_of g.order g.inside
            (placed_set s t.names (variable_limit + input_term_limit + k) v.start v.end (omega arith) g.names_size ae l g.placed) indexed
            g.input_count g.output_count g.input_terms
            (kept (λ (x : Output). x.terms) term_limit t.outputs o (longer (output_row t o)) no_output (omega arith) g.output_terms)
            g.point_counts (simp length-set g.names_size) g.inputs_size (simp length-set g.outputs_size) g.terms_size g.points_size
            (simp length-set g.singletons_size);
      }
