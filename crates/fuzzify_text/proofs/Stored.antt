-- A term more for an input, stored in the tables.
use Rattle.std.specs.Prelude.{if◌then◌else◌}
use mathlib.Core.Path.{◌≡◌, refl, sym, ap, ◌∙◌}
use mathlib.Core.List.{List, [], ◌∷◌, ◌++◌}
use Prim.Native.Nat.{ℕ, ◌+◌, ◌*◌, ◌≤◌, ◌<◌}
use native.Mathlib.Nat.{zero-add}
use native.Mathlib.Omega.{arith}
use lib.ListN.{length, set, length-set}
use lib.Seq.{slice, get_or-set_same, get_or-set_other}
use Rattle.model.specs.Basic.{tab}
use Rattle.model.specs.Block.{with_terms}
use Rattle.model.specs.Bounds.{input_limit, output_limit, term_limit, point_limit, variable_limit, input_term_limit, output_term_limit}
use Rattle.model.specs.declared.InputType.TheVariants.{Real as real, Int as int}
use Rattle.lookup.proofs.Names.{placed_set}
use Rattle.block_tables.specs.declared.Input.{Input}
use Rattle.block_tables.specs.declared.Term.{Term}
use Rattle.block_tables.specs.declared.Tables.{Tables}
use Rattle.block_tables.specs.View.{no_input, no_output, no_term, no_singleton, input_row, term_row, a_term, term_view, input_view, output_view, declared, block_view, Indexed, Holds}
use Rattle.block_tables.specs.Changes.{Changes}
use Rattle.block_tables.proofs.Fields.{tables_of, holds_of}
use Rattle.block_tables.proofs.Tabs.{tab_more, tab_same, tab_update, kept, field_stays, each_within}
use Rattle.block_tables.proofs.Views.{term_same, input_same, singleton_same, output_same}
use Rattle.block_tables.proofs.Index.{put, rows_put, rows_apart, rows_kept}
use Rattle.fuzzify_text.specs.Terms.{with_term}

-- one term more
abbrev pub longer : Input → Input
longer v = record { start = v.start; end = v.end; int = v.int; terms = v.terms + 1 }

-- the term v for input i, in place k
abbrev pub term_put : Tables → ℕ → ℕ → Term → Tables
term_put t i k v =
    tables_of t.start t.end t.input_count t.output_count (set t.inputs i (longer (input_row t i))) t.outputs
    (set t.input_terms k v) t.output_terms (put t.names (variable_limit + k) v.start v.end)

module _ (s : List ℕ) (t : Tables) (i k : ℕ) (v : Term) (c : k ≡ i * term_limit + (input_row t i).terms) (b : i < t.input_count)
    (h : (input_row t i).terms < term_limit) (f : v.count ≤ point_limit) (y : length v.points ≡ point_limit) (g : Holds s t) (o : v.start ≤ v.end)
    (l : v.end ≤ length s) where
  abbrev u : Tables
  u = term_put t i k v

  low : i < input_limit
  low = let q = g.input_count in omega arith

  small : k < input_term_limit
  small = let z = low in omega arith

  row_same : input_row u i ≡ longer (input_row t i)
  row_same = let z = low in get_or-set_same t.inputs i (longer (input_row t i)) no_input (omega (arith, g.inputs_size))

  term_stays : (m j : ℕ) → (m * term_limit + j ≡ k → ⊥) → term_view s u m j ≡ term_view s t m j
  term_stays m j d = term_same s t u m j (get_or-set_other t.input_terms k (m * term_limit + j) v no_term d)

  input_stays : (m : ℕ) → m < t.input_count → (m ≡ i → ⊥) → input_view s u m ≡ input_view s t m
  input_stays m p d =
      let w = g.input_terms m in
      input_same s t u m (get_or-set_other t.inputs i m (longer (input_row t i)) no_input d) (λ j n. term_stays m j (λ r. omega arith))

  term_new : term_view s u i (input_row t i).terms ≡ a_term s v
  unfolding term_view
  term_new =
      let z = small in
      ap (λ (m : ℕ). a_term s (term_row u m)) (sym c) ∙ ap (a_term s) (get_or-set_same t.input_terms k v no_term (omega (arith, g.terms_size)))

  input_longer : input_view s u i ≡ with_terms (λ ts. ts ++ (a_term s v ∷ [])) (input_view s t i)
  unfolding input_view
  input_longer =
      let q = tab_more (term_view s t i) (term_view s u i) (input_row t i).terms (a_term s v) (λ j n. term_stays i j (λ r. omega arith)) term_new in
      let w = row_same in
      let r = ap (λ (x : Input). tab (term_view s u i) x.terms 0) w ∙ q in
      λ x. record { name = slice (w x).start (w x).end s; type = if (w x).int then int else real; terms = r x }

  output_stays : (m : ℕ) → m < t.output_count → output_view s u m ≡ output_view s t m
  output_stays m p = output_same s t u m refl (λ j d. singleton_same s t u m j refl)

  stays : (q : Input → ℕ) → q (longer (input_row t i)) ≡ q (input_row t i) → (m : ℕ) → q (input_row u m) ≡ q (input_row t m)
  stays q e = let z = low in field_stays q t.inputs i (longer (input_row t i)) no_input (omega (arith, g.inputs_size)) e

  indexed : Indexed u.names u
  indexed =
      let x = g.indexed in
      let z = t.names in
      let p = variable_limit + k in
      let w = small in
      record {
        input = rows_kept (λ r. r.start) (λ r. r.end) no_input (λ j. j) input_limit u.names t.inputs u.inputs
            (stays (λ r. r.start) refl) (stays (λ r. r.end) refl)
            (rows_apart (λ r. r.start) (λ r. r.end) no_input (λ j. j) input_limit (λ j m. omega arith) z t.inputs p v.start v.end
            (omega arith) (λ j m q. omega arith) x.input);
        output = rows_apart (λ r. r.start) (λ r. r.end) no_output (λ j. input_limit + j) output_limit (λ j m. omega arith) z t.outputs p
            v.start v.end (omega arith) (λ j m q. omega arith) x.output;
        term = rows_put (λ r. r.start) (λ r. r.end) no_term (λ j. variable_limit + j) input_term_limit (λ j m. omega arith) z t.input_terms k v w
            (omega (arith, g.terms_size)) (λ j q. omega arith) g.names_size x.term;
        singleton = rows_apart (λ r. r.start) (λ r. r.end) no_singleton (λ j. variable_limit + input_term_limit + j) output_term_limit
            (λ j m. omega arith) z t.output_terms p v.start v.end (omega arith) (λ j m q. omega arith) x.singleton;
      }

  pub term_added : Changes s t (term_put t i k v) (with_term i (a_term s v))
  unfolding block_view with_term
  term_added =
      let z = small in
      let w = g.input_terms i in
      let p = tab_update (with_terms (λ ts. ts ++ (a_term s v ∷ []))) (input_view s t) (input_view s u) t.input_count 0 i
      (simp zero-add input_longer) (λ m n d. simp zero-add (input_stays m n d)) b in
      let q = tab_same (output_view s t) (output_view s u) t.output_count output_stays in
      record {
        view = λ x. declared (slice t.start t.end s) (p x) (q x);
        holds = holds_of g.order g.inside
            (placed_set s t.names (variable_limit + k) v.start v.end (omega arith) g.names_size o l g.placed) indexed g.input_count
            g.output_count (kept (λ (r : Input). r.terms) term_limit t.inputs i (longer (input_row t i)) no_input (omega arith) g.input_terms)
            g.output_terms (kept (λ (r : Term). r.count) point_limit t.input_terms k v no_term f g.point_counts)
            (simp length-set g.names_size) (simp length-set g.inputs_size) g.outputs_size (simp length-set g.terms_size)
            (each_within (λ (r : Term). length r.points ≡ point_limit) t.input_terms k input_term_limit v no_term (omega (arith, g.terms_size)) y
            g.points_size) g.singletons_size;
      }
