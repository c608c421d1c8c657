-- An output more.
use mathlib.Core.Path.{◌≡◌, refl}
use mathlib.Core.Bool.{false}
use mathlib.Core.List.{List, []}
use mathlib.Core.Option.{none}
use Prim.Native.Nat.{ℕ, ◌+◌, ◌≤◌, ◌<◌}
use native.Mathlib.Omega.{arith}
use lib.ListN.{length, set, length-set}
use lib.Seq.{slice, get_or-set_same, get_or-set_other}
use Rattle.model.specs.Basic.{tab}
use Rattle.model.specs.Bounds.{input_limit, output_limit, term_limit, input_term_limit, output_term_limit, variable_limit}
use Rattle.model.specs.Declarations.{add_output}
use Rattle.lookup.proofs.Names.{placed_set}
use Rattle.block_tables.specs.declared.Output.{Output}
use Rattle.block_tables.specs.declared.Tables.{Tables}
use Rattle.block_tables.specs.View.{zero_crisp, no_input, no_output, no_term, no_singleton, input_view, singleton_view, range_view, default_view, output_view, declared, block_view, Indexed, Holds}
use Rattle.block_tables.specs.Changes.{Changes}
use Rattle.block_tables.proofs.Fields.{tables_of, holds_of}
use Rattle.block_tables.proofs.Tabs.{tab_more, tab_same, kept}
use Rattle.block_tables.proofs.Views.{term_same, input_same, singleton_same, output_same}
use Rattle.block_tables.proofs.Index.{put, rows_put, rows_apart}

-- a row of this name
abbrev pub output_at : ℕ → ℕ → Output
output_at a e = record {
  start = a;
  end = e;
  terms = 0;
  ranged = false;
  least = zero_crisp;
  most = zero_crisp;
  numbered = false;
  default = zero_crisp;
}

abbrev pub with_output : Tables → ℕ → ℕ → Tables
with_output t a e =
    tables_of t.start t.end t.input_count (t.output_count + 1) t.inputs (set t.outputs t.output_count (output_at a e))
    t.input_terms t.output_terms (put t.names (input_limit + t.output_count) a e)

module _ (s : List ℕ) (t : Tables) (a e : ℕ) (h : t.output_count < output_limit) (g : Holds s t) (o : a ≤ e) (l : e ≤ length s) where
  abbrev u : Tables
  u = with_output t a e

  abbrev n : ℕ
  n = t.output_count

  input_stays : (i : ℕ) → i < t.input_count → input_view s u i ≡ input_view s t i
  input_stays i b = input_same s t u i refl (λ j d. term_same s t u i j refl)

  output_stays : (i : ℕ) → i < n → output_view s u i ≡ output_view s t i
  output_stays i b =
      output_same s t u i (get_or-set_other t.outputs n i (output_at a e) no_output (λ q. omega arith)) (λ j d. singleton_same s t u i j refl)

  output_new : output_view s u n ≡ record { name = slice a e s; terms = []; range = none; default = none }
  unfolding output_view tab
  output_new =
      let q = get_or-set_same t.outputs n (output_at a e) no_output (omega (arith, g.outputs_size)) in
      λ x. record {
        name = slice (q x).start (q x).end s;
        terms = tab (singleton_view s u n) (q x).terms 0;
        range = range_view (q x);
        default = default_view (q x);
      }

  indexed : Indexed u.names u
  indexed =
      let x = g.indexed in
      let z = t.names in
      let p = input_limit + n in
      record {
        input = rows_apart (λ v. v.start) (λ v. v.end) no_input (λ j. j) input_limit (λ j b. omega arith) z t.inputs p a e
            (omega arith) (λ j b q. omega arith) x.input;
        output = rows_put (λ v. v.start) (λ v. v.end) no_output (λ j. input_limit + j) output_limit (λ j b. omega arith) z t.outputs n (output_at a e) h
            (omega (arith, g.outputs_size)) (λ j q. omega arith) g.names_size x.output;
        term = rows_apart (λ v. v.start) (λ v. v.end) no_term (λ j. variable_limit + j) input_term_limit (λ j b. omega arith) z t.input_terms p a e
            (omega arith) (λ j b q. omega arith) x.term;
        singleton = rows_apart (λ v. v.start) (λ v. v.end) no_singleton (λ j. variable_limit + input_term_limit + j) output_term_limit
            (λ j b. omega arith) z t.output_terms p a e (omega arith) (λ j b q. omega arith) x.singleton;
      }

  pub output_added : Changes s t (with_output t a e) (add_output (slice a e s))
  unfolding block_view add_output
  output_added =
      let p = tab_same (input_view s t) (input_view s u) t.input_count input_stays in
      let q = tab_more (output_view s t) (output_view s u) n (record { name = slice a e s; terms = []; range = none; default = none })
      output_stays output_new in
      record {
        view = λ x. declared (slice t.start t.end s) (p x) (q x);
        holds = holds_of g.order g.inside (placed_set s t.names (input_limit + n) a e (omega arith) g.names_size o l g.placed) indexed
            g.input_count (omega arith) g.input_terms
            (kept (λ (v : Output). v.terms) term_limit t.outputs n (output_at a e) no_output (omega arith) g.output_terms) g.point_counts
            (simp length-set g.names_size) g.inputs_size (simp length-set g.outputs_size) g.terms_size g.points_size
            g.singletons_size;
      }
