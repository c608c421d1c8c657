-- The block's name, and an input more.
use Rattle.std.specs.Prelude.{if◌then◌else◌}
use mathlib.Core.Path.{◌≡◌, refl}
use mathlib.Core.Bool.{false}
use mathlib.Core.List.{List, []}
use Prim.Native.Nat.{ℕ, ◌+◌, ◌≤◌, ◌<◌}
use native.Mathlib.Omega.{arith}
use lib.ListN.{length, set, length-set}
use lib.Seq.{slice, get_or-set_same, get_or-set_other}
use Rattle.model.specs.Block.{with_name}
use Rattle.model.specs.Basic.{tab}
use Rattle.model.specs.Bounds.{input_limit, output_limit, term_limit, input_term_limit, output_term_limit, variable_limit}
use Rattle.model.specs.Declarations.{add_input}
use Rattle.model.specs.declared.InputType.TheVariants.{Real as real, Int as int}
use Rattle.lookup.proofs.Names.{placed_set}
use Rattle.block_tables.specs.declared.Input.{Input}
use Rattle.block_tables.specs.declared.Tables.{Tables}
use Rattle.block_tables.specs.View.{no_input, no_output, no_term, no_singleton, term_view, input_view, singleton_view, output_view, declared, block_view, Indexed, Holds}
use Rattle.block_tables.specs.Changes.{Changes, named}
use Rattle.block_tables.proofs.Fields.{tables_of, holds_of}
use Rattle.block_tables.proofs.Tabs.{tab_more, tab_same, kept}
use Rattle.block_tables.proofs.Views.{term_same, input_same, singleton_same, output_same}
use Rattle.block_tables.proofs.Index.{put, rows_put, rows_apart}

module _ (s : List ℕ) (t : Tables) (a e : ℕ) (g : Holds s t) (o : a ≤ e) (l : e ≤ length s) where
  pub is_named : Changes s t (named t a e) (with_name (slice a e s))
  unfolding block_view input_view output_view term_view singleton_view
  is_named =
      record {
        view = refl;
        holds = holds_of o l g.placed (record { input = x.input; output = x.output; term = x.term; singleton = x.singleton })
            g.input_count g.output_count g.input_terms g.output_terms g.point_counts
            g.names_size g.inputs_size g.outputs_size g.terms_size g.points_size g.singletons_size;
      }
    where
      x : Indexed t.names t
      x = g.indexed

-- a row of this name
abbrev pub input_at : ℕ → ℕ → Input
input_at a e = record { start = a; end = e; int = false; terms = 0 }

abbrev pub with_input : Tables → ℕ → ℕ → Tables
with_input t a e =
    tables_of t.start t.end (t.input_count + 1) t.output_count (set t.inputs t.input_count (input_at a e)) t.outputs
    t.input_terms t.output_terms (put t.names t.input_count a e)

module _ (s : List ℕ) (t : Tables) (a e : ℕ) (h : t.input_count < input_limit) (g : Holds s t) (o : a ≤ e) (l : e ≤ length s) where
  abbrev u : Tables
  u = with_input t a e

  abbrev n : ℕ
  n = t.input_count

  input_stays : (i : ℕ) → i < n → input_view s u i ≡ input_view s t i
  input_stays i b =
      input_same s t u i (get_or-set_other t.inputs n i (input_at a e) no_input (λ q. omega arith)) (λ j c. term_same s t u i j refl)

  input_new : input_view s u n ≡ record { name = slice a e s; type = real; terms = [] }
  unfolding input_view tab
  input_new =
      let q = get_or-set_same t.inputs n (input_at a e) no_input (omega (arith, g.inputs_size)) in
      λ x. record { name = slice (q x).start (q x).end s; type = if (q x).int then int else real; terms = tab (term_view s u n) (q x).terms 0 }

  output_stays : (i : ℕ) → i < t.output_count → output_view s u i ≡ output_view s t i
  output_stays i b = output_same s t u i refl (λ j d. singleton_same s t u i j refl)

  indexed : Indexed u.names u
  indexed =
      let x = g.indexed in
      let z = t.names in
      record {
        input = rows_put (λ v. v.start) (λ v. v.end) no_input (λ j. j) input_limit (λ j b. omega arith) z t.inputs n (input_at a e) h
            (omega (arith, g.inputs_size)) (λ j q. q) g.names_size x.input;
        output = rows_apart (λ v. v.start) (λ v. v.end) no_output (λ j. input_limit + j) output_limit (λ j b. omega arith) z t.outputs n a e
            (omega arith) (λ j b q. omega arith) x.output;
        term = rows_apart (λ v. v.start) (λ v. v.end) no_term (λ j. variable_limit + j) input_term_limit (λ j b. omega arith) z t.input_terms n a e
            (omega arith) (λ j b q. omega arith) x.term;
        singleton = rows_apart (λ v. v.start) (λ v. v.end) no_singleton (λ j. variable_limit + input_term_limit + j) output_term_limit
            (λ j b. omega arith) z t.output_terms n a e (omega arith) (λ j b q. omega arith) x.singleton;
      }

  pub input_added : Changes s t (with_input t a e) (add_input (slice a e s))
  unfolding block_view add_input
  input_added =
      let p = tab_more (input_view s t) (input_view s u) n (record { name = slice a e s; type = real; terms = [] }) input_stays input_new in
      let q = tab_same (output_view s t) (output_view s u) t.output_count output_stays in
      record {
        view = λ x. declared (slice t.start t.end s) (p x) (q x);
        holds = holds_of g.order g.inside (placed_set s t.names n a e (omega arith) g.names_size o l g.placed) indexed (omega arith)
            g.output_count (kept (λ (v : Input). v.terms) term_limit t.inputs n (input_at a e) no_input (omega arith) g.input_terms)
            g.output_terms g.point_counts (simp length-set g.names_size) (simp length-set g.inputs_size) g.outputs_size
            g.terms_size g.points_size g.singletons_size;
      }
