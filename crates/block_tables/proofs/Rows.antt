-- RANGE and DEFAULT of an output.
use mathlib.Core.Path.{◌≡◌, refl, ap, ◌∙◌}
use mathlib.Core.Bool.{true}
use mathlib.Core.List.{List}
use Prim.Native.Nat.{ℕ, ◌+◌, ◌<◌}
use native.Mathlib.Nat.{zero-add}
use native.Mathlib.Omega.{arith}
use lib.ListN.{set, length-set}
use lib.Seq.{slice, get_or-set_same, get_or-set_other}
use Rattle.model.specs.Basic.{tab}
use Rattle.model.specs.Block.{Output as Output', with_range, with_default}
use Rattle.model.specs.Bounds.{input_limit, output_limit, term_limit}
use Rattle.model.specs.Declarations.{change_output}
use Rattle.model.specs.declared.Crisp.{Crisp}
use Rattle.block_tables.specs.declared.Output.{Output}
use Rattle.block_tables.specs.declared.Tables.{Tables}
use Rattle.block_tables.specs.View.{no_output, output_row, term_view, input_view, singleton_view, range_view, default_view, output_view, inputs_view, declared, block_view, Indexed, Holds}
use Rattle.block_tables.proofs.Fields.{tables_of, holds_of}
use Rattle.block_tables.specs.Changes.{Changes}
use Rattle.block_tables.proofs.Tabs.{tab_update, kept, field_stays}
use Rattle.block_tables.proofs.Views.{singleton_same, output_same}
use Rattle.block_tables.proofs.Index.{rows_kept}

-- ROWS: another row for output o, of its name and with as many terms
abbrev pub with_row : Tables → ℕ → Output → Tables
with_row t o v =
    tables_of t.start t.end t.input_count t.output_count t.inputs (set t.outputs o v) t.input_terms t.output_terms t.names

module _ (s : List ℕ) (t : Tables) (o : ℕ) (v : Output) (f : Output' → Output') (b : o < t.output_count)
    (a : v.start ≡ (output_row t o).start) (z : v.end ≡ (output_row t o).end) (e : v.terms ≡ (output_row t o).terms) (g : Holds s t)
    (c : record { name = slice v.start v.end s; terms = (output_view s t o).terms; range = range_view v; default = default_view v }
    ≡ f (output_view s t o)) where
  abbrev u : Tables
  u = with_row t o v

  row_same : output_row u o ≡ v
  row_same = let q = g.output_count in get_or-set_same t.outputs o v no_output (omega (arith, g.outputs_size))

  row_view : output_view s u o ≡ f (output_view s t o)
  unfolding output_view singleton_view
  row_view =
      let q = ap (λ (w : Output). tab (singleton_view s t o) w.terms 0) row_same ∙ ap (λ (n : ℕ). tab (singleton_view s t o) n 0) e in
      let r = row_same in
      (λ x. record { name = slice (r x).start (r x).end s; terms = q x; range = range_view (r x); default = default_view (r x) }) ∙ c

  others : (m : ℕ) → (m ≡ o → ⊥) → output_view s u m ≡ output_view s t m
  others m d = output_same s t u m (get_or-set_other t.outputs o m v no_output d) (λ j h. singleton_same s t u m j refl)

  stays : (h : Output → ℕ) → h v ≡ h (output_row t o) → (m : ℕ) → h (output_row u m) ≡ h (output_row t m)
  stays h q = let c = g.output_count in field_stays h t.outputs o v no_output (omega (arith, g.outputs_size)) q

  indexed : Indexed t.names u
  indexed =
      let x = g.indexed in
      record {
        input = x.input;
        output = rows_kept (λ w. w.start) (λ w. w.end) no_output (λ j. input_limit + j) output_limit t.names t.outputs u.outputs
            (stays (λ w. w.start) a) (stays (λ w. w.end) z) x.output;
        term = x.term;
        singleton = x.singleton;
      }

  pub row_changed : Changes s t (with_row t o v) (change_output f o)
  unfolding block_view change_output input_view term_view
  row_changed =
      let r = tab_update f (output_view s t) (output_view s u) t.output_count 0 o (simp zero-add row_view) (λ m h d. simp zero-add (others m d)) b in
      record {
        view = λ x. declared (slice t.start t.end s) (inputs_view s t) (r x);
        holds = holds_of g.order g.inside g.placed indexed g.input_count g.output_count g.input_terms
            (kept (λ (w : Output). w.terms) term_limit t.outputs o v no_output (let q = g.output_terms o in omega (arith, e)) g.output_terms)
            g.point_counts g.names_size g.inputs_size (simp length-set g.outputs_size) g.terms_size g.points_size g.singletons_size;
      }

abbrev pub ranged : Output → Crisp → Crisp → Output
ranged v x y = record {
  start = v.start;
  end = v.end;
  terms = v.terms;
  ranged = true;
  least = x;
  most = y;
  numbered = v.numbered;
  default = v.default;
}

pub range_set : (s : List ℕ) (t : Tables) (o : ℕ) (x y : Crisp) → o < t.output_count → Holds s t
    → Changes s t (with_row t o (ranged (output_row t o) x y)) (change_output (with_range (record { least = x.0; most = y.0 })) o)
unfolding output_view
range_set s t o x y b g = row_changed s t o (ranged (output_row t o) x y) (with_range (record { least = x.0; most = y.0 })) b refl refl refl g refl

abbrev pub defaulted : Output → Crisp → Output
defaulted v x = record {
  start = v.start;
  end = v.end;
  terms = v.terms;
  ranged = v.ranged;
  least = v.least;
  most = v.most;
  numbered = true;
  default = x;
}

pub default_set : (s : List ℕ) (t : Tables) (o : ℕ) (x : Crisp) → o < t.output_count → Holds s t
    → Changes s t (with_row t o (defaulted (output_row t o) x)) (change_output (with_default x.0) o)
unfolding output_view
default_set s t o x b g = row_changed s t o (defaulted (output_row t o) x) (with_default x.0) b refl refl refl g refl
