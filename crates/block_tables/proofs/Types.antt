-- INT for the inputs from some on.
use Rattle.std.specs.Prelude.{if◌then◌else◌}
use mathlib.Core.Path.{◌≡◌, refl, sym, ap, ◌∙◌}
use mathlib.Core.Bool.{Bool, true, false}
use mathlib.Core.List.{List}
use Prim.Native.Nat.{ℕ, ◌+◌, ◌≤◌, ◌<◌}
use native.Mathlib.Nat.{zero-add}
use native.Mathlib.Omega.{arith}
use borrow.Author.Tests.{eqb-true, eqb-false, ltb-true, ltb-false}
use lib.Dec.{ltb, eqb}
use lib.Arith.{lt_of_le-ne}
use lib.ListN.{length, get_or, set, length-set}
use lib.Seq.{slice, get_or-set_same, get_or-set_other}
use Rattle.model.specs.Block.{as_int}
use Rattle.model.specs.Basic.{tab}
use Rattle.model.specs.Bounds.{input_limit, term_limit}
use Rattle.model.specs.Declarations.{int_from}
use Rattle.model.specs.declared.InputType.TheVariants.{Real as real, Int as int}
use Rattle.block_tables.specs.declared.Input.{Input}
use Rattle.block_tables.specs.declared.Tables.{Tables}
use Rattle.block_tables.specs.View.{no_input, term_view, input_view, singleton_view, output_view, outputs_view, declared, block_view, Indexed, Holds}
use Rattle.block_tables.proofs.Fields.{tables_of, holds_of}
use Rattle.block_tables.specs.Changes.{Changes, int_row, Typed}
use Rattle.block_tables.proofs.Tabs.{tab_from}
use Rattle.block_tables.proofs.Views.{term_same, input_same}
use Rattle.block_tables.proofs.Index.{rows_kept}

pub typed_none : (old : List Input) (from : ℕ) → length old ≡ input_limit → Typed old from from old
typed_none old from l = record { before = λ i h. refl; within = λ i h k. absurd (omega arith); behind = λ i h k. refl; size = l }

-- one row more
pub typed_more : (old new : List Input) (from i : ℕ) → Typed old from i new → from ≤ i → i < input_limit
    → Typed old from (i + 1) (set new i (int_row (get_or new i no_input)))
typed_more old new from i d h l = record {
  before = λ j b. get_or-set_other new i j _ no_input (λ q. omega arith) ∙ d.before j b;
  within = λ j a b. within j a b (eqb j i) refl;
  behind = λ j a b. get_or-set_other new i j _ no_input (λ q. omega arith) ∙ d.behind j a (omega arith);
  size = simp length-set d.size;
}
  where
    within : (j : ℕ) → from ≤ j → j < i + 1 → (t : Bool) → eqb j i ≡ t
        → get_or (set new i (int_row (get_or new i no_input))) j no_input ≡ int_row (get_or old j no_input)
    within j a b true q =
        ap (λ (k : ℕ). get_or (set new i (int_row (get_or new i no_input))) k no_input) (eqb-true j i q)
        ∙ get_or-set_same new i _ no_input (omega (arith, d.size)) ∙ ap int_row (d.behind i h (omega arith))
        ∙ ap (λ (k : ℕ). int_row (get_or old k no_input)) (sym (eqb-true j i q))
    within j a b false q = let z = eqb-false j i q in get_or-set_other new i j _ no_input z ∙ d.within j a (lt_of_le-ne (omega arith) z)

pub typed_end : (old new : List Input) (from i to : ℕ) → Typed old from i new → (from < i → i ≤ to) → from ≤ i → to ≤ i → Typed old from to new
typed_end old new from i to d k h l = record {
  before = d.before;
  within = λ j a b. d.within j a (omega arith);
  behind = λ j a b. behind j a b (ltb j i) refl;
  size = d.size;
}
  where
    behind : (j : ℕ) → from ≤ j → to ≤ j → (t : Bool) → ltb j i ≡ t → get_or new j no_input ≡ get_or old j no_input
    behind j a b true q = let z = ltb-true j i q in let y : from < i = omega arith in let x = k y in absurd (omega arith)
    behind j a b false q = d.behind j a (ltb-false j i q)

abbrev pub with_inputs : Tables → List Input → Tables
with_inputs t rows = tables_of t.start t.end t.input_count t.output_count rows t.outputs t.input_terms t.output_terms t.names

module _ (s : List ℕ) (t : Tables) (n : ℕ) (rows : List Input) (d : Typed t.inputs n t.input_count rows) (g : Holds s t) where
  input_stays : (i : ℕ) → i < n → input_view s (with_inputs t rows) i ≡ input_view s t i
  input_stays i h = input_same s t (with_inputs t rows) i (d.before i h) (λ j f. term_same s t (with_inputs t rows) i j refl)

  input_typed : (i : ℕ) → n ≤ i → i < t.input_count → input_view s (with_inputs t rows) i ≡ as_int (input_view s t i)
  unfolding input_view term_view
  input_typed i h b = let q = d.within i h b in λ x. record {
    name = slice (q x).start (q x).end s;
    type = if (q x).int then int else real;
    terms = tab (term_view s t i) (q x).terms 0;
  }

  -- all but its type stays in a row
  row_stays : {B : Type 0} (f : Input → B) → ((v : Input) → f (int_row v) ≡ f v) → (i : ℕ) → f (get_or rows i no_input) ≡ f (get_or t.inputs i no_input)
  row_stays {B} f e i = by (ltb i n) (ltb i t.input_count) refl refl
    where
      by : (x y : Bool) → ltb i n ≡ x → ltb i t.input_count ≡ y → f (get_or rows i no_input) ≡ f (get_or t.inputs i no_input)
      by true y p q = ap f (d.before i (ltb-true i n p))
      by false true p q = ap f (d.within i (ltb-false i n p) (ltb-true _ _ q)) ∙ e _
      by false false p q = ap f (d.behind i (ltb-false i n p) (ltb-false _ _ q))

  indexed : Indexed t.names (with_inputs t rows)
  indexed =
      let x = g.indexed in
      record {
        input = rows_kept (λ v. v.start) (λ v. v.end) no_input (λ j. j) input_limit t.names t.inputs rows (row_stays (λ v. v.start) (λ v. refl))
            (row_stays (λ v. v.end) (λ v. refl)) x.input;
        output = x.output;
        term = x.term;
        singleton = x.singleton;
      }

  bound : (i : ℕ) → (get_or rows i no_input).terms ≤ term_limit
  bound i = rw (row_stays (λ v. v.terms) (λ v. refl) i) (g.input_terms i)

  pub typed : Changes s t (with_inputs t rows) (int_from n)
  unfolding block_view int_from output_view singleton_view
  typed =
      let p = tab_from as_int (input_view s t) (input_view s (with_inputs t rows)) t.input_count n 0 (λ k a b. simp zero-add (input_stays k b))
      (λ k a b. simp zero-add (input_typed k b a)) in
      record {
        view = λ x. declared (slice t.start t.end s) (p x) (outputs_view s t);
        holds = holds_of g.order g.inside g.placed indexed g.input_count g.output_count bound g.output_terms g.point_counts
            g.names_size d.size g.outputs_size g.terms_size g.points_size g.singletons_size;
      }
