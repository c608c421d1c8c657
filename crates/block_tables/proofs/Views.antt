-- What stands for a variable or a term stays where the rows that it looks at stay.
use Rattle.std.specs.Prelude.{if◌then◌else◌}
use mathlib.Core.Path.{◌≡◌, ap, ◌∙◌}
use mathlib.Core.List.{List}
use Prim.Native.Nat.{ℕ, ◌+◌, ◌*◌, ◌<◌}
use lib.Seq.{slice}
use Rattle.model.specs.Basic.{tab}
use Rattle.model.specs.Bounds.{term_limit}
use Rattle.model.specs.declared.InputType.TheVariants.{Real as real, Int as int}
use Rattle.block_tables.specs.declared.Input.{Input}
use Rattle.block_tables.specs.declared.Output.{Output}
use Rattle.block_tables.specs.declared.Tables.{Tables}
use Rattle.block_tables.specs.View.{input_row, output_row, term_row, singleton_row, a_term, a_singleton, term_view, input_view, singleton_view, range_view, default_view, output_view}
use Rattle.block_tables.proofs.Tabs.{tab_same}

module _ (s : List ℕ) (t u : Tables) where
  pub term_same : (i j : ℕ) → term_row u (i * term_limit + j) ≡ term_row t (i * term_limit + j) → term_view s u i j ≡ term_view s t i j
  unfolding term_view
  term_same i j q = ap (a_term s) q

  pub input_same : (i : ℕ) → input_row u i ≡ input_row t i → ((j : ℕ) → j < (input_row t i).terms → term_view s u i j ≡ term_view s t i j)
      → input_view s u i ≡ input_view s t i
  unfolding input_view
  input_same i q e =
      let r = ap (λ (v : Input). tab (term_view s u i) v.terms 0) q ∙ tab_same (term_view s t i) (term_view s u i) (input_row t i).terms e in
      λ x. record { name = slice (q x).start (q x).end s; type = if (q x).int then int else real; terms = r x }

  pub singleton_same : (o j : ℕ) → singleton_row u (o * term_limit + j) ≡ singleton_row t (o * term_limit + j) → singleton_view s u o j ≡ singleton_view s t o j
  unfolding singleton_view
  singleton_same o j q = ap (a_singleton s) q

  pub output_same : (o : ℕ) → output_row u o ≡ output_row t o → ((j : ℕ) → j < (output_row t o).terms → singleton_view s u o j ≡ singleton_view s t o j)
      → output_view s u o ≡ output_view s t o
  unfolding output_view
  output_same o q e =
      let r = ap (λ (v : Output). tab (singleton_view s u o) v.terms 0) q ∙ tab_same (singleton_view s t o) (singleton_view s u o) (output_row t o).terms e in
      λ x. record { name = slice (q x).start (q x).end s; terms = r x; range = range_view (q x); default = default_view (q x) }
