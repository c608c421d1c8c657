-- The variables of a text are the first of those that there is room for.
use mathlib.Core.Path.{◌≡◌}
use mathlib.Core.List.{List, [], ◌∷◌}
use Prim.Native.Nat.{ℕ, zero, suc, ◌+◌, ◌*◌, ◌≤◌, ◌<◌}
use native.Mathlib.Omega.{arith}
use lib.ListN.{length, get_or, take}
use lib.Seq.{length-take-le}
use Rattle.model.specs.Basic.{tab}
use Rattle.model.specs.Bounds.{term_limit}
use Rattle.block_tables.specs.declared.Input.{Input}
use Rattle.block_tables.specs.declared.Output.{Output}
use Rattle.block_tables.specs.View.{no_input, no_output}
use Rattle.variable_rows.specs.Rows.{InputsNamed, OutputsNamed, input_size, output_size, input_words, output_words, input_rows, output_rows, slots_of, Listed, Places}
use Rattle.variable_rows.proofs.Turns.{rows_front}

-- what holds of a list's entries, and of what stands past its end, holds of those of its front
module _ {X : Type 0} (P : X → Type 0) (d : X) (past : P d) where
  pub front_at : (n : ℕ) (l : List X) (i : ℕ) → P (get_or l i d) → P (get_or (take n l) i d)
  front_at zero l i h = past
  front_at (suc n) [] i h = h
  front_at (suc n) (x ∷ l) zero h = h
  front_at (suc n) (x ∷ l) (suc i) h = front_at n l i h

module _ (l : List Input) (n : ℕ) where
  pub inputs_front_named : (s : List ℕ) → InputsNamed s l → InputsNamed s (take n l)
  inputs_front_named s h i b = front_at (λ v. (v.start ≤ v.end) × (v.end ≤ length s)) no_input (omega arith, omega arith) n l i (h i b)

  pub inputs_front_size : ((i : ℕ) → input_size l i ≤ term_limit) → (i : ℕ) → input_size (take n l) i ≤ term_limit
  inputs_front_size h i = front_at (λ v. v.terms ≤ term_limit) no_input (omega arith) n l i (h i)

  pub inputs_front_rows : (s : List ℕ) → n ≤ length l → input_rows s (take n l) (length (take n l)) ≡ input_rows s l n
  unfolding input_rows
  inputs_front_rows s h = rows_front (λ m k v. input_words s v m) (λ m k v. m + v.terms) l no_input n 0 h

  pub inputs_front_slots : n ≤ length l → slots_of (input_size (take n l)) (length (take n l)) ≡ slots_of (input_size l) n
  unfolding slots_of
  inputs_front_slots h = rows_front (λ σ i v. tab (λ j. i * term_limit + j) v.terms 0) (λ σ i v. σ) l no_input n tt h

module _ (l : List Output) (n : ℕ) where
  pub outputs_front_named : (s : List ℕ) → OutputsNamed s l → OutputsNamed s (take n l)
  outputs_front_named s h i b = front_at (λ v. (v.start ≤ v.end) × (v.end ≤ length s)) no_output (omega arith, omega arith) n l i (h i b)

  pub outputs_front_size : ((i : ℕ) → output_size l i ≤ term_limit) → (i : ℕ) → output_size (take n l) i ≤ term_limit
  outputs_front_size h i = front_at (λ v. v.terms ≤ term_limit) no_output (omega arith) n l i (h i)

  pub outputs_front_rows : (s : List ℕ) (first : ℕ) → n ≤ length l → output_rows s (take n l) (length (take n l)) first ≡ output_rows s l n first
  unfolding output_rows
  outputs_front_rows s first h = rows_front (λ m k v. output_words s v m) (λ m k v. m + v.terms) l no_output n first h

  pub outputs_front_slots : n ≤ length l → slots_of (output_size (take n l)) (length (take n l)) ≡ slots_of (output_size l) n
  unfolding slots_of
  outputs_front_slots h = rows_front (λ σ i v. tab (λ j. i * term_limit + j) v.terms 0) (λ σ i v. σ) l no_output n tt h

pub places_of : (m n : ℕ) (l : List ℕ) → 0 < m → n ≤ m → m ≤ length l → Listed m l → Places m (take n l)
places_of m n l z few room h = record {
  few = rw (length-take-le n l (omega arith)) few;
  below = λ k. front_at (λ x. x < m) 0 z n l k (h.below k);
}
