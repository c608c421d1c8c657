-- One turn of the loop over a table's rows, and what the whole loop finds where the rows are those that `rows_ok` asks for.
use Rattle.std.specs.Prelude.{Option, None, Some, if◌then◌else◌, is_some, IfSome}
use mathlib.Core.Path.{◌≡◌, refl, sym, ap, ◌∙◌}
use mathlib.Core.List.{List}
use mathlib.Core.Bool.{Bool, true, false}
use Prim.Native.Nat.{ℕ, zero, suc, ◌+◌, ◌*◌, ◌-◌, ◌≤◌, ◌<◌}
use native.Mathlib.Omega.{arith}
use native.Mathlib.Numerals.{add-one}
use lib.Dec.{eqb}
use Rattle.std.specs.List.{list_all, range_with_len}
use Rattle.model.specs.Basic.{same, tab}
use Rattle.model.specs.Bounds.{M}
use Rattle.model.specs.Image.{point_place}
use Rattle.laws.proofs.Places.{step, gone}
use Rattle.layout.specs.Rows.{rows_ok}
use Rattle.layout.specs.Tables.{sums}
use Rattle.stored_rows.proofs.RowTests.{point_row_lem}
use Rattle.stored_tables.specs.Tests.{up_to, output_points_from}

module _ (t : ℕ → ℕ → Bool) (c : ℕ → ℕ) (e i n : ℕ) where
  pub turn : i < e → true ≡ t i n → (m : ℕ) → m ≡ n + c i → up_to t c (e - (i + 1)) (i + 1) m ≡ up_to t c (e - i) i n
  unfolding up_to
  turn h q m z = rw (step e i h) (simp (sym q, z, add-one))

  pub refused : i < e → false ≡ t i n → None ≡ up_to t c (e - i) i n
  unfolding up_to
  refused h q = rw (step e i h) (simp (sym q))

  pub ended : e ≤ i → Some n ≡ up_to t c (e - i) i n
  unfolding up_to
  ended h = rw (gone e i h) refl

module _ {R : Type 0} (enc : ℕ → R → List ℕ) (next : ℕ → R → ℕ) (dec : ℕ → R) (w : ℕ → ℕ) (o s : ℕ) (t : ℕ → ℕ → Bool) (c : ℕ → ℕ) where
  all_rows : ((i n : ℕ) → same (tab w s (o + i * s)) (enc n (dec i)) ≡ t i n) → ((i n : ℕ) → next n (dec i) ≡ n + c i) → (k i n : ℕ)
      → up_to t c k i n ≡ if rows_ok enc next dec w o s k i n then Some (n + sums c k i) else None
  unfolding up_to rows_ok sums
  all_rows f g zero i n = ap (λ (m : ℕ). Some m) (omega arith)
  all_rows f g (suc k) i n = go (all_rows f g k (suc i) (n + c i)) (t i n) refl
    where
      go : up_to t c k (suc i) (n + c i) ≡ (if rows_ok enc next dec w o s k (suc i) (n + c i) then Some (n + c i + sums c k (suc i)) else None)
          → (b : Bool) → t i n ≡ b → up_to t c (suc k) i n ≡ if rows_ok enc next dec w o s (suc k) i n then Some (n + sums c (suc k) i) else None
      go ih true e =
          let q : n + c i + sums c k (suc i) ≡ n + (c i + sums c k (suc i)) = omega arith in
          rw (f i n, e, g i n) (ih ∙ rw q refl)
      go ih false e = rw (f i n, e) refl

  -- k rows, whose numbers of that table's go up to a
  pub up_to_rows : ((i n : ℕ) → same (tab w s (o + i * s)) (enc n (dec i)) ≡ t i n) → ((i n : ℕ) → next n (dec i) ≡ n + c i) → (l k i n a : ℕ)
      → l ≡ k → n + sums c k i ≡ a → up_to t c l i n ≡ if rows_ok enc next dec w o s k i n then Some a else None
  up_to_rows f g l k i n a e h = rw e (all_rows f g k i n ∙ rw h refl)

module _ (r : Option ℕ) (b : Bool) (a : ℕ) (e : r ≡ (if b then Some a else None)) where
  pub given : is_some r ≡ b
  given = ap is_some e ∙ some_if b
    where
      some_if : (x : Bool) → is_some (if x then Some a else None) ≡ x
      some_if true = refl
      some_if false = refl

  pub valued : IfSome r (λ n. n ≡ a)
  valued = rw e (holds b)
    where
      holds : (x : Bool) → IfSome (if x then Some a else None) (λ n. n ≡ a)
      holds true = refl
      holds false = tt

-- the points, one by one
pub points_are : (w : ℕ → ℕ) → ((k : ℕ) → w k ≤ 4294967295) → (n i : ℕ)
    → list_all (λ k. eqb (w (point_place w k + 1)) M) (range_with_len i n) ≡ output_points_from w n i
unfolding rows_ok
points_are w fits zero i = refl
points_are w fits (suc n) i =
    let e : i + 1 ≡ suc i = omega arith in
    rw (point_row_lem w fits i, sym (points_are w fits n (suc i))) (rw e refl)
