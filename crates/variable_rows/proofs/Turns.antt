-- The rows of a table, one a turn.
use mathlib.Core.Path.{◌≡◌, refl, sym, ap, ◌∙◌}
use mathlib.Core.List.{List, [], ◌++◌, append_assoc, append-nil}
use Prim.Native.Nat.{ℕ, zero, suc, ◌+◌, ◌*◌, ◌-◌, ◌≤◌, ◌<◌}
use native.Mathlib.Omega.{arith}
use native.Mathlib.Numerals.{add-one}
use lib.ListN.{length, get_or, take}
use lib.Seq.{get_or-take, length-take-le}
use Rattle.laws.proofs.Places.{step, gone}
use Rattle.word_writer.specs.Over.{Wrote}
use Rattle.word_writer.proofs.Over.{joined, no_words, retold}
use Rattle.variable_rows.specs.Rows.{rows}

-- ROWS: what is left from the i-th on, one row a turn
module _ {S : Type 0} (row : S → ℕ → List ℕ) (next : S → ℕ → S) (n i : ℕ) (σ : S) where
  pub rows_more : i < n → rows row next (n - i) i σ ≡ row σ i ++ rows row next (n - (i + 1)) (i + 1) (next σ i)
  unfolding rows
  rows_more h = rw (step n i h, add-one)

  pub rows_end : n ≤ i → rows row next (n - i) i σ ≡ []
  unfolding rows
  rows_end h = rw (gone n i h)

-- rows that are the same as far as they go
module _ {S : Type 0} (row row' : S → ℕ → List ℕ) (next next' : S → ℕ → S) where
  pub rows_same : (n i : ℕ) (σ : S) → ((k : ℕ) (τ : S) → k < i + n → (row τ k ≡ row' τ k) × (next τ k ≡ next' τ k))
      → rows row next n i σ ≡ rows row' next' n i σ
  unfolding rows
  rows_same zero i σ h = refl
  rows_same (suc n) i σ h =
      let q = h i σ (omega arith) in
      (λ j. q.0 j ++ rows row next n (suc i) (q.1 j))
      ∙ ap (λ (l : List ℕ). row' σ i ++ l) (rows_same n (suc i) (next' σ i) (λ k τ l. h k τ (omega arith)))

-- rows of the first n of a list
pub rows_front : {S X : Type 0} (row : S → ℕ → X → List ℕ) (next : S → ℕ → X → S) (l : List X) (d : X) (n : ℕ) (σ : S) → n ≤ length l
    → rows (λ τ k. row τ k (get_or (take n l) k d)) (λ τ k. next τ k (get_or (take n l) k d)) (length (take n l)) 0 σ
    ≡ rows (λ τ k. row τ k (get_or l k d)) (λ τ k. next τ k (get_or l k d)) n 0 σ
rows_front {S} row next l d n σ h =
    rw (length-take-le n l h) (rows_same (λ τ k. row τ k (get_or (take n l) k d)) (λ τ k. row τ k (get_or l k d))
    (λ τ k. next τ k (get_or (take n l) k d)) (λ τ k. next τ k (get_or l k d)) n 0 σ (λ k τ g. both k τ (get_or-take n l k d (omega arith))))
  where
    both : (k : ℕ) (τ : S) → get_or (take n l) k d ≡ get_or l k d
        → (row τ k (get_or (take n l) k d) ≡ row τ k (get_or l k d)) × (next τ k (get_or (take n l) k d) ≡ next τ k (get_or l k d))
    both k τ e = (λ j. row τ k (e j), λ j. next τ k (e j))

-- TABLES: the rows before the i-th are written, and with the others they are the table T
abbrev pub Going : {S : Type 0} (row : S → ℕ → List ℕ) (next : S → ℕ → S) (T : List ℕ) (n : ℕ) (old : List ℕ) (at i : ℕ) (σ : S) (p : ℕ) (new : List ℕ) → Type 0
Going row next T n old at i σ p new = (ws : List ℕ) × Wrote at p ws old new × (ws ++ rows row next (n - i) i σ ≡ T)

module _ {S : Type 0} (row : S → ℕ → List ℕ) (next : S → ℕ → S) (T : List ℕ) (n : ℕ) (old : List ℕ) (at : ℕ) where
  pub begins : (σ : S) → rows row next n 0 σ ≡ T → Going row next T n old at 0 σ at old
  begins σ e = let z : n - 0 ≡ n = omega arith in ([], no_words at old, rw z e)

  pub goes : (i : ℕ) (σ : S) (p r : ℕ) (new new' : List ℕ) → i < n → p * 4 ≤ length old → Wrote p r (row σ i) new new'
      → Going row next T n old at i σ p new → Going row next T n old at (i + 1) (next σ i) r new'
  goes i σ p r new new' h room w g = (g.0 ++ row σ i, joined room g.1 w, rw append_assoc (rw (rows_more row next n i σ h) at g.2))

  pub ends : (i : ℕ) (σ : S) (p : ℕ) (new : List ℕ) → n ≤ i → Going row next T n old at i σ p new → Wrote at p T old new
  ends i σ p new h g = retold (sym (append-nil g.0) ∙ rw (rows_end row next n i σ h) at g.2) g.1
