-- The figures of a held record one by one.
use mathlib.Core.Path.{◌≡◌, sym, ap, ◌∙◌}
use mathlib.Core.List.{List, ◌++◌, map, map-append}
use mathlib.Core.Bool.{Bool, true, ◌&&◌}
use Prim.Native.Nat.{ℕ, ◌+◌, ◌-◌, ◌≤◌, ◌<◌}
use native.Mathlib.Nat.{sub-zero}
use native.Mathlib.Numerals.{add-one}
use native.Mathlib.Omega.{arith}
use native.Mathlib.Decide.{dec_le}
use lib.Dec.{eqb}
use lib.IntN.{ℤ, pos, nat_abs}
use lib.ListN.{length, get_or, drop, replicate, drop_of_length-le}
use lib.Seq.{drop-cons}
use Rattle.model.specs.Basic.{all, tab}
use Rattle.model.specs.Bounds.{output_limit}
use Rattle.model.specs.Block.{Output}
use Rattle.model.specs.WellFormed.{figure_ok}
use Rattle.model.specs.Evaluation.{held_of, figures_of, held_ok}
use Rattle.model.specs.Image.{output_at, decode, OUTPUTS}
use Rattle.model.specs.declared.Crisp.{Crisp}
use Rattle.model.specs.declared.Held.{Held}
use Rattle.laws.proofs.Lists.{map_tab}
use Rattle.laws.proofs.Places.{step, gone, length_tab}
use Rattle.laws.proofs.Arrays.{map_replicate}

-- a record whose first n figures are values of t
pub held_tab : (t : ℕ → ℤ) (n : ℕ) → tab (λ j. record { 0 = t j }) n 0 ++ replicate (output_limit - n) (record { 0 = pos 0 }) ≡ (held_of (tab t n 0)).figures
held_tab t n = sym (
    ap (λ (k : ℕ). map mk (tab t n 0 ++ replicate (output_limit - k) (pos 0))) (length_tab t n 0)
    ∙ map-append mk (tab t n 0) (replicate (output_limit - n) (pos 0))
    ∙ (λ j. map_tab mk t n 0 j ++ map_replicate mk (output_limit - n) (pos 0) j))
  where
    mk : ℤ → Crisp
    mk x = record { 0 = x }

abbrev pub figures : List Crisp → List ℤ
figures cs = map (λ c. c.0) cs

abbrev zero_crisp : Crisp
zero_crisp = record { 0 = pos 0 }

module _ (f : ℕ → Output) (n : ℕ) (xs : List Crisp) where
  -- the figures from the i-th on, of n outputs
  abbrev pub from : ℕ → Bool
  from i = held_ok (tab f (n - i) i) (figures (drop i xs))

  pub figure_of_output : (i : ℕ) → i < n → i < length xs
      → from i ≡ figure_ok (f i).range (get_or xs i zero_crisp).0 && from (i + 1)
  unfolding held_ok tab
  figure_of_output i h l = rw (step n i h, drop-cons xs i zero_crisp, add-one)

  pub figure_past : (i : ℕ) → n ≤ i → i < length xs → from i ≡ eqb (nat_abs (get_or xs i zero_crisp).0) 0 && from (i + 1)
  unfolding held_ok tab all
  figure_past i h l =
      let m : n ≤ i + 1 = omega arith in
      rw (gone n i h, gone n (i + 1) m, drop-cons xs i zero_crisp, add-one)

  -- one of them, where t is what is asked of it
  pub figure_here : (i : ℕ) (t : Bool) → (i < n → t ≡ figure_ok (f i).range (get_or xs i zero_crisp).0)
      → (n ≤ i → t ≡ eqb (nat_abs (get_or xs i zero_crisp).0) 0) → i < length xs → from i ≡ t && from (i + 1)
  figure_here i t a b l = go (dec_le n i)
    where
      go : Dec (n ≤ i) → from i ≡ t && from (i + 1)
      go (yes h) = rw (b h) (figure_past i h l)
      go (no h) = let lt : i < n = omega arith in rw (a lt) (figure_of_output i lt l)

  pub figures_end : (i : ℕ) → n ≤ length xs → length xs ≤ i → from i ≡ true
  unfolding held_ok tab all
  figures_end i h l = let m : n ≤ i = omega arith in rw (gone n i m, drop_of_length-le)

pub whole : (w : ℕ → ℕ) (n : ℕ) (held : Held) → n ≡ w OUTPUTS
    → from (output_at w) n held.figures 0 ≡ held_ok (decode w).outputs (figures_of held)
unfolding decode
whole w n held e = rw e (rw sub-zero)
