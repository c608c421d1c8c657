-- Tables of degrees.
use mathlib.Core.Path.{◌≡◌, sym}
use mathlib.Core.List.{List}
use Prim.Native.Nat.{ℕ, ◌≤◌}
use native.Mathlib.Omega.{arith}
use lib.ListN.{get_or, set, replicate, get_or-map}
use Rattle.model.specs.declared.Degree.{Degree}
use Rattle.model.specs.Bounds.{M}
use Rattle.degrees.specs.Tables.{numbers, Low}
use Rattle.laws.proofs.Arrays.{each_start, each_set, map_set, map_replicate}

pub low_set : (l : List ℕ) (n v : ℕ) → Low l → v ≤ M → Low (set l n v)
low_set = each_set (λ d. d ≤ M) 0

pub low_zeros : (n : ℕ) → Low (replicate n 0)
low_zeros n = each_start (λ d. d ≤ M) 0 n (omega arith)

pub numbers_set : (ds : List Degree) (n : ℕ) (v : Degree) → numbers (set ds n v) ≡ set (numbers ds) n v.0
numbers_set = map_set (λ (d : Degree). d.0)

pub numbers_zeros : (n : ℕ) → numbers (replicate n (record { 0 = 0 })) ≡ replicate n 0
numbers_zeros n = map_replicate (λ (d : Degree). d.0) n (record { 0 = 0 })

pub number_at : (ds : List Degree) (t : ℕ) → (get_or ds t (record { 0 = 0 })).0 ≡ get_or (numbers ds) t 0
number_at ds t = sym (get_or-map (λ (x : Degree). x.0) ds t (record { 0 = 0 }))

pub low_turn : (r : List Degree) (n : ℕ) (v : Degree) → Low (numbers r) → v.0 ≤ M → Low (numbers (set r n v))
low_turn r n v low h = rw (numbers_set r n v) (low_set (numbers r) n v.0 low h)
