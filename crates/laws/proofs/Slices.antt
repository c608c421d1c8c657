-- Parts of a list as code lends them, by where they start and end.
use mathlib.Core.Path.{◌≡◌}
use mathlib.Core.List.{List, [], ◌∷◌}
use Prim.Native.Nat.{ℕ, zero, suc, ◌+◌, ◌-◌}
use native.Mathlib.Omega.{arith}
use lib.ListN.{length, take, drop, length-drop}
use lib.Seq.{slice, take_all, take-nil}

-- from a to e
pub part : (a e : ℕ) (s : List ℕ) → take (e - a) (drop a s) ≡ slice a e s
part zero e s = let z : e - 0 ≡ e = omega arith in rw z
part (suc a) zero s = let z : 0 - suc a ≡ 0 = omega arith in rw z
part (suc a) (suc e) [] = take-nil (suc e - suc a)
part (suc a) (suc e) (x ∷ s) = let z : suc e - suc a ≡ e - a = omega arith in rw z (part a e s)

-- n from a on
pub cut : (a n : ℕ) (s : List ℕ) → take n (drop a s) ≡ slice a (a + n) s
cut zero n s = let z : 0 + n ≡ n = omega arith in rw z
cut (suc a) n [] = let z : suc a + n ≡ suc (a + n) = omega arith in rw z (take-nil {A = ℕ} n)
cut (suc a) n (x ∷ s) = let z : suc a + n ≡ suc (a + n) = omega arith in rw z (cut a n s)

-- all from a on
pub rest : (s : List ℕ) (a : ℕ) → take (length s - a) (drop a s) ≡ drop a s
rest s a = take_all (length s - a) (drop a s) (omega (arith, length-drop a s))
