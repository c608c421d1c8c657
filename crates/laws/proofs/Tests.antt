-- Tests: two joined, many one by one, and when two are equal.
use mathlib.Core.Path.{◌≡◌, refl, sym}
use mathlib.Core.List.{List, [], ◌∷◌, ◌++◌}
use mathlib.Core.Bool.{Bool, true, false, ◌&&◌, and-true, and-false}
use Prim.Native.Nat.{ℕ, zero, suc}
use native.Mathlib.Omega.{arith}
use lib.ListN.{get_or}
use Rattle.model.specs.Basic.{every}

pub both : (a b : Bool) → a && b ≡ true → (a ≡ true) × (b ≡ true)
both true b h = (refl, h)
both false b h = let z : ◌≡◌ {A = ℕ} 0 1 = cc in absurd (omega arith)

pub and_i : (a b : Bool) → a ≡ true → b ≡ true → a && b ≡ true
and_i a b p q = rw (p, q)

-- tests one by one
abbrev pub Every : List Bool → Type 0
Every [] = Unit {0}
Every (b ∷ bs) = (b ≡ true) × Every bs

pub passed : (bs : List Bool) → every bs ≡ true → Every bs
unfolding every
passed [] h = tt
passed (b ∷ bs) h = let c = both b (every bs) h in (c.0, passed bs c.1)

pub pass : (bs : List Bool) → Every bs → every bs ≡ true
unfolding every
pass [] h = refl
pass (b ∷ bs) h = and_i b (every bs) h.0 (pass bs h.1)

-- where one fails, all together do
pub one_fails : (bs : List Bool) (k : ℕ) → get_or bs k true ≡ false → every bs ≡ false
unfolding every
one_fails [] k h = h
one_fails (b ∷ bs) zero h = rw h
one_fails (b ∷ bs) (suc k) h = rw (one_fails bs k h) (and-false b)

-- where all before it pass, the last one decides
pub last_decides : (bs : List Bool) (b : Bool) → Every bs → every (bs ++ (b ∷ [])) ≡ b
unfolding every
last_decides [] b h = and-true b
last_decides (a ∷ bs) b h = rw h.0 (last_decides bs b h.1)

pub clash : {X : Type 0} → false ≡ true → X
clash h = let z : ◌≡◌ {A = ℕ} 0 1 = cc in absurd (omega arith)

-- two tests are equal where each passes when the other does
pub iff : (a b : Bool) → (a ≡ true → b ≡ true) → (b ≡ true → a ≡ true) → a ≡ b
iff true b f g = sym (f refl)
iff false true f g = g refl
iff false false f g = refl

pub and_assoc : (a b c : Bool) → (a && b) && c ≡ a && (b && c)
and_assoc true b c = refl
and_assoc false b c = refl
