-- Degrees: nearest, the operators, the pairs, and the degree of a term and of a condition.
use Rattle.std.specs.Prelude.{List, [], ◌∷◌, ℕ, ◌+◌, ◌*◌, ◌-◌, ◌/◌, min, max, ℤ, pos, nat_abs, ◌+ℤ◌, ◌-ℤ◌, ◌*ℤ◌, get_or, if◌then◌else◌}
use Rattle.std.specs.Int.Signed.{lt_z, shr_z}
use Rattle.model.specs.Bounds.{M}
use Rattle.model.specs.Block.{Point, Op, and, or, Condition, term, neg, two, Pair, min-max, prod-asum, bdif-bsum}

-- the nearest whole number to a / b, a half toward plus: (2a + b) / 2b rounded down
abbrev pub nearest : ℕ → ℕ → ℕ
nearest a b = (2 * a + b) / (2 * b)

-- `shr_z` divides by a natural number, rounded down
abbrev pub nearestℤ : ℤ → ℕ → ℤ
nearestℤ a b = shr_z (a *ℤ pos 2 +ℤ pos b) (2 * b)

-- OPERATORS
abbrev pub not_of : ℕ → ℕ
not_of a = M - a

abbrev pub prod_of : ℕ → ℕ → ℕ
prod_of a b = nearest (a * b) M

abbrev pub asum_of : ℕ → ℕ → ℕ
asum_of a b = a + b - prod_of a b

-- a difference below 0 is 0
abbrev pub bdif_of : ℕ → ℕ → ℕ
bdif_of a b = a + b - M

abbrev pub bsum_of : ℕ → ℕ → ℕ
bsum_of a b = min M (a + b)

-- Table 3: the algorithms for AND and OR
abbrev pub pairs : Pair → Op → ℕ → ℕ → ℕ
pairs min-max and a b = min a b
pairs min-max or a b = max a b
pairs prod-asum and a b = prod_of a b
pairs prod-asum or a b = asum_of a b
pairs bdif-bsum and a b = bdif_of a b
pairs bdif-bsum or a b = bsum_of a b

-- THE DEGREE OF A TERM
-- how far b lies above a
abbrev pub distance : ℤ → ℤ → ℕ
distance a b = nat_abs (b -ℤ a)

-- between two points, p at or below x and q above it
abbrev pub on_line : ℤ → Point → Point → ℕ
on_line x p q =
    nearest (p.degree * distance x q.at + q.degree * distance p.at x) (distance p.at q.at)

-- at or above p, by the points after it: of two points at x the later one
unfoldable pub degree_from : ℤ → Point → List Point → ℕ
degree_from x p [] = p.degree
degree_from x p (q ∷ qs) = if lt_z x q.at then on_line x p q else degree_from x q qs

-- below the first point its degree
unfoldable pub term_degree : List Point → ℤ → ℕ
term_degree [] x = 0
term_degree (p ∷ ps) x = if lt_z x p.at then p.degree else degree_from x p ps

-- THE DEGREE OF A CONDITION, by the degrees of the input terms
unfoldable pub condition_degree : Pair → List ℕ → Condition → ℕ
condition_degree p ds (term t) = get_or ds t 0
condition_degree p ds (neg c) = not_of (condition_degree p ds c)
condition_degree p ds (two o a b) = pairs p o (condition_degree p ds a) (condition_degree p ds b)
