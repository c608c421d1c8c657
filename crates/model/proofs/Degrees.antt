-- Degrees: nearest, each operator at its ends and where it rounds, and a term of four points from end to end.
use mathlib.Core.List.{List, [], ◌∷◌, ◌++◌, map}
use mathlib.Core.Path.{◌≡◌, refl}
use Prim.Native.Nat.{ℕ}
use lib.IntN.{ℤ, pos, negsuc}
use Rattle.model.specs.Block.{Point, Op, and, or, Pair, min-max, prod-asum, bdif-bsum, Condition, term, neg, two, by-max, by-bsum}
use Rattle.model.specs.Degrees.{nearest, nearestℤ, not_of, pairs, term_degree, condition_degree}
use Rattle.model.specs.Evaluation.{accumulate_all}
use Rattle.model.proofs.Opened.{opened}

-- a half goes toward plus
nearest_natural : map (λ a. nearest a 4) (0 ∷ 1 ∷ 2 ∷ 3 ∷ 4 ∷ 5 ∷ 6 ∷ 7 ∷ []) ≡ 0 ∷ 0 ∷ 1 ∷ 1 ∷ 1 ∷ 1 ∷ 2 ∷ 2 ∷ []
nearest_natural = refl

nearest_thirds : map (λ a. nearest a 3) (0 ∷ 1 ∷ 2 ∷ 3 ∷ 4 ∷ 5 ∷ []) ≡ 0 ∷ 0 ∷ 1 ∷ 1 ∷ 1 ∷ 2 ∷ []
nearest_thirds = refl

nearest_whole : map (λ a. nearestℤ a 4) (pos 5 ∷ pos 6 ∷ negsuc 0 ∷ negsuc 1 ∷ negsuc 2 ∷ negsuc 3 ∷ negsuc 4 ∷ negsuc 5 ∷ negsuc 6 ∷ [])
    ≡ pos 1 ∷ pos 2 ∷ pos 0 ∷ pos 0 ∷ negsuc 0 ∷ negsuc 0 ∷ negsuc 0 ∷ negsuc 0 ∷ negsuc 1 ∷ []
nearest_whole = refl

nearest_whole_thirds : map (λ a. nearestℤ a 3) (pos 4 ∷ pos 5 ∷ negsuc 0 ∷ negsuc 1 ∷ negsuc 3 ∷ negsuc 4 ∷ [])
    ≡ pos 1 ∷ pos 2 ∷ pos 0 ∷ negsuc 0 ∷ negsuc 0 ∷ negsuc 1 ∷ []
nearest_whole_thirds = refl

-- OPERATORS on some pairs of degrees
not_values : map not_of (0 ∷ 1 ∷ 250000 ∷ 1000000 ∷ []) ≡ 1000000 ∷ 999999 ∷ 750000 ∷ 0 ∷ []
not_values = refl

pub record Two : Type 0 where
  pub left : ℕ
  pub right : ℕ

abbrev both : ℕ → ℕ → Two
both a b = record { left = a; right = b }

abbrev operands : List Two
operands =
    both 0 0 ∷ both 0 1000000 ∷ both 1000000 1000000 ∷ both 300000 500000 ∷ both 500000 300000 ∷ both 600000 500000 ∷ both 700000 300000
    ∷ both 1 500000 ∷ both 1 499999 ∷ []

abbrev results : Pair → Op → List ℕ
results p o = map (λ x. pairs p o x.left x.right) operands

min_values : results min-max and ≡ 0 ∷ 0 ∷ 1000000 ∷ 300000 ∷ 300000 ∷ 500000 ∷ 300000 ∷ 1 ∷ 1 ∷ []
min_values = refl

max_values : results min-max or ≡ 0 ∷ 1000000 ∷ 1000000 ∷ 500000 ∷ 500000 ∷ 600000 ∷ 700000 ∷ 500000 ∷ 499999 ∷ []
max_values = refl

-- 0.5 of a millionth is 1, a little less is 0
prod_values : results prod-asum and ≡ 0 ∷ 0 ∷ 1000000 ∷ 150000 ∷ 150000 ∷ 300000 ∷ 210000 ∷ 1 ∷ 0 ∷ []
prod_values = refl

asum_values : results prod-asum or ≡ 0 ∷ 1000000 ∷ 1000000 ∷ 650000 ∷ 650000 ∷ 800000 ∷ 790000 ∷ 500000 ∷ 500000 ∷ []
asum_values = refl

bdif_values : results bdif-bsum and ≡ 0 ∷ 0 ∷ 1000000 ∷ 0 ∷ 0 ∷ 100000 ∷ 0 ∷ 0 ∷ 0 ∷ []
bdif_values = refl

bsum_values : results bdif-bsum or ≡ 0 ∷ 1000000 ∷ 1000000 ∷ 800000 ∷ 800000 ∷ 1000000 ∷ 1000000 ∷ 500001 ∷ 500000 ∷ []
bsum_values = refl

-- A TERM of the points (-1, 0.2), (1, 1), (2, 0), (4, 0.5): below and at its first point, between, at each, above its last
abbrev at : ℤ → ℕ → Point
at x d = record { at = x; degree = d }

abbrev zigzag : List Point
zigzag = at (negsuc 999) 200000 ∷ at (pos 1000) 1000000 ∷ at (pos 2000) 0 ∷ at (pos 4000) 500000 ∷ []

term_values :
    map (term_degree zigzag)
    (negsuc 999999999 ∷ negsuc 999 ∷ negsuc 998 ∷ pos 0 ∷ pos 999 ∷ pos 1000 ∷ pos 1001 ∷ pos 1500
    ∷ pos 2000 ∷ pos 3000 ∷ pos 3999 ∷ pos 4000 ∷ pos 1000000000 ∷ [])
    ≡ 200000 ∷ 200000 ∷ 200400 ∷ 600000 ∷ 999600 ∷ 1000000 ∷ 999000 ∷ 500000 ∷ 0 ∷ 250000 ∷ 499750 ∷ 500000 ∷ 500000 ∷ []
unfolding opened
term_values = refl

-- half a millionth on a line that rises and on one that falls
line_halves :
    term_degree (at (pos 0) 0 ∷ at (pos 2000) 1000 ∷ []) (pos 1) ∷ term_degree (at (pos 0) 1000 ∷ at (pos 2000) 0 ∷ []) (pos 1)
    ∷ term_degree (at (pos 0) 0 ∷ at (pos 3) 1000000 ∷ []) (pos 1) ∷ []
    ≡ 1 ∷ 1000 ∷ 333333 ∷ []
unfolding opened
line_halves = refl

-- CONDITIONS over the degrees 0.2, 0.9, 0.4
abbrev degrees : List ℕ
degrees = 200000 ∷ 900000 ∷ 400000 ∷ []

abbrev mixed : Condition
mixed = two or (term 0) (two and (neg (term 1)) (term 2))

-- 0.2 or (0.1 and 0.4)
condition_values : map (λ p. condition_degree p degrees mixed) (min-max ∷ prod-asum ∷ bdif-bsum ∷ []) ≡ 200000 ∷ 232000 ∷ 200000 ∷ []
unfolding opened
condition_values = refl

-- HEIGHTS: 0 without any degree
height_values :
    map (accumulate_all by-max 0) ([] ∷ (300000 ∷ 600000 ∷ 200000 ∷ []) ∷ [])
    ++ map (accumulate_all by-bsum 0) ([] ∷ (300000 ∷ 200000 ∷ []) ∷ (300000 ∷ 600000 ∷ 200000 ∷ []) ∷ [])
    ≡ 0 ∷ 600000 ∷ 0 ∷ 500000 ∷ 1000000 ∷ []
unfolding opened
height_values = refl
