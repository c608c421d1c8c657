-- Sharp edges: which position may follow which; terms with a pair that stands first, last, in the middle, alone or twice,
-- as they are listed, with their degrees about the edges; the bound of half a millionth.
use mathlib.Core.Bool.{Bool, true, false}
use mathlib.Core.List.{List, [], ◌∷◌, ◌++◌, map}
use mathlib.Core.Path.{◌≡◌, refl}
use Prim.Native.Nat.{ℕ}
use Prim.Native.String.{String}
use lib.IntN.{ℤ, pos}
use Rattle.model.specs.Basic.{bytes}
use Rattle.model.specs.Block.{Point, may_follow}
use Rattle.model.specs.Listing.{term_line}
use Rattle.model.specs.Degrees.{term_degree}
use Rattle.model.specs.Edges.{WithinHalf}
use Rattle.model.proofs.Opened.{opened}

-- POSITIONS: below the last, at it and above it; a third at one position is too many, also behind others
abbrev follow : List ℤ → List Bool
follow ps = map (may_follow ps) (pos 1 ∷ pos 2 ∷ pos 3 ∷ [])

positions :
    follow [] ∷ follow (pos 2 ∷ []) ∷ follow (pos 1 ∷ pos 2 ∷ []) ∷ follow (pos 2 ∷ pos 2 ∷ []) ∷ follow (pos 1 ∷ pos 2 ∷ pos 2 ∷ [])
    ∷ follow (pos 1 ∷ pos 1 ∷ pos 2 ∷ []) ∷ []
    ≡ (true ∷ true ∷ true ∷ []) ∷ (false ∷ true ∷ true ∷ []) ∷ (false ∷ true ∷ true ∷ []) ∷ (false ∷ false ∷ true ∷ [])
    ∷ (false ∷ false ∷ true ∷ []) ∷ (false ∷ true ∷ true ∷ []) ∷ []
unfolding opened
positions = refl

abbrev pub at : ℤ → ℕ → Point
at x d = record { at = x; degree = d }

-- A TERM as it is spelt, its points, as it is listed, and its degrees at 0.999, 1, 1.001, 1.999, 2 and 2.001
pub record Shape : Type 0 where
  pub text : String
  pub points : List Point
  pub listed : String
  pub degrees : List ℕ

abbrev shape : String → List Point → String → List ℕ → Shape
shape s ps l ds = record { text = s; points = ps; listed = l; degrees = ds }

abbrev values : List ℤ
values = pos 999 ∷ pos 1000 ∷ pos 1001 ∷ pos 1999 ∷ pos 2000 ∷ pos 2001 ∷ []

abbrev rectangle : List Point
rectangle = at (pos 1000) 0 ∷ at (pos 1000) 1000000 ∷ at (pos 2000) 1000000 ∷ at (pos 2000) 0 ∷ []

abbrev pub shapes : List Shape
shapes =
    shape "(1,0),(1,1),(2,1),(2,0)" rectangle "(1, 0), (1, 1), (2, 1), (2, 0)" (0 ∷ 1000000 ∷ 1000000 ∷ 1000000 ∷ 0 ∷ 0 ∷ [])
    -- first, falling
    ∷ shape "(1,1),(+01,0.4),(2,0)" (at (pos 1000) 1000000 ∷ at (pos 1000) 400000 ∷ at (pos 2000) 0 ∷ []) "(1, 1), (1, 0.4), (2, 0)"
    (1000000 ∷ 400000 ∷ 399600 ∷ 400 ∷ 0 ∷ 0 ∷ [])
    -- last
    ∷ shape "(1,0),(2,1),(2.000,0.3)" (at (pos 1000) 0 ∷ at (pos 2000) 1000000 ∷ at (pos 2000) 300000 ∷ []) "(1, 0), (2, 1), (2, 0.3)"
    (0 ∷ 0 ∷ 1000 ∷ 999000 ∷ 300000 ∷ 300000 ∷ [])
    -- in the middle
    ∷ shape "(0,0),(1,1),(1.0,0),(2,1)" (at (pos 0) 0 ∷ at (pos 1000) 1000000 ∷ at (pos 1000) 0 ∷ at (pos 2000) 1000000 ∷ [])
    "(0, 0), (1, 1), (1, 0), (2, 1)" (999000 ∷ 0 ∷ 1000 ∷ 999000 ∷ 1000000 ∷ 1000000 ∷ [])
    -- alone
    ∷ shape "(1,0.2),(1,0.7)" (at (pos 1000) 200000 ∷ at (pos 1000) 700000 ∷ []) "(1, 0.2), (1, 0.7)"
    (200000 ∷ 700000 ∷ 700000 ∷ 700000 ∷ 700000 ∷ 700000 ∷ [])
    -- of equal degrees, and a thousandth before the next
    ∷ shape "(1,0.5),(1,0.5),(1.001,1),(1.001,0)" (at (pos 1000) 500000 ∷ at (pos 1000) 500000 ∷ at (pos 1001) 1000000 ∷ at (pos 1001) 0 ∷ [])
    "(1, 0.5), (1, 0.5), (1.001, 1), (1.001, 0)" (500000 ∷ 500000 ∷ 0 ∷ 0 ∷ 0 ∷ 0 ∷ [])
    ∷ []

shapes_listed : map (λ h. term_line (record { name = bytes "t"; points = h.points })) shapes
    ≡ map (λ h. bytes "  TERM t := " ++ (bytes h.listed ++ bytes ";\n")) shapes
unfolding opened
shapes_listed = refl

shape_degrees : map (λ h. map (term_degree h.points) values) shapes ≡ map (λ h. h.degrees) shapes
unfolding opened
shape_degrees = refl

-- THE BOUND on the line from (0, 0) to (3, 1), a third of a millionth over 333,333 at 1; a half on that to (2, 0.001)
third : WithinHalf 333333 (pos 1000) (at (pos 0) 0) (at (pos 3000) 1000000)
third = (record { le = tt }, record { lt = tt })

third_below : WithinHalf 333332 (pos 1000) (at (pos 0) 0) (at (pos 3000) 1000000) → ⊥
third_below h = h.1.lt

third_above : WithinHalf 333334 (pos 1000) (at (pos 0) 0) (at (pos 3000) 1000000) → ⊥
third_above h = h.0.le

half_up : WithinHalf 1 (pos 1) (at (pos 0) 0) (at (pos 2000) 1000)
half_up = (record { le = tt }, record { lt = tt })

half_not_down : WithinHalf 0 (pos 1) (at (pos 0) 0) (at (pos 2000) 1000) → ⊥
half_not_down h = h.1.lt
