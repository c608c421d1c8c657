-- Sharp edges, W-203: where points may stand, and what holds of the degrees of every input term, as one claim.
use Rattle.std.specs.Prelude.{◌≡◌, true, List, [], ◌∷◌, ◌++◌, ◌↔◌, ℕ, ℤ, pos, ◌+ℤ◌, ◌-ℤ◌, ◌*ℤ◌, ◌≤ℤ◌, ◌<ℤ◌}
use Rattle.model.specs.Block.{Point, Term}
use Rattle.model.specs.Degrees.{term_degree}
use Rattle.model.specs.WellFormed.{in_order, term_ok}

-- of positions xs: none falls, and of three in a row the last is above the first
pub record TwoShare (xs : List ℤ) : Type 0 where
  pub no_fall : (os : List ℤ) (x y : ℤ) (rs : List ℤ) → xs ≡ os ++ (x ∷ y ∷ rs) → x ≤ℤ y
  pub no_third : (os : List ℤ) (x y z : ℤ) (rs : List ℤ) → xs ≡ os ++ (x ∷ y ∷ z ∷ rs) → x <ℤ z

-- d is at most half a millionth from the exact degree at x on the straight line from p to q, and a half goes up:
-- d - 1/2 ≤ exact / width < d + 1/2, multiplied by twice the width
abbrev pub WithinHalf : ℕ → ℤ → Point → Point → Type 0
WithinHalf d x p q =
    let width : ℤ = q.at -ℤ p.at in
    let exact : ℤ = pos p.degree *ℤ (q.at -ℤ x) +ℤ pos q.degree *ℤ (x -ℤ p.at) in
    ((pos 2 *ℤ (pos d *ℤ width)) ≤ℤ (pos 2 *ℤ exact +ℤ width)) × ((pos 2 *ℤ exact) <ℤ (pos 2 *ℤ (pos d *ℤ width) +ℤ width))

-- of the points ps of a term
pub record EdgesHold (ps : List Point) : Type 0 where
  -- at a position that two points share the later point's degree holds, exactly, also where the pair stands first or last
  pub shared : (os : List Point) (p q : Point) (rs : List Point) → ps ≡ os ++ (p ∷ q ∷ rs)
      → p.at ≡ q.at → term_degree ps q.at ≡ q.degree
  -- below the first point its degree, from the last one on that one's
  pub first : (p : Point) (rs : List Point) (x : ℤ) → ps ≡ p ∷ rs → x <ℤ p.at → term_degree ps x ≡ p.degree
  pub last : (os : List Point) (p : Point) (x : ℤ) → ps ≡ os ++ (p ∷ []) → p.at ≤ℤ x → term_degree ps x ≡ p.degree
  -- between neighbours the bound of half a millionth
  pub within_half : (os : List Point) (p q : Point) (rs : List Point) (x : ℤ) → ps ≡ os ++ (p ∷ q ∷ rs)
      → p.at ≤ℤ x → x <ℤ q.at → WithinHalf (term_degree ps x) x p q

pub record SharpEdges : Type 0 where
  -- two neighbouring points may share a position, three may not
  pub places : (xs : List ℤ) → in_order [] xs ≡ true ↔ TwoShare xs
  pub degrees : (t : Term) → term_ok t ≡ true → EdgesHold t.points
