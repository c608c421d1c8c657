-- A helper: model's `may_follow` of positions of which the last two are known. `Ends` says of which positions that holds,
-- and `ends_none` and `ends_more` of proofs/Laws that it does of all that are taken up one by one.
use Rattle.std.specs.Prelude.{◌≡◌, Bool, List, [], ◌∷◌, ◌++◌, ℕ, ◌+◌, eqb, ℤ, length, if◌then◌else◌}
use Rattle.model.specs.Block.{may_follow}
use Rattle.term_rules.specs.declared.LastTwo.{LastTwo}

-- the last of n positions, at most two
abbrev pub last_of : ℕ → LastTwo → List ℤ
last_of n t =
    if eqb n 0 then [] else
    if eqb n 1 then t.later.0 ∷ [] else t.earlier.0 ∷ t.later.0 ∷ []

-- x may stand after n positions that end in these two
unfoldable pub may_stand : ℕ → LastTwo → ℤ → Bool
may_stand n t x = may_follow (last_of n t) x

-- one position more
abbrev pub last_with : LastTwo → ℤ → LastTwo
last_with t y = record { earlier = t.later; later = record { 0 = y } }

-- there are n positions, and these are the last two: which may follow, and which with one more
pub record Ends (ps : List ℤ) (n : ℕ) (last : LastTwo) : Type 0 where
  pub count : length ps ≡ n
  pub may : (x : ℤ) → may_follow ps x ≡ may_stand n last x
  pub more : (y x : ℤ) → may_follow (ps ++ (y ∷ [])) x ≡ may_stand (n + 1) (last_with last y) x
