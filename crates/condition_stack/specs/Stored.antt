-- A helper: which words of an image are a condition, in model's own definitions; `condition_in` and `condition_postfix`
-- of proofs/Accepted say what that means of the tree.
use Rattle.std.specs.Prelude.{Bool, ◌&&◌, List, ℕ, leb}
use Rattle.model.specs.Basic.{same, tab}
use Rattle.model.specs.Bounds.{depth_limit}
use Rattle.model.specs.Parentheses.{depth}
use Rattle.model.specs.WellFormed.{terms_below}
use Rattle.model.specs.Image.{postfix, tree_of}

-- the words are a condition over the first m terms that can be written with at most eight open parentheses
abbrev pub is_condition : ℕ → List ℕ → Bool
is_condition m ws = same ws (postfix (tree_of ws)) && (terms_below m (tree_of ws) && leb (depth (tree_of ws)) depth_limit)

-- n words from place d on
unfoldable pub condition_stored : (ℕ → ℕ) → ℕ → ℕ → ℕ → Bool
condition_stored w d n m = is_condition m (tab w n d)
