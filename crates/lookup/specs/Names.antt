-- A helper: names as places in a text: the name k starts at the k-th place and ends at the (symbol_limit + k)-th. The
-- contract of `find` ties them to the model's `same_name`.
use Rattle.std.specs.Prelude.{◌≡◌, List, ℕ, ◌+◌, ◌≤◌, ◌<◌, length, get_or, MatchOption}
use Rattle.std.specs.declared.option.Option.{Option}
use Rattle.std.proofs.Math.Seq.{slice}
use Rattle.model.specs.Basic.{index_of, tab}
use Rattle.model.specs.Bounds.{symbol_limit}
use Rattle.model.specs.Tokens.{same_name}

-- the name k
unfoldable pub name_of : List ℕ → List ℕ → ℕ → List ℕ
name_of s names k = slice (get_or names k 0) (get_or names (symbol_limit + k) 0) s

-- the index of the name w among n names from k on; n where it is none of them
abbrev pub among : List ℕ → List ℕ → List ℕ → ℕ → ℕ → ℕ
among s names w n k = index_of (same_name w) (tab (name_of s names) n k)

-- it is looked up: r is its index, or none
abbrev pub Found : List ℕ → List ℕ → List ℕ → ℕ → ℕ → Option ℕ → Type 0
Found s names w n k r = MatchOption r (n ≡ among s names w n k) (λ i. (i ≡ among s names w n k) × (i < n))

-- every name lies in the text
pub record Placed (s names : List ℕ) : Type 0 where
  pub order : (k : ℕ) → k < symbol_limit → get_or names k 0 ≤ get_or names (symbol_limit + k) 0
  pub inside : (k : ℕ) → get_or names k 0 ≤ length s
