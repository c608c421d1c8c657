-- A helper: the name that bytes start with, in model's own definitions, and its bytes read once; `tidy_ends` of
-- proofs/Spelling ties that to model's `run` and `tidy`.
use Rattle.std.specs.Prelude.{Bool, not, List, [], ◌∷◌, ℕ, suc, take, if◌then◌else◌, Option, None, Some}
use Rattle.model.specs.Basic.{run}
use Rattle.model.specs.Tokens.{is_underscore, is_name_byte, is_name}

-- how many bytes the name has that s starts with; none where its name bytes are no name
unfoldable pub name_length : List ℕ → Option ℕ
name_length s = if is_name (take (run is_name_byte s) s) then Some (run is_name_byte s) else None

-- no name byte, or an underscore behind another; u: an underscore stands before it
abbrev pub ends_name : Bool → ℕ → Bool
ends_name u c = if is_underscore c then u else not (is_name_byte c)

-- a tidy name ends after n bytes, and not behind an underscore
abbrev pub tidy_at : Bool → ℕ → Option ℕ
tidy_at u n = if u then None else Some n

-- where the name bytes end, n of them before; none where they are not tidy
unfoldable pub tidy_end : Bool → ℕ → List ℕ → Option ℕ
tidy_end u n [] = tidy_at u n
tidy_end u n (c ∷ s) = if ends_name u c then tidy_at u n else tidy_end (is_underscore c) (suc n) s
