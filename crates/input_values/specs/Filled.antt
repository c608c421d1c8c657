-- A helper: arrays that are filled from the front, as lists of numbers.
-- `filled_at` of proofs/Fill ties them to the lists.
use Rattle.std.specs.Prelude.{List, ◌++◌, map, ℕ, ◌-◌, ℤ, pos, length, replicate, get_or}
use Rattle.model.specs.declared.Crisp.{Crisp}
use Rattle.crisp.specs.Crisp.{InCrisp}

-- xs, and a in the places past it, up to n
abbrev pub filled : {A : Type 0} → ℕ → A → List A → List A
filled n a xs = xs ++ replicate (n - length xs) a

abbrev pub figures : List Crisp → List ℤ
figures xs = map (λ x. x.0) xs

abbrev pub AllCrisp : List ℤ → Type 0
AllCrisp xs = (k : ℕ) → InCrisp (get_or xs k (pos 0))
