-- A helper: the last digits of a number. By definition model's `thousandths_text n` is `digits (n / 1000)` and
-- `after_point (trimmed (last_three n))` behind it.
use Rattle.std.specs.Prelude.{List, [], ◌∷◌, ℕ, ◌+◌, ◌/◌, ◌%◌}

abbrev pub last_digit : ℕ → List ℕ
last_digit n = (48 + n % 10) ∷ []

abbrev pub last_two : ℕ → List ℕ
last_two n = (48 + n / 10 % 10) ∷ last_digit n

abbrev pub last_three : ℕ → List ℕ
last_three n = (48 + n / 100 % 10) ∷ last_two n
