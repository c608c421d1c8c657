-- A helper: the crisp bounds as a fact (model's `in_crisp` as a test: `crisp/proofs/Laws.bounds`), and distances above
-- the lowest crisp value.
use Rattle.std.specs.Prelude.{ℕ, ◌≤◌, ℤ, pos, nat_abs, ◌+ℤ◌}
use Rattle.model.specs.Bounds.{crisp_limit}

abbrev pub InCrisp : ℤ → Type 0
InCrisp z = nat_abs z ≤ crisp_limit

abbrev pub above : ℤ → ℕ
above z = nat_abs (z +ℤ pos crisp_limit)
