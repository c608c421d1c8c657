-- A helper: the place that a refusal is told with. The contract of `number_and_place` ties it to model's `refusal_of`.
use Rattle.std.specs.Prelude.{ℕ, Option, Some, None}
use Rattle.std.proofs.Math.Option as place

abbrev pub place_of : Option ℕ → place.Option ℕ
place_of None = place.none
place_of (Some n) = place.some n
