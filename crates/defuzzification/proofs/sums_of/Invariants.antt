use Prim.Native.Nat.{ℕ, ◌*◌, ◌-◌, ◌≤◌}
use lib.IntN.{ℤ}
use Rattle.model.specs.Basic.{tab}
use Rattle.model.specs.Bounds.{M}
use Rattle.model.specs.Image.{word_at, singleton_at}
use Rattle.degrees.specs.Tables.{numbers}
use Rattle.centre.specs.Centre.{SumsOf}
use Rattle.defuzzification.specs.Outputs.{height_of}
use Rattle.defuzzification.proofs.sums_of.Given as goal

abbrev pub place_in : (ℕ → ℕ) → ℕ → ℤ
place_in w j = (singleton_at w j).at

-- of the terms before t
abbrev pub invariant-loop-t : goal.invariant-loop-t
invariant-loop-t l =
    let k = l.t - l.first in record {
      sums : SumsOf l.sums.heights l.sums.moment (tab (place_in (word_at l.image.stored.bytes.now)) k l.first) (tab (height_of (numbers l.hs.at) l.image.input_terms) k l.first);
      small : l.sums.heights ≤ M * k;
    }
