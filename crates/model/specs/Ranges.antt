-- RANGE and DEFAULT of an output as the code holds them, and as a block has them.
use Rattle.std.specs.Prelude.{ℤ, Option, None, Some}
use Rattle.std.proofs.Math.Option.{Option as BlockOption, none, some}
use Rattle.model.specs.Block.{Range as BlockRange}
use Rattle.model.specs.declared.Crisp.{Crisp}
use Rattle.model.specs.declared.Range.{Range}

abbrev pub range_view : Option Range → BlockOption BlockRange
range_view None = none
range_view (Some r) = some (record { least = r.least.0; most = r.most.0 })

abbrev pub default_view : Option Crisp → BlockOption ℤ
default_view None = none
default_view (Some x) = some x.0
