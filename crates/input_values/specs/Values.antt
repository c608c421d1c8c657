-- A helper: the values of the inputs as the code finds them.
-- `values_right` and `values_wrong` of proofs/Wrong tie it to model's `values_of`.
use Rattle.std.specs.Prelude.{List, [], ◌∷◌, ℤ}
use Rattle.std.proofs.Math.Option.{Option, none, some}
use Rattle.model.specs.Block.{Input}
use Rattle.model.specs.Readings.{taken, value_in}
use Rattle.model.specs.declared.Reading.{Reading}

abbrev pub before : Option ℤ → List ℤ → List ℤ
before none xs = []
before (some x) xs = x ∷ xs

-- those before the first input whose reading is wrong
unfoldable pub values_read : List Input → List Reading → List ℤ
values_read [] rs = []
values_read (v ∷ vs) [] = []
values_read (v ∷ vs) (r ∷ rs) = before (value_in (taken v.type r)) (values_read vs rs)
