-- An unknown kind of reading.
use mathlib.Core.Path.{◌≡◌, refl, ap, ◌∙◌}
use mathlib.Core.List.{List, ◌∷◌}
use mathlib.Core.Option.{Option, none, some}
use Prim.Native.Nat.{ℕ, suc}
use borrow.Author.Tests.{ne_eqb}
use lib.IntN.{ℤ}
use Rattle.model.specs.Block.{Input}
use Rattle.model.specs.Outcome.{accepted, refused, and_then}
use Rattle.model.specs.Readings.{taken, value_in}
use Rattle.model.specs.Evaluation.{values_of}
use Rattle.model.specs.declared.InputType.{InputType}
use Rattle.model.specs.declared.InputType.TheVariants.{Real as real, Int as int}
use Rattle.model.specs.declared.Reading.{Reading}
use Rattle.model.specs.declared.Reading.TheVariants.{Absent}
use Rattle.call_crossing.specs.Values.{reading_of}
use Rattle.call_crossing.specs.declared.GrillenhelmReading.{GrillenhelmReading}

pub unknown_absent : (r : GrillenhelmReading) → (r.kind ≡ 1 → ⊥) → (r.kind ≡ 2 → ⊥) → reading_of r ≡ Absent
unknown_absent r one two = rw (ne_eqb r.kind 1 one, ne_eqb r.kind 2 two) refl

absent_none : (t : InputType) → value_in (taken t Absent) ≡ none
unfolding taken
absent_none real = refl
absent_none int = refl

-- it is refused 14 at its index, where no reading before it is refused
pub unknown_refused : (i : ℕ) (v : Input) (vs : List Input) (r : GrillenhelmReading) (rs : List Reading)
    → (r.kind ≡ 1 → ⊥) → (r.kind ≡ 2 → ⊥) → values_of i (v ∷ vs) (reading_of r ∷ rs) ≡ refused 14 (some i)
unfolding values_of
unknown_refused i v vs r rs one two =
    ap (λ (x : Reading). values_of i (v ∷ vs) (x ∷ rs)) (unknown_absent r one two)
    ∙ ap (λ (o : Option ℤ). elim o [ none ↦ refused 14 (some i) | some x ↦ and_then (values_of (suc i) vs rs) (λ xs. accepted (x ∷ xs)) ])
    (absent_none v.type)
