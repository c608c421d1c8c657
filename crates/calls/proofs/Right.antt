-- A call is right exactly where its readings have crisp values and their number is the inputs'.
use Rattle.std.specs.Prelude.{if◌then◌else◌}
use mathlib.Core.Path.{◌≡◌, refl, ap, ◌∙◌}
use mathlib.Core.Bool.{Bool, true, false, ◌&&◌, not}
use mathlib.Core.List.{List, [], ◌∷◌}
use mathlib.Core.Option.{Option, none, some}
use Prim.Native.Nat.{ℕ, suc}
use lib.Dec.{eqb}
use lib.Ieee.{nan, inf, fin}
use lib.IntN.{ℤ}
use lib.ListN.{length}
use Rattle.model.specs.Block.{Input, Block}
use Rattle.model.specs.Outcome.{Outcome, accepted, refused, and_then, verdict_in}
use Rattle.model.specs.Readings.{real_of, taken, value_in}
use Rattle.model.specs.Evaluation.{values_of}
use Rattle.model.specs.declared.InputType.{InputType}
use Rattle.model.specs.declared.InputType.TheVariants.{Real as real, Int as int}
use Rattle.model.specs.declared.Reading.{Reading}
use Rattle.model.specs.declared.Reading.TheVariants.{Real, Int, Absent}
use Rattle.demand_3.specs.Calls.{Call, fits, all_fit, right_call, ruling, is_accepted}

abbrev is_some : Option ℤ → Bool
is_some none = false
is_some (some x) = true

fits_is : (t : InputType) (r : Reading) → is_some (value_in (taken t r)) ≡ fits t r
unfolding taken real_of
fits_is real (Real nan) = refl
fits_is real (Real (inf s)) = refl
fits_is real (Real (fin s m e)) = refl
fits_is real (Int n) = refl
fits_is real Absent = refl
fits_is int (Real x) = refl
fits_is int (Int n) = refl
fits_is int Absent = refl

accepted_then : {A B : Type 0} (o : Outcome A) (f : A → B) → is_accepted (and_then o (λ a. accepted (f a))) ≡ is_accepted o
accepted_then (accepted a) f = refl
accepted_then (refused n p) f = refl

pub values_fit : (i : ℕ) (vs : List Input) (rs : List Reading) → is_accepted (values_of i vs rs) ≡ all_fit vs rs
unfolding values_of all_fit
values_fit i [] rs = refl
values_fit i (v ∷ vs) [] = refl
values_fit i (v ∷ vs) (r ∷ rs) =
    go (values_fit (suc i) vs rs) (value_in (taken v.type r)) ∙ ap (λ (x : Bool). x && all_fit vs rs) (fits_is v.type r)
  where
    go : is_accepted (values_of (suc i) vs rs) ≡ all_fit vs rs → (o : Option ℤ)
        → is_accepted {A = List ℤ} (elim o [ none ↦ refused 14 (some i) | some x ↦ and_then (values_of (suc i) vs rs) (λ xs. accepted (x ∷ xs)) ])
        ≡ is_some o && all_fit vs rs
    go ih none = refl
    go ih (some x) = accepted_then (values_of (suc i) vs rs) (λ xs. x ∷ xs) ∙ ih

pub ruling_right : (b : Block) (c : Call) → is_accepted (ruling b c) ≡ right_call b c
unfolding ruling right_call
ruling_right b c = go (eqb c.count (length b.inputs))
  where
    o : Outcome (List ℤ)
    o = values_of 0 b.inputs c.readings

    go : (q : Bool) → is_accepted (if not q then refused 12 none else verdict_in o) ≡ q && all_fit b.inputs c.readings
    go true = accepted_then o (λ xs. tt) ∙ values_fit 0 b.inputs c.readings
    go false = refl
