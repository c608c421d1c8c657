-- A list of two calls, one by value and one for daily use: crossed back, and how its record is handed on.
use mathlib.Core.Path.{◌≡◌, refl}
use mathlib.Core.Bool.{false}
use mathlib.Core.List.{List, [], ◌∷◌, map}
use Prim.Native.Nat.{ℕ}
use lib.Ieee.{Float, fin}
use lib.IntN.{pos, negsuc}
use lib.ListN.{replicate}
use Rattle.std.specs.Prelude.{Ok, Err}
use Rattle.model.specs.Evaluation.{no_answer, padded, held_of}
use Rattle.model.specs.declared.Held.{Held}
use Rattle.model.specs.declared.Mark.TheVariants.{Fired}
use Rattle.model.specs.declared.Reading.TheVariants.{Real, Int, Absent}
use Rattle.model.specs.declared.Refusal.TheVariants.{WrongReading}
use Rattle.demand_3.specs.Calls.{evaluated, daily}
use Rattle.call_crossing.specs.declared.GrillenhelmAnswer.{GrillenhelmAnswer}
use Rattle.outcome_crossing.specs.declared.GrillenhelmOutcome.{GrillenhelmOutcome}
use Rattle.call_crossing.specs.declared.GrillenhelmReading.{GrillenhelmReading}
use Rattle.call_crossing.specs.declared.GrillenhelmReadings.{GrillenhelmReadings}
use Rattle.host_calls.specs.HostCalls.{HostCall, returned, replied, HostLink, HostTrace, made_back}

abbrev real : Float → GrillenhelmReading
real x = record { kind = 1; real = x; whole = pos 0 }

abbrev nothing : GrillenhelmReading
nothing = record { kind = 0; real = fin false 0 (pos 0); whole = pos 0 }

abbrev two : GrillenhelmReading → GrillenhelmReading → GrillenhelmReadings
two a b = record { at = a ∷ b ∷ replicate 6 nothing; count = 2 }

abbrev told : ℕ → ℕ → ℕ → GrillenhelmOutcome
told number placed place = record { refusal = number; has_place = placed; place = place; length = 0 }

abbrev none : GrillenhelmAnswer
none = record { mark = 0; thousandths = pos 0; sum = 0; value = fin false 0 (pos 0) }

-- 30 and -5 fire 25 by a height of 1; then the INT is missing
abbrev calls : List HostCall
calls =
    returned (two (real (fin false 15 (pos 1))) (record { kind = 2; real = fin false 0 (pos 0); whole = negsuc 4 }))
    (record {
      outcome = told 0 0 0;
      answers = record { mark = 1; thousandths = pos 25000; sum = 1000000; value = fin false 25 (pos 0) } ∷ replicate 5 none;
      held = held_of (pos 25000 ∷ []);
    })
    ∷ replied (two (real (fin false 15 (pos 1))) nothing) (record { outcome = told 14 1 1; answers = replicate 6 none }) (held_of (pos 25000 ∷ []))
    ∷ []

crossed_back : map made_back calls
    ≡ evaluated (record { readings = Real (fin false 15 (pos 1)) ∷ Int (negsuc 4) ∷ replicate 6 Absent; count = 2 })
    (record {
      verdict = Ok tt;
      answers = record { mark = Fired; thousandths = record { 0 = pos 25000 }; sum = 1000000; value = fin false 25 (pos 0) } ∷ replicate 5 no_answer;
      held = held_of (pos 25000 ∷ []);
    })
    ∷ daily (record { readings = Real (fin false 15 (pos 1)) ∷ replicate 7 Absent; count = 2 })
    (record { verdict = Err (WrongReading 1); answers = padded no_answer [] }) (held_of (pos 25000 ∷ []))
    ∷ []
crossed_back = refl

-- the second call is made on the record that the first one returned
handed_on : (img : List ℕ) (h : Held) → HostTrace img h calls
    → HostLink img (held_of (pos 25000 ∷ [])) (two (real (fin false 15 (pos 1))) nothing)
    (record { outcome = told 14 1 1; answers = replicate 6 none; held = held_of (pos 25000 ∷ []) })
handed_on img h t = t.1.0
