-- Calls on a stored image, that of the block of `demand_3/proofs/Calls`: its fresh record and its list of calls; the order
-- of the checks, and held records that are right and wrong.
use mathlib.Core.List.{List, [], ◌∷◌, map}
use mathlib.Core.Option.{none, some}
use mathlib.Core.Path.{◌≡◌, refl}
use Prim.Native.Nat.{ℕ}
use lib.IntN.{ℤ, pos, negsuc}
use Rattle.model.specs.Outcome.{Outcome, accepted, refused}
use Rattle.model.specs.Image.{image}
use Rattle.model.specs.Evaluation.{held_of, CallResult, evaluate, fresh, record_in}
use Rattle.model.specs.declared.Reading.{Reading}
use Rattle.model.specs.declared.Reading.TheVariants.{Absent}
use Rattle.model.proofs.Opened.{opened}
use Rattle.model.proofs.Example.{trust}
use Rattle.demand_3.specs.Calls.{Trace}
use Rattle.demand_3.proofs.Calls.{block, whole, list}

abbrev stored : List ℕ
stored = image block

-- RANGE leaves 0 out on either side
fresh_record : fresh stored ≡ accepted (held_of (pos 10000 ∷ negsuc 1999 ∷ []))
unfolding opened
fresh_record = refl

-- each call is as the contracts say, so the list is one that `Demand3` speaks of
pub traced : Trace stored (record_in (fresh stored)) list
unfolding opened
traced = (
  record { verdict = refl; answers = refl; held = refl },
  (
    record { verdict = refl; answers = refl; held = refl },
    (
      record { verdict = refl; answers = refl; held = refl },
      (
        record { verdict = refl; answers = refl; held = refl },
        (
          record { verdict = refl; answers = refl; held = refl },
          (
            record { verdict = refl; answers = refl; held = refl },
            (
              record { verdict = refl; answers = refl; held = refl },
              (
                record { verdict = refl; answers = refl; held = refl },
                (record { verdict = refl; answers = refl; held = refl }, tt),
              ),
            ),
          ),
        ),
      ),
    ),
  ),
)

-- THE ORDER OF CHECKS, and what is wrong with a held record: below its RANGE, above it, an unused place
abbrev on_record : List ℕ → List Reading → ℕ → List ℤ → Outcome CallResult
on_record img rs n xs = evaluate img rs n (held_of xs)

checks_in_order :
    on_record [] [] 9 (pos 0 ∷ []) ∷ on_record stored [] 9 (pos 0 ∷ []) ∷ on_record stored [] 2 (pos 9999 ∷ negsuc 2999 ∷ [])
    ∷ on_record stored [] 2 (pos 10000 ∷ negsuc 998 ∷ []) ∷ on_record stored [] 2 (pos 10000 ∷ negsuc 2999 ∷ pos 1 ∷ [])
    ∷ on_record stored [] 2 (pos 10000 ∷ negsuc 2999 ∷ []) ∷ on_record stored (Absent ∷ Absent ∷ []) 0 (pos 10000 ∷ negsuc 2999 ∷ []) ∷ []
    ≡ refused 11 none ∷ refused 12 none ∷ refused 13 none ∷ refused 13 none ∷ refused 13 none ∷ refused 14 (some 0) ∷ refused 12 none ∷ []
unfolding opened
checks_in_order = refl

-- the second reading is missing
missing_second : on_record stored (whole (pos 0) ∷ []) 2 (pos 10000 ∷ negsuc 2999 ∷ []) ≡ refused 14 (some 1)
unfolding opened
missing_second = refl

-- of the example, whose output has no RANGE: the crisp bounds alone, and each unused place, also a negative one
abbrev wrong_records : List (List ℤ)
wrong_records =
    (pos 1000000001 ∷ []) ∷ (negsuc 1000000000 ∷ []) ∷ (pos 0 ∷ negsuc 0 ∷ []) ∷ (pos 0 ∷ pos 0 ∷ pos 1 ∷ [])
    ∷ (pos 0 ∷ pos 0 ∷ pos 0 ∷ pos 0 ∷ pos 0 ∷ negsuc 4 ∷ []) ∷ []

wrong_records_lem : map (on_record (image trust) (Absent ∷ []) 1) wrong_records ≡ map (λ xs. refused 13 none) wrong_records
unfolding opened
wrong_records_lem = refl

-- the ends of the crisp bounds, and of each RANGE, are held
right_records :
    on_record (image trust) (Absent ∷ []) 1 (pos 1000000000 ∷ []) ∷ on_record (image trust) (Absent ∷ []) 1 (negsuc 999999999 ∷ [])
    ∷ on_record stored (Absent ∷ []) 2 (pos 10000 ∷ negsuc 4999 ∷ []) ∷ on_record stored (whole (pos 0) ∷ Absent ∷ []) 2 (pos 20000 ∷ negsuc 1999 ∷ []) ∷ []
    ≡ refused 14 (some 0) ∷ refused 14 (some 0) ∷ refused 14 (some 0) ∷ refused 14 (some 1) ∷ []
unfolding opened
right_records = refl
